-- Total orders with their laws.
use Rattle.std.specs.Prelude.{◌≡◌, ℕ, List, refl}
use Rattle.std.specs.declared.cmp.Ordering.TheVariants.{Less, Equal, Greater}
use Rattle.std.specs.declared.cmp.Ordering.{Ordering}
use Rattle.std.proofs.Common.{sym, ap, true≢false}
use Rattle.std.specs.Ordering.{is_lt, ordering_reverse}
use Rattle.std.specs.Cmp.{IsTotalOrder, nat_cmp_total, then_total, on_total}
use Rattle.types.specs.declared.types.OpId.{OpId}
use Rattle.types.specs.declared.types.ObjId.{ObjId}
use Rattle.std.specs.Cmp.Lexicographic.{lists_total}

-- A total order on keys: items that compare equal have one key.
pub record Order (X : Type 0) : Type 0 where
  pub compare : X → X → Ordering
  pub itself : (a : X) → compare a a ≡ Equal
  pub flip : (a b : X) → compare b a ≡ ordering_reverse (compare a b)
  pub trans : (a b c : X) → compare a b ≡ Less → compare b c ≡ Less → compare a c ≡ Less
  pub alike : (a b c : X) → compare a b ≡ Equal → compare a c ≡ compare b c

-- an answer that is its own reverse
pub own_reverse : (r : Ordering) → r ≡ ordering_reverse r → r ≡ Equal
own_reverse Less h = absurd (true≢false (ap is_lt h))
own_reverse Equal h = refl
own_reverse Greater h = absurd (true≢false (sym (ap is_lt h)))

-- the order that a lawful comparison of the library gives
abbrev pub lawful : {X : Type 0} {R : X → X → Ordering} → IsTotalOrder R → Order X
lawful {R = R} o =
    record {
      compare = R;
      itself = λ a. own_reverse (R a a) (o.antisymm a a);
      flip = λ a b. o.antisymm b a;
      trans = o.trans;
      alike = o.congr;
    }

-- the library's laws of an order's comparison
pub total : {X : Type 0} (o : Order X) → IsTotalOrder o.compare
total o = record { antisymm = λ a b. o.flip b a; trans = o.trans; congr = o.alike }

-- an order pulled back along a function: items compare as what f gives of them
abbrev pub by : {X Y : Type 0} → (Y → X) → Order X → Order Y
by f o =
    record {
      compare = λ a b. o.compare (f a) (f b);
      itself = λ a. o.itself (f a);
      flip = λ a b. o.flip (f a) (f b);
      trans = λ a b c. o.trans (f a) (f b) (f c);
      alike = λ a b c. o.alike (f a) (f b) (f c);
    }

-- lists of bytes: the first that differs decides, and else the shorter comes first
abbrev pub by_bytes : Order (List ℕ)
by_bytes = lawful (lists_total nat_cmp_total)

-- identities by counter, then by actor
abbrev pub by_id : Order OpId
by_id = by {X = ℕ × ℕ} (λ (x : OpId). (x.counter, x.actor)) (lawful (then_total (on_total (λ p. p.0) nat_cmp_total) (on_total (λ p. p.1) nat_cmp_total)))

abbrev pub by_object : Order ObjId
by_object = by (λ (x : ObjId). x.0) by_id
