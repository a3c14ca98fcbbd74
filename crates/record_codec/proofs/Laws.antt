use Rattle.std.proofs.Common.{◌≡◌, ℕ, zero, suc, ◌+◌, ◌*◌, ◌/◌, ◌%◌, ◌<◌, List, [], ◌∷◌, ◌++◌, length, take, drop, Some, Option, sym, refl, ap, ◌∙◌, subst, append_assoc, arith, length-append}
use Rattle.std.proofs.lemmas.List.{take_at, drop_at, take-append-drop, length-take-le}
use Rattle.meaning.specs.Lists.{Every}
use Rattle.record_codec.specs.Codec.{Got, next, decide, Bytes, get32, put32, get64, put64, get_bytes, get_text, put_text, get_many, put_many, get_list, put_list}

-- What a reading shows: the bytes are those of the value and then the rest.
pub record Split {A : Type 0} (put : A → List ℕ) (Good : A → Type 0) (bs : List ℕ) (a : A) (r : List ℕ) : Type 0 where
  pub whole : bs ≡ put a ++ r
  pub good : Good a
  pub rest : Bytes r

-- A reader and a writer that belong together: what was written is read again, and what was read was written.
pub record Law {A : Type 0} (get : List ℕ → Got A) (put : A → List ℕ) (Good : A → Type 0) : Type 0 where
  pub back : (a : A) (r : List ℕ) → Good a → get (put a ++ r) ≡ Some (a, r)
  pub forth : (bs : List ℕ) (a : A) (r : List ℕ) → Bytes bs → get bs ≡ Some (a, r) → Split put Good bs a r

-- a reading in two steps, taken apart
pub record Step {A B : Type 0} (x : Got A) (f : A → List ℕ → Got B) (b : B) (s : List ℕ) : Type 0 where
  pub val : A
  pub mid : List ℕ
  pub first : x ≡ Some (val, mid)
  pub second : f val mid ≡ Some (b, s)

pub step : {A B : Type 0} (x : Got A) (f : A → List ℕ → Got B) (b : B) (s : List ℕ) → next x f ≡ Some (b, s) → Step x f b s
step x f b s e = grind arith

pub record Choice {A B : Type 0} (x : Option A) (f : A → Got B) (b : B) (s : List ℕ) : Type 0 where
  pub val : A
  pub first : x ≡ Some val
  pub second : f val ≡ Some (b, s)

pub choice : {A B : Type 0} (x : Option A) (f : A → Got B) (b : B) (s : List ℕ) → decide x f ≡ Some (b, s) → Choice x f b s
choice x f b s e = grind arith

pub val_is : {A : Type 0} (a b : A) (r s : List ℕ) → ◌≡◌ {A = Got A} (Some (a, r)) (Some (b, s)) → a ≡ b
val_is a b r s e = grind arith

pub rest_is : {A : Type 0} (a b : A) (r s : List ℕ) → ◌≡◌ {A = Got A} (Some (a, r)) (Some (b, s)) → r ≡ s
rest_is a b r s e = grind arith

back32 : (n : ℕ) (r : List ℕ) → n < 4294967296 → get32 (put32 n ++ r) ≡ Some (n, r)
back32 n r h = ap {B = Got ℕ} (λ k. Some (k, r)) (omega arith)

forth32 : (bs : List ℕ) (a : ℕ) (r : List ℕ) → Bytes bs → get32 bs ≡ Some (a, r) → Split put32 (λ n. n < 4294967296) bs a r
forth32 bs a r B e = grind arith

pub law32 : Law get32 put32 (λ n. n < 4294967296)
law32 = record { back = back32; forth = forth32 }

-- the second reader after the first: what the two bytes' parts make together
joins : (a b c : List ℕ) (bs r : List ℕ) → bs ≡ a ++ r → r ≡ b ++ c → bs ≡ (a ++ b) ++ c
joins a b c bs r e f = e ∙ (ap (λ t. a ++ t) f ∙ sym (append_assoc a b c))

back64 : (n : ℕ) (r : List ℕ) → n < 18446744073709551616 → get64 (put64 n ++ r) ≡ Some (n, r)
back64 n r h = grind (arith, back32)

forth64 : (bs : List ℕ) (a : ℕ) (r : List ℕ) → Bytes bs → get64 bs ≡ Some (a, r) → Split put64 (λ n. n < 18446744073709551616) bs a r
forth64 bs n r B e =
    let s1 = step (get32 bs) (λ h r. next (get32 r) (λ l s. Some (h * 4294967296 + l, s))) n r e in
    let s2 = step (get32 s1.mid) (λ l s. Some (s1.val * 4294967296 + l, s)) n r s1.second in
    let p1 = forth32 bs s1.val s1.mid B s1.first in
    let p2 = forth32 s1.mid s2.val s2.mid p1.rest s2.first in
    let v : s1.val * 4294967296 + s2.val ≡ n = val_is _ n s2.mid r s2.second in
    let w : s2.mid ≡ r = rest_is _ n s2.mid r s2.second in
    let g1 = p1.good in let g2 = p2.good in
    let hi : s1.val ≡ n / 4294967296 = omega arith in
    let lo : s2.val ≡ n % 4294967296 = omega arith in
    record {
      whole = joins (put32 (n / 4294967296)) (put32 (n % 4294967296)) r bs s1.mid (p1.whole ∙ ap (λ k. put32 k ++ s1.mid) hi) (p2.whole ∙ (ap (λ k. put32 k ++ s2.mid) lo ∙ ap (λ t. put32 (n % 4294967296) ++ t) w));
      good = omega arith;
      rest = subst Bytes w p2.rest;
    }

pub law64 : Law get64 put64 (λ n. n < 18446744073709551616)
law64 = record { back = back64; forth = forth64 }

every_take : {X : Type 0} (P : X → Type 0) (n : ℕ) (xs : List X) → Every P xs → Every P (take n xs)
every_take P zero xs h = tt
every_take P (suc n) [] h = tt
every_take P (suc n) (x ∷ xs) h = (h.0, every_take P n xs h.1)

every_drop : {X : Type 0} (P : X → Type 0) (n : ℕ) (xs : List X) → Every P xs → Every P (drop n xs)
every_drop P zero xs h = h
every_drop P (suc n) [] h = tt
every_drop P (suc n) (x ∷ xs) h = every_drop P n xs h.1

pub back_bytes : (n : ℕ) (t r : List ℕ) → length t ≡ n → get_bytes n (t ++ r) ≡ Some (t, r)
back_bytes n t r h = grind (arith, take_at, drop_at, length-append)

pub record Cut (n : ℕ) (bs t r : List ℕ) : Type 0 where
  pub whole : bs ≡ t ++ r
  pub sized : length t ≡ n
  pub good : Bytes t
  pub rest : Bytes r

pub forth_bytes : (n : ℕ) (bs t r : List ℕ) → Bytes bs → get_bytes n bs ≡ Some (t, r) → Cut n bs t r
forth_bytes n bs t r B e = grind (arith, take-append-drop, length-take-le, every_take, every_drop)

back_text : (t r : List ℕ) → (length t < 4294967296) × Bytes t → get_text (put_text t ++ r) ≡ Some (t, r)
back_text t r h = grind (arith, append_assoc, back32, back_bytes)

forth_text : (bs t r : List ℕ) → Bytes bs → get_text bs ≡ Some (t, r) → Split put_text (λ t. (length t < 4294967296) × Bytes t) bs t r
forth_text bs t r B e =
    let s = step (get32 bs) (λ n r. get_bytes n r) t r e in
    let p = forth32 bs s.val s.mid B s.first in
    let q = forth_bytes s.val s.mid t r p.rest s.second in
    let g = p.good in let z = q.sized in
    record {
      whole = joins (put32 (length t)) t r bs s.mid (p.whole ∙ ap (λ k. put32 k ++ s.mid) (sym z)) q.whole;
      good = (omega arith, q.good);
      rest = q.rest;
    }

pub law_text : Law get_text put_text (λ t. (length t < 4294967296) × Bytes t)
law_text = record { back = back_text; forth = forth_text }

module _ {A : Type 0} (get : List ℕ → Got A) (put : A → List ℕ) (Good : A → Type 0) (law : Law get put Good) where
  pub back_many : (xs : List A) (r : List ℕ) → Every Good xs → get_many get (length xs) (put_many put xs ++ r) ≡ Some (xs, r)
  back_many [] r g = refl
  back_many (x ∷ xs) r g =
      ap (get_many get (suc (length xs))) (append_assoc (put x) (put_many put xs) r)
      ∙ (ap (λ t. next t (λ a r. next (get_many get (length xs) r) (λ more s. Some (a ∷ more, s)))) (law.back x (put_many put xs ++ r) g.0)
      ∙ ap (λ t. next t (λ more s. Some (x ∷ more, s))) (back_many xs r g.1))

  pub record Ran (n : ℕ) (bs : List ℕ) (xs : List A) (r : List ℕ) : Type 0 where
    pub whole : bs ≡ put_many put xs ++ r
    pub sized : length xs ≡ n
    pub good : Every Good xs
    pub rest : Bytes r

  pub forth_many : (n : ℕ) (bs : List ℕ) (xs : List A) (r : List ℕ) → Bytes bs → get_many get n bs ≡ Some (xs, r) → Ran n bs xs r
  forth_many zero bs [] r B e = record { whole = rest_is {A = List A} [] [] bs r e; sized = refl; good = tt; rest = subst Bytes (rest_is {A = List A} [] [] bs r e) B }
  forth_many zero bs (x ∷ xs) r B e = let v : ◌≡◌ {A = List A} [] (x ∷ xs) = val_is _ _ bs r e in absurd cc
  forth_many (suc n) bs xs r B e =
      let s1 = step (get bs) (λ a r. next (get_many get n r) (λ more s. Some (a ∷ more, s))) xs r e in
      let s2 = step (get_many get n s1.mid) (λ more s. Some (s1.val ∷ more, s)) xs r s1.second in
      let p1 = law.forth bs s1.val s1.mid B s1.first in
      let p2 = forth_many n s1.mid s2.val s2.mid p1.rest s2.first in
      let v : s1.val ∷ s2.val ≡ xs = val_is _ xs s2.mid r s2.second in
      let w : s2.mid ≡ r = rest_is _ xs s2.mid r s2.second in
      let z = p2.sized in
      let made : Ran (suc n) bs (s1.val ∷ s2.val) r = record {
        whole = joins (put s1.val) (put_many put s2.val) r bs s1.mid p1.whole (p2.whole ∙ ap (λ t. put_many put s2.val ++ t) w);
        sized = ap suc z;
        good = (p1.good, p2.good);
        rest = subst Bytes w p2.rest;
      } in
      subst (λ ys. Ran (suc n) bs ys r) v made

  back_list : (xs : List A) (r : List ℕ) → (length xs < 4294967296) × Every Good xs → get_list get (put_list put xs ++ r) ≡ Some (xs, r)
  back_list xs r h =
      ap (get_list get) (append_assoc (put32 (length xs)) (put_many put xs) r)
      ∙ (ap (λ x. next x (λ n r. get_many get n r)) (back32 (length xs) (put_many put xs ++ r) h.0)
      ∙ back_many xs r h.1)

  forth_list : (bs : List ℕ) (xs : List A) (r : List ℕ) → Bytes bs → get_list get bs ≡ Some (xs, r) → Split (put_list put) (λ xs. (length xs < 4294967296) × Every Good xs) bs xs r
  forth_list bs xs r B e =
      let s = step (get32 bs) (λ n r. get_many get n r) xs r e in
      let p = forth32 bs s.val s.mid B s.first in
      let q = forth_many s.val s.mid xs r p.rest s.second in
      let g = p.good in let z = q.sized in
      record {
        whole = joins (put32 (length xs)) (put_many put xs) r bs s.mid (p.whole ∙ ap (λ k. put32 k ++ s.mid) (sym z)) q.whole;
        good = (omega arith, q.good);
        rest = q.rest;
      }

  pub law_list : Law (get_list get) (put_list put) (λ xs. (length xs < 4294967296) × Every Good xs)
  law_list = record { back = back_list; forth = forth_list }

-- One reader after another: the value tells what was read first.
module _ {A C : Type 0} (g : List ℕ → Got A) (p : A → List ℕ) (G : A → Type 0) (h : A → List ℕ → Got C) (q : C → List ℕ) (H : A → C → Type 0) (π : C → A) where
  pub law_bind : Law g p G → ((a : A) → Law (h a) q (H a)) → ((a : A) (c : C) → H a c → π c ≡ a) → Law (λ bs. next (g bs) h) (λ c. p (π c) ++ q c) (λ c. G (π c) × H (π c) c)
  law_bind lg lh same = record {
    back = λ c r k.
        ap (λ bs. next (g bs) h) (append_assoc (p (π c)) (q c) r)
        ∙ (ap (λ t. next t h) (lg.back (π c) (q c ++ r) k.0)
        ∙ (lh (π c)).back c r k.1);
    forth = λ bs c r B e.
        let s = step (g bs) h c r e in
        let u = lg.forth bs s.val s.mid B s.first in
        let v = (lh s.val).forth s.mid c r u.rest s.second in
        let i : s.val ≡ π c = sym (same s.val c v.good) in
        record {
          whole = u.whole ∙ (ap (λ a. p a ++ s.mid) i ∙ (ap (λ t. p (π c) ++ t) v.whole ∙ sym (append_assoc (p (π c)) (q c) r)));
          good = (subst G i u.good, subst (λ a. H a c) i v.good);
          rest = v.rest;
        };
  }

-- The last reader.
module _ {A C : Type 0} (g : List ℕ → Got A) (p : A → List ℕ) (G : A → Type 0) (mk : A → C) (π : C → A) where
  pub law_last : Law g p G → ((a : A) → G a → π (mk a) ≡ a) → Law (λ bs. next (g bs) (λ a r. Some (mk a, r))) (λ c. p (π c)) (λ c. G (π c) × (mk (π c) ≡ c))
  law_last lg same = record {
    back = λ c r k. ap (λ t. next t (λ a r. Some (mk a, r))) (lg.back (π c) r k.0) ∙ ap {B = Got C} (λ x. Some (x, r)) k.1;
    forth = λ bs c r B e.
        let s = step (g bs) (λ a r. Some (mk a, r)) c r e in
        let u = lg.forth bs s.val s.mid B s.first in
        let v : mk s.val ≡ c = val_is (mk s.val) c s.mid r s.second in
        let w : s.mid ≡ r = rest_is (mk s.val) c s.mid r s.second in
        let i : s.val ≡ π c = sym (same s.val u.good) ∙ ap π v in
        record {
          whole = u.whole ∙ (ap (λ a. p a ++ s.mid) i ∙ ap (λ t. p (π c) ++ t) w);
          good = (subst G i u.good, ap mk (sym i) ∙ v);
          rest = subst Bytes w u.rest;
        };
  }

-- The same reader under another reading of what is good, or of what is written.
pub law_good : {A : Type 0} (g : List ℕ → Got A) (p q : A → List ℕ) (G H : A → Type 0) → Law g p G → ((a : A) → G a → H a) → ((a : A) → H a → G a) → ((a : A) → H a → p a ≡ q a) → Law g q H
law_good g p q G H l f b e = record {
  back = λ a r k. ap (λ t. g (t ++ r)) (sym (e a k)) ∙ l.back a r (b a k);
  forth = λ bs a r B x.
      let s = l.forth bs a r B x in
      record { whole = s.whole ∙ ap (λ t. t ++ r) (e a (f a s.good)); good = f a s.good; rest = s.rest };
}
