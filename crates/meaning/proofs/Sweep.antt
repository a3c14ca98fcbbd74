-- The sweep: the turns of all identities, in rising order, carry one document's value to the other's.
use Rattle.std.proofs.Common.{◌≡◌, ℕ, zero, suc, ◌<◌, ◌≤◌, Bool, true, false, cond, ◌||◌, eqb, List, [], ◌∷◌, ◌++◌, Ok, Err, sym, refl, ap, ◌∙◌, subst, ap₂, arith}
use mathlib.Core.Option.{Option, none, some, map}
use Rattle.types.specs.declared.types.ObjId.{ObjId}
use Rattle.types.specs.declared.types.ObjType.{ObjType}
use Rattle.types.specs.declared.types.ObjType.TheVariants.{Map, Table, List as Sequence, Text}
use Rattle.meaning.specs.Results.{Answer, on_ok, and_then, on_some}
use Rattle.meaning.specs.Lists.{In, Every, Apart, memb}
use Rattle.meaning.specs.Entries.{rank, ranks, Key, Entry, Ref, ref_rank, Item, scalar, object}
use Rattle.meaning.specs.Patches.{Prop, Step, props, Patch}
use Rattle.meaning.specs.Rows.{Row, map_of, list_of, text_of, map_item, map_pairs, map_items, map_row, refs_e, refs_p, refs_l, refs, ids}
use Rattle.meaning.specs.Values.{Value, built, bare}
use Rattle.meaning.specs.Application.{on_screen, apply, apply_all}
use Rattle.meaning.specs.Documents.{DocRow, Obj, name, Doc, find, row_placed, items, in_units, row_in, Rising, FitsKind, Lawful, values, value, seek, climb, path_of, is_text_kind, is_text_in, is_text}
use Rattle.meaning.specs.Calls.{Call, own_action}
use Rattle.meaning.specs.Builder.{Setting, own_at, own, over_doc}
use Rattle.meaning.specs.Joining.{Narrow}
use Rattle.meaning.specs.Log.{Event, Log}
use Rattle.meaning.specs.Making.{on_rank, events_of, inserts, puts, written, wrote}
use Rattle.meaning.specs.Kept.{Tag, old, new, untag, replay, Told, Kept, root, stays, LeadsRows}
use Rattle.meaning.proofs.Tests.{eqb_yes, eqb_same, or_false, or_right, none_some, okay, ok_inj, on_ok_inv, and_then_inv, on_some_some}
use Rattle.meaning.proofs.Members.{every_map, every_map₂, every_in, every_at, memb_in, memb_out}
use Rattle.meaning.proofs.Found.{find_name, find_every, top}
use Rattle.meaning.proofs.Natural.{replay_nat}
use Rattle.meaning.proofs.Tree.{Later, refs_units, row_cong, values_skip, values_head, values_in_lem, untouched}
use Rattle.meaning.proofs.Place.{Leads, target_in_lem}
use Rattle.meaning.proofs.Turn.{all_here, patches_at, NoText, turn, turn_narrow}
use Rattle.meaning.proofs.KeptRows.{Holds, kept_turn, written_turn}
use Rattle.meaning.proofs.Paths.{child, later_of, par, par≤, kids, once, rises, climb_sound, Climbs, climbs_root, climbs_more}
use Rattle.meaning.proofs.Upto.{upto, upto_every, upto_rising, find_below, find_above, find_upto, upto_none, upto_same, upto_more, upto_all, values_more}

-- a row whose objects all have P is the image of one whose objects come with their proofs
module _ {X : Type 0} (P : X → Type 0) where
  abbrev Sure : Type 0
  Sure = (x : X) × P x

  abbrev bare_of : Sure → X
  bare_of s = s.0

  sure_pairs : (m : List (Key × Item X)) → Every P (refs_p m) → (n : List (Key × Item Sure)) × (map_pairs bare_of n ≡ m)
  sure_pairs [] h = ([], refl)
  sure_pairs (x ∷ xs) h = go x.1 (sure_pairs xs) h
    where
      go : (e : Item X) → (Every P (refs_p xs) → (n : List (Key × Item Sure)) × (map_pairs bare_of n ≡ xs)) → Every P (refs_e e ++ refs_p xs) → (n : List (Key × Item Sure)) × (map_pairs bare_of n ≡ (x.0, e) ∷ xs)
      go (scalar s b) ih h = let (n, k) = ih h in ((x.0, scalar s b) ∷ n, ap (λ t. (x.0, scalar s b) ∷ t) k)
      go (object r b) ih h = let (n, k) = ih h.1 in ((x.0, object (r, h.0) b) ∷ n, ap (λ t. (x.0, object r b) ∷ t) k)

  sure_ents : (m : List (Item X)) → Every P (refs_l m) → (n : List (Item Sure)) × (map_items bare_of n ≡ m)
  sure_ents [] h = ([], refl)
  sure_ents (scalar s b ∷ xs) h = let (n, k) = sure_ents xs h in (scalar s b ∷ n, ap (λ t. scalar s b ∷ t) k)
  sure_ents (object r b ∷ xs) h = let (n, k) = sure_ents xs h.1 in (object (r, h.0) b ∷ n, ap (λ t. object r b ∷ t) k)

  sure_row : {W : Type 0} (ρ : Row W (Item X)) → Every P (refs ρ) → (n : Row W (Item Sure)) × (map_row bare_of n ≡ ρ)
  sure_row (map_of m) h = let (n, k) = sure_pairs m h in (map_of n, ap map_of k)
  sure_row (list_of m) h = let (n, k) = sure_ents m h in (list_of n, ap list_of k)
  sure_row (text_of m) h = (text_of m, refl)

  every_pairs : (n : List (Key × Item Sure)) → Every P (refs_p (map_pairs bare_of n))
  every_pairs [] = tt
  every_pairs (x ∷ xs) = go x.1 (every_pairs xs)
    where
      go : (e : Item Sure) → Every P (refs_p (map_pairs bare_of xs)) → Every P (refs_e (map_item bare_of e) ++ refs_p (map_pairs bare_of xs))
      go (scalar s b) ih = ih
      go (object r b) ih = (r.1, ih)

  every_ents : (n : List (Item Sure)) → Every P (refs_l (map_items bare_of n))
  every_ents [] = tt
  every_ents (scalar s b ∷ xs) = every_ents xs
  every_ents (object r b ∷ xs) = (r.1, every_ents xs)

  every_sure : {W : Type 0} (n : Row W (Item Sure)) → Every P (refs (map_row bare_of n))
  every_sure (map_of m) = every_pairs m
  every_sure (list_of m) = every_ents m
  every_sure (text_of m) = tt

module _ {U : Type 0} (units : List ℕ → List U) where
  -- what holds of a row's objects and of those placed, holds of the replayed row's
  replay_every : {X : Type 0} (P : X → Type 0) (f : Ref → X) (sure : (y : Ref) → P (f y)) (es : List Event) (ρ ρ' : Row (List U) (Item X))
      → Every P (refs ρ) → replay units f es ρ ≡ Ok ρ' → Every P (refs ρ')
  replay_every {X} P f sure es ρ ρ' h e =
      let (n, k) = sure_row P ρ h in
      let g : Ref → (x : X) × P x = λ y. (f y, sure y) in
      let c : on_ok (map_row (λ (s : (x : X) × P x). s.0)) (replay units g es n) ≡ Ok ρ' =
      sym (replay_nat (λ (s : (x : X) × P x). s.0) g units es n) ∙ ap (replay units f es) k ∙ e in
      let (n', _, j) = on_ok_inv (map_row (λ (s : (x : X) × P x). s.0)) (replay units g es n) ρ' c in
      subst (λ x. Every P (refs x)) (sym j) (every_sure P n')

module _ {X Y : Type 0} (f : X → Y) (P : Y → Type 0) where
  unrow_pairs : (m : List (Key × Item X)) → Every (λ x. P (f x)) (refs_p m) → Every P (refs_p (map_pairs f m))
  unrow_pairs [] h = tt
  unrow_pairs (x ∷ xs) h = go x.1 (unrow_pairs xs) h
    where
      go : (e : Item X) → (Every (λ x. P (f x)) (refs_p xs) → Every P (refs_p (map_pairs f xs))) → Every (λ x. P (f x)) (refs_e e ++ refs_p xs) → Every P (refs_e (map_item f e) ++ refs_p (map_pairs f xs))
      go (scalar s b) ih h = ih h
      go (object r b) ih h = (h.0, ih h.1)

  unrow_ents : (m : List (Item X)) → Every (λ x. P (f x)) (refs_l m) → Every P (refs_l (map_items f m))
  unrow_ents [] h = tt
  unrow_ents (scalar s b ∷ xs) h = unrow_ents xs h
  unrow_ents (object r b ∷ xs) h = (h.0, unrow_ents xs h.1)

  every_unrow : {W : Type 0} (ρ : Row W (Item X)) → Every (λ x. P (f x)) (refs ρ) → Every P (refs (map_row f ρ))
  every_unrow (map_of m) h = unrow_pairs m h
  every_unrow (list_of l) h = unrow_ents l h
  every_unrow (text_of t) h = tt

-- the own patches of calls
abbrev pub owns : {U : Type 0} → Setting U → List Event → List (Patch U)
owns S [] = []
owns S (e ∷ es) = own S e.on e.does (owns S es)

-- calls whose own patches lead from one value to another, and are narrow on the way
pub record Leading {U : Type 0} (units : List ℕ → List U) (S : Setting U) (es : List Event) (v w : Value U) : Type 0 where
  pub ends : apply_all (apply units) (owns S es) v ≡ Ok w
  pub narrow : Narrow S (apply units) (owns S es) v

module _ {U : Type 0} (units : List ℕ → List U) (S : Setting U) where
  owns_append : (a b : List Event) → owns S (a ++ b) ≡ owns S a ++ owns S b
  owns_append [] b = refl
  owns_append (x ∷ a) b = go (S.path x.on) (owns_append a b)
    where
      go : (p : Option (List Step)) → owns S (a ++ b) ≡ owns S a ++ owns S b
          → own_at p x.on (own_action S.units x.does) (owns S (a ++ b)) ≡ own_at p x.on (own_action S.units x.does) (owns S a) ++ owns S b
      go none ih = ih
      go (some p) ih = ap (λ t. record { obj = x.on; path = p; action = own_action S.units x.does } ∷ t) ih

  narrow_append : (a b : List (Patch U)) (v w : Value U) → apply_all (apply units) a v ≡ Ok w → Narrow S (apply units) a v → Narrow S (apply units) b w → Narrow S (apply units) (a ++ b) v
  narrow_append [] b v w h n m = subst (Narrow S (apply units) b) (ok_inj (Ok w) w v refl (sym h)) m
  narrow_append (p ∷ a) b v w h n m =
      let (x, e, k) = and_then_inv (apply units p v) (apply_all (apply units) a) w h in
      (n.0, λ y f. narrow_append a b y w (ap (apply_all (apply units) a) (ok_inj (apply units p v) y x f e) ∙ k) (n.1 y f) m)

  apply_append : (a b : List (Patch U)) (v : Value U) → apply_all (apply units) (a ++ b) v ≡ and_then (apply_all (apply units) a v) (apply_all (apply units) b)
  apply_append [] b v = refl
  apply_append (x ∷ a) b v = go (apply_append a b) (apply units x v)
    where
      go : ((v : Value U) → apply_all (apply units) (a ++ b) v ≡ and_then (apply_all (apply units) a v) (apply_all (apply units) b)) → (t : Answer (Value U)) → and_then t (apply_all (apply units) (a ++ b)) ≡ and_then (and_then t (apply_all (apply units) a)) (apply_all (apply units) b)
      go ih (Err r) = refl
      go ih (Ok w) = ih w

  pub leading_append : (a b : List Event) (v w z : Value U) → Leading units S a v w → Leading units S b w z → Leading units S (a ++ b) v z
  leading_append a b v w z p q =
      record {
        ends = ap (λ x. apply_all (apply units) x v) (owns_append a b) ∙ apply_append (owns S a) (owns S b) v ∙ ap (λ t. and_then t (apply_all (apply units) (owns S b))) p.ends ∙ q.ends;
        narrow = subst (λ x. Narrow S (apply units) x v) (sym (owns_append a b)) (narrow_append (owns S a) (owns S b) v w p.ends p.narrow q.narrow);
      }

  -- in texts of the document nothing is asked
  text_narrow : (p : List Step) (es : List Event) (v : Value U) → Every (λ (e : Event). S.text e.on ≡ true) es → Narrow S (apply units) (patches_at units p es) v
  text_narrow p [] v h = tt
  text_narrow p (e ∷ es) v h = ((λ t us r. absurd (let z : true ≡ false = sym h.0 ∙ t in let y : ◌≡◌ {A = ℕ} 0 1 = cc in omega arith)), λ w k. text_narrow p es w h.1)

-- the events of a turn are for its identity
events_on : (es : List Event) (n : ℕ) → Every (λ (e : Event). on_rank e ≡ n) (events_of es n)
events_on [] n = tt
events_on (e ∷ es) n = go (eqb (on_rank e) n) refl (events_on es n)
  where
    go : (t : Bool) → eqb (on_rank e) n ≡ t → Every (λ (e : Event). on_rank e ≡ n) (events_of es n) → Every (λ (e : Event). on_rank e ≡ n) (cond t (e ∷ events_of es n) (events_of es n))
    go true h ih = (eqb_yes (on_rank e) n h, ih)
    go false h ih = ih

puts_on : (o : ObjId) (m : List (Key × Entry)) → Every (λ (e : Event). on_rank e ≡ rank o) (puts o m)
puts_on o [] = tt
puts_on o (x ∷ xs) = (refl, puts_on o xs)

inserts_on : (o : ObjId) (i : ℕ) (l : List Entry) → Every (λ (e : Event). on_rank e ≡ rank o) (inserts o i l)
inserts_on o i [] = tt
inserts_on o i (x ∷ xs) = (refl, inserts_on o (suc i) xs)

written_on : (o : ObjId) (w : DocRow) → Every (λ (e : Event). on_rank e ≡ rank o) (written o w)
written_on o (map_of m) = puts_on o m
written_on o (list_of l) = inserts_on o 0 l
written_on o (text_of t) = (refl, tt)

wrote_on : (d : Doc) (n : ℕ) (f : Option Obj) → find d n ≡ f → Every (λ (e : Event). on_rank e ≡ n) (wrote f)
wrote_on d n none e = tt
wrote_on d n (some o) e = subst (λ i. Every (λ (x : Event). on_rank x ≡ i) (written o.ident o.row)) (find_name d n o e) (written_on o.ident o.row)

module _ {U : Type 0} (units : List ℕ → List U) (l : Log) (da db : Doc) (LA : Lawful da) (LB : Lawful db) (leads : LeadsRows units l da db) (refuses : List (Patch U) → ObjId → Call → Bool) (nw : ℕ → Bool) (nw_root : nw 0 ≡ false)
    (nw_kid : (i : ℕ) (q : Obj) → find db i ≡ some q → Every (λ (r : Ref). nw (ref_rank r) ≡ (memb (ref_rank r) (ranks l.exposed) || nw i)) (refs (items q))) where
  abbrev Stays : ℕ → Type 0
  Stays i = nw i ≡ false → Kept units l da i × (a : Obj) × (find da i ≡ some a)

  stays_root : Stays 0
  stays_root h = (root, LA.rooted.0, LA.rooted.1)

  abbrev From : Obj → Tag → Type 0
  From a (old r) = In r (refs (items a))
  From a (new r) = Unit {0}

  stays_kids : (i : ℕ) (q : Obj) → find db i ≡ some q → Stays i → Every (λ (r : Ref). Stays (ref_rank r)) (refs (items q))
  stays_kids i q e st = every_map (λ (r : Ref). nw (ref_rank r) ≡ (memb (ref_rank r) (ranks l.exposed) || nw i)) (λ (r : Ref). Stays (ref_rank r)) (refs (items q)) go (nw_kid i q e)
    where
      go : (r : Ref) → In r (refs (items q)) → nw (ref_rank r) ≡ (memb (ref_rank r) (ranks l.exposed) || nw i) → Stays (ref_rank r)
      go r m k h =
          let (f, g) = or_false (memb (ref_rank r) (ranks l.exposed)) (nw i) (sym k ∙ h) in
          let (kept, a, ea) = st g in
          let (ρ, rep, u, told) = leads i a q kept ea e in
          let from : Every (From a) (refs ρ) =
          replay_every units (From a) new (λ _. tt) (events_of l.events (name a)) (map_row old (row_in units a)) ρ (every_unrow old (From a) (row_in units a) (subst (Every (λ (r : Ref). In r (refs (items a)))) (sym (refs_units units (items a))) (every_in (λ (r : Ref). In r (refs (items a))) (refs (items a)) (λ r m. m)))) rep in
          let Good : Ref → Type 0 = λ r. memb (ref_rank r) (ranks l.exposed) ≡ false → Kept units l da (ref_rank r) × In r (refs (items a)) in
          let tagged : (t : Tag) → In t (refs ρ) → Good (untag t) =
          elim [
            | old r ↦ (λ m _. (stays kept a ea ρ rep r m, every_at (From a) (refs ρ) (old r) from m))
            | new r ↦ (λ m no-m. absurd (let y = memb_in (ref_rank r) (ranks l.exposed) (every_at (Told l) (refs ρ) (new r) told m) in let z : ◌≡◌ {A = ℕ} 0 1 = cc in omega arith))
          ] in
          let good : Every Good (refs (items q)) = subst (Every Good) (refs_units units (items q)) (subst (λ x. Every Good (refs x)) u (every_unrow untag Good ρ (every_in (λ t. Good (untag t)) (refs ρ) tagged))) in
          let (k', in_a) = every_at Good (refs (items q)) r good m f in
          let (_, c, fc, _, _) = every_at _ (refs (items a)) r (child da LA i a ea) in_a in
          (k', c, fc)

  stays_way : (p : List Prop) (i n : ℕ) → Leads db i p n → Stays i → Stays n
  stays_way [] i n h st = subst Stays h st
  stays_way (s ∷ p) i n (q, e, r, t, h) st = stays_way p (ref_rank r) n h (every_at (λ (r : Ref). Stays (ref_rank r)) (refs (items q)) r (stays_kids i q e st) (target_in_lem r s (items q) t))

  -- the screen's base: what a kept object shows before its turn, and a new one
  abbrev va : ℕ → Value U
  va = values units (λ _. bare Map) da

  abbrev kind_at : Option Obj → ObjType
  kind_at none = Map
  kind_at (some o) = o.kind

  abbrev base : ℕ → Value U
  base i = cond (nw i) (bare (kind_at (find db i))) (va i)

  base_new : (i : ℕ) (o : Obj) → nw i ≡ true → find db i ≡ some o → base i ≡ bare o.kind
  base_new i o h e = ap (λ t. cond t (bare (kind_at (find db i))) (va i)) h ∙ ap (λ t. bare (kind_at t)) e

  base_kept : (i : ℕ) → nw i ≡ false → base i ≡ va i
  base_kept i h = ap (λ t. cond t (bare (kind_at (find db i))) (va i)) h

  abbrev turn_at : ℕ → List Event
  turn_at n = cond (nw n) (wrote (find db n)) (events_of l.events n)

  turn_on : (n : ℕ) → Every (λ (e : Event). on_rank e ≡ n) (turn_at n)
  turn_on n = go (nw n)
    where
      go : (t : Bool) → Every (λ (e : Event). on_rank e ≡ n) (cond t (wrote (find db n)) (events_of l.events n))
      go true = wrote_on db n (find db n) refl
      go false = events_on l.events n

  -- the turn of a reachable object gives it its row of B
  own_turn : (n : ℕ) (o : Obj) (p : List Prop) → find db n ≡ some o → Leads db 0 p n → all_here units (turn_at n) (base n) ≡ Ok (built (map_row (λ (r : Ref). base (ref_rank r)) (row_in units o)))
  own_turn n o p e way = go (nw n) refl
    where
      go : (t : Bool) → nw n ≡ t → all_here units (turn_at n) (base n) ≡ Ok (built (map_row (λ (r : Ref). base (ref_rank r)) (row_in units o)))
      go true h =
          let ops : turn_at n ≡ written o.ident o.row = ap (λ t. cond t (wrote (find db n)) (events_of l.events n)) h ∙ ap wrote e in
          let same : Every (λ (r : Ref). on_screen r ≡ base (ref_rank r)) (refs (items o)) =
          every_map₂ _ (λ (r : Ref). nw (ref_rank r) ≡ (memb (ref_rank r) (ranks l.exposed) || nw n)) (λ (r : Ref). on_screen r ≡ base (ref_rank r)) (refs (items o))
          (λ r (b, c, f, k, w) j. let y : nw (ref_rank r) ≡ true = j ∙ ap (λ t. memb (ref_rank r) (ranks l.exposed) || t) h ∙ or_right (memb (ref_rank r) (ranks l.exposed)) in sym (base_new (ref_rank r) c y f ∙ ap bare k))
          (child db LB n o e) (nw_kid n o e) in
          ap₂ (λ a b. all_here units a b) ops (base_new n o h e)
          ∙ written_turn units o (find_every (λ (x : Obj). FitsKind x.kind x.row) db n o LB.shapes e) (rises db LB n o e)
          ∙ okay (ap built (row_cong units on_screen (λ (r : Ref). base (ref_rank r)) o same))
      go false h =
          let (kept, a, ea) = stays_way p 0 n way stays_root h in
          let named : name a ≡ n = find_name da n a ea in
          let late : Later da = later_of da LA in
          let ops : turn_at n ≡ events_of l.events (name a) = ap (λ t. cond t (wrote (find db n)) (events_of l.events n)) h ∙ ap (events_of l.events) (sym named) in
          let holds : Every (Holds units l va base) (refs (items o)) =
          every_map₂ _ (λ (r : Ref). nw (ref_rank r) ≡ (memb (ref_rank r) (ranks l.exposed) || nw n)) (Holds units l va base) (refs (items o))
          (λ r (b, c, f, k, w) j. (
            (λ out. base_kept (ref_rank r) (j ∙ ap (λ t. t || nw n) (memb_out (ref_rank r) (ranks l.exposed) out) ∙ h)),
            (λ isin. base_new (ref_rank r) c (j ∙ ap (λ t. t || nw n) (memb_in (ref_rank r) (ranks l.exposed) isin)) f ∙ ap bare k),
          ))
          (child db LB n o e) (nw_kid n o e) in
          ap₂ (λ x y. all_here units x y) ops (base_kept n h ∙ values_in_lem units (λ _. bare Map) da n a LA.rising late ea)
          ∙ kept_turn units l va base a o (leads n a o kept ea e) holds

  abbrev S : Setting U
  S = over_doc units db refuses

  same_path : (n : ℕ) (e : Event) → on_rank e ≡ n → path_of db e.on ≡ climb db n n
  same_path n e h = ap (λ i. climb db i i) h

  owns_none : (n : ℕ) (es : List Event) → Every (λ (e : Event). on_rank e ≡ n) es → climb db n n ≡ none → owns S es ≡ []
  owns_none n [] on e = refl
  owns_none n (x ∷ es) on e = ap (λ t. own_at t x.on (own_action units x.does) (owns S es)) (same_path n x on.0 ∙ e) ∙ owns_none n es on.1 e

  owns_some : (n : ℕ) (p : List Step) (es : List Event) → Every (λ (e : Event). on_rank e ≡ n) es → climb db n n ≡ some p → owns S es ≡ patches_at units p es
  owns_some n p [] on e = refl
  owns_some n p (x ∷ es) on e =
      ap (λ t. own_at t x.on (own_action units x.does) (owns S es)) (same_path n x on.0 ∙ e)
      ∙ ap (λ t. record { obj = x.on; path = p; action = own_action units x.does } ∷ t) (owns_some n p es on.1 e)

  -- a path to n passes only objects below n
  leads_low : (p : List Prop) (i n : ℕ) → Leads db i p n → i ≤ n
  leads_low [] i n h = omega arith
  leads_low (s ∷ p) i n (q, e, r, t, h) =
      let a = leads_low p (ref_rank r) n h in
      let (b, _, _, _, _) = every_at _ (refs (items q)) r (child db LB i q e) (target_in_lem r s (items q) t) in
      omega arith

  leads_upto : (p : List Prop) (i n : ℕ) → Leads db i p n → Leads (upto n db) i p n
  leads_upto [] i n h = h
  leads_upto (s ∷ p) i n (q, e, r, t, h) =
      let a = leads_low p (ref_rank r) n h in
      let (b, _, _, _, _) = every_at _ (refs (items q)) r (child db LB i q e) (target_in_lem r s (items q) t) in
      (q, find_below n db i (omega arith) ∙ e, r, t, leads_upto p (ref_rank r) n h)

  path_object : (n m : ℕ) (p : List Step) → climb db m n ≡ some p → (o : Obj) × (find db n ≡ some o)
  path_object n m p e = go (eqb n 0) refl
    where
      none_no : (m : ℕ) → climb db m n ≡ some p → eqb n 0 ≡ false → (o : Obj) × (find db n ≡ some o)
      none_no zero e h = absurd (none_some p (subst (λ t. cond t (some []) none ≡ some p) h e))
      none_no (suc m) e h =
          let (c, fc, _) = on_some_some (find db n) _ p (subst (λ t. cond t (some []) (on_some (find db n) (λ c. on_some (find db (rank c.parent)) (λ q. on_some (seek n (items q)) (λ s. map (λ p. p ++ (record { leaves = q.ident; prop = s } ∷ [])) (climb db m (rank c.parent)))))) ≡ some p) h e) in
          (c, fc)

      go : (t : Bool) → eqb n 0 ≡ t → (o : Obj) × (find db n ≡ some o)
      go true h = (LB.rooted.0, ap (find db) (eqb_yes n 0 h) ∙ LB.rooted.1)
      go false h = none_no m e h

  -- no object but a text has a text's row
  row_no_text : (f : Ref → Value U) (k : ObjType) (w : DocRow) → FitsKind k w → is_text_kind k ≡ false → NoText units (built (map_row f (in_units units (row_placed (λ r. r) w))))
  row_no_text f k (map_of m) fits t us e = let z : ◌≡◌ {A = ℕ} 0 1 = cc in omega arith
  row_no_text f k (list_of m) fits t us e = let z : ◌≡◌ {A = ℕ} 0 1 = cc in omega arith
  row_no_text f Map (text_of m) fits t us e = fits
  row_no_text f Table (text_of m) fits t us e = fits
  row_no_text f Sequence (text_of m) fits t us e = fits
  row_no_text f Text (text_of m) fits t us e = let z : ◌≡◌ {A = ℕ} 0 1 = cc in omega arith

  step : (n : ℕ) → Leading units S (turn_at n) (values units base (upto n db) 0) (values units base (upto (suc n) db) 0)
  step n = go (climb db n n) refl
    where
      d : Doc
      d = upto n db

      up : Rising d
      up = upto_rising n db LB.rising

      late : Later d
      late = upto_every (λ (o : Obj). Every (λ (r : Ref). name o < ref_rank r) (refs (items o))) n db (later_of db LB)

      last : (o : Obj) → find db n ≡ some o → values units base (upto (suc n) db) 0 ≡ values units (values units base (o ∷ [])) d 0
      last o e = ap (λ x. values units base x 0) (upto_more n db o LB.rising e) ∙ ap (λ (g : ℕ → Value U). g 0) (values_more units base d (o ∷ []))

      off : (o : Obj) → find db n ≡ some o → (i : ℕ) → (i ≡ n → ⊥) → base i ≡ values units base (o ∷ []) i
      off o e i ne = sym (values_skip units base o [] i (λ k. ne (k ∙ find_name db n o e)))

      hidden : climb db n n ≡ none → (f : Option Obj) → find db n ≡ f → values units base d 0 ≡ values units base (upto (suc n) db) 0
      hidden none-at none e = ap (λ x. values units base x 0) (sym (upto_same n db e))
      hidden none-at (some o) e =
          untouched units (λ z. Climbs db LB z → Climbs db LB n) base (values units base (o ∷ [])) d up late
          (λ i q f. every_in (λ (r : Ref). (Climbs db LB (ref_rank r) → Climbs db LB n) → Climbs db LB i → Climbs db LB n) (refs (items q)) (λ r m g c. g (climbs_more db LB i q r (find_upto n db i q f) m c)))
          (λ i _ out. off o e i (λ k. out (subst (λ z. Climbs db LB z → Climbs db LB n) (sym k) (λ c. c))))
          0 (λ g. let (p, y) = g (climbs_root db LB) n (omega arith) in none_some p (sym none-at ∙ y))
          ∙ sym (last o e)

      go : (w : Option (List Step)) → climb db n n ≡ w → Leading units S (turn_at n) (values units base d 0) (values units base (upto (suc n) db) 0)
      go none e =
          record {
            ends = ap (λ x. apply_all (apply units) x (values units base d 0)) (owns_none n (turn_at n) (turn_on n) e) ∙ okay (hidden e (find db n) refl);
            narrow = subst (λ x. Narrow S (apply units) x (values units base d 0)) (sym (owns_none n (turn_at n) (turn_on n) e)) tt;
          }
      go (some p) e =
          let way = climb_sound db LB n n p e in
          let (o, fo) = path_object n n p e in
          let nm : name o ≡ n = find_name db n o fo in
          let done : values units base (o ∷ []) n ≡ built (map_row (λ (r : Ref). base (ref_rank r)) (row_in units o)) = values_head units base o [] n (ap (eqb n) nm ∙ eqb_same n) in
          let ks : (i : ℕ) (q : Obj) → find d i ≡ some q → Every (λ (r : Ref). par db LB (ref_rank r) ≡ i) (refs (items q)) = λ i q f. kids db LB i q (find_upto n db i q f) in
          let on : (i : ℕ) (q : Obj) → find d i ≡ some q → Apart (ids (refs (items q))) = λ i q f. once db LB i q (find_upto n db i q f) in
          let free = find_above n db n (omega arith) in
          let low = leads_upto (props p) 0 n way in
          let mine = own_turn n o (props p) fo way in
          let is-text : is_text_kind o.kind ≡ true → Every (λ (x : Event). is_text db x.on ≡ true) (turn_at n) =
          λ k. every_map (λ (x : Event). on_rank x ≡ n) (λ (x : Event). is_text db x.on ≡ true) (turn_at n) (λ x _ j. ap (λ i. is_text_in (find db i)) j ∙ ap is_text_in fo ∙ k) (turn_on n) in
          let narrow-by : (t : Bool) → is_text_kind o.kind ≡ t → Narrow S (apply units) (patches_at units p (turn_at n)) (values units base d 0) =
          elim [
            | true ↦ (λ k. text_narrow units S p (turn_at n) (values units base d 0) (is-text k))
            | false ↦ (λ k. turn_narrow units S (par db LB) (par≤ db LB) d up late ks on n free p low (turn_at n) base (built (map_row (λ (r : Ref). base (ref_rank r)) (row_in units o))) mine
                (row_no_text (λ (r : Ref). base (ref_rank r)) o.kind o.row (find_every (λ (x : Obj). FitsKind x.kind x.row) db n o LB.shapes fo) k))
          ] in
          record {
            ends = ap (λ x. apply_all (apply units) x (values units base d 0)) (owns_some n p (turn_at n) (turn_on n) e)
                ∙ turn units S (par db LB) (par≤ db LB) d up late ks on n free p low (turn_at n) base (values units base (o ∷ [])) (off o fo) (mine ∙ okay (sym done))
                ∙ okay (sym (last o fo));
            narrow = subst (λ x. Narrow S (apply units) x (values units base d 0)) (sym (owns_some n p (turn_at n) (turn_on n) e)) (narrow-by (is_text_kind o.kind) refl);
          }

  -- the turns of all identities below n
  abbrev pub swept : ℕ → List Event
  swept zero = []
  swept (suc n) = swept n ++ turn_at n

  sweep : (n : ℕ) → Leading units S (swept n) (value units da) (values units base (upto n db) 0)
  sweep zero =
      record {
        ends = okay (sym (base_kept 0 nw_root) ∙ ap (λ x. values units base x 0) (sym (upto_none 0 db (every_in (λ (o : Obj). 0 ≤ name o) db (λ o _. omega arith)))));
        narrow = tt;
      }
  sweep (suc n) = leading_append units S (swept n) (turn_at n) (value units da) (values units base (upto n db) 0) (values units base (upto (suc n) db) 0) (sweep n) (step n)

  closed : values units base db 0 ≡ value units db
  closed =
      untouched units (λ z. find db z ≡ none) base (λ _. bare Map) db LB.rising (later_of db LB)
      (λ i q e. every_map _ (λ (r : Ref). find db (ref_rank r) ≡ none → find db i ≡ none) (refs (items q)) (λ r _ (b, c, f, _, _) h. absurd (none_some c (sym h ∙ f))) (child db LB i q e))
      (λ i e out. absurd (out e))
      0 (λ h. none_some LB.rooted.0 (sym h ∙ LB.rooted.1))

  -- the turns of all identities, in rising order, carry A's value to B's
  pub carried : (n : ℕ) → top db ≤ n → Leading units S (swept n) (value units da) (value units db)
  carried n h = subst (Leading units S (swept n) (value units da)) (ap (λ x. values units base x 0) (upto_all n db h) ∙ closed) (sweep n)
