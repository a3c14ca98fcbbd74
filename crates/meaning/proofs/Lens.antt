-- A path into a value: what stands at its end, and the value around it.
use Rattle.std.proofs.Common.{◌≡◌, ℕ, zero, suc, Bool, List, [], ◌∷◌, Ok, Err, Ordering, Less, Equal, Greater, sym, refl, ap, ◌∙◌}
use Rattle.types.specs.declared.error.Refusal.{Refusal}
use Rattle.types.specs.declared.error.Refusal.TheVariants.{ApplyInvalidProp, Fail}
use Rattle.meaning.specs.Results.{Answer, on_ok, and_then}
use Rattle.meaning.specs.Entries.{Key, compare_keys, by3, Item, scalar, object}
use Rattle.meaning.specs.Patches.{Prop, key, pos}
use Rattle.meaning.specs.Rows.{Row, map_of, list_of, text_of, mod_in, mod_at}
use Rattle.meaning.specs.Values.{Value, map_v, list_v, text_v, Entries, no_entry, scalar_entry, value_entry, Cells, no_cell, scalar_cell, value_cell, entry, entries, cells, entry_list, cell_list, built, row_of}
use Rattle.meaning.specs.Application.{on_object, at, a_value, entry_at, item_at, read_item, read}
use Rattle.meaning.proofs.Tests.{okay, on_ok_id, on_ok_comp}

-- values and their rows
module _ {U : Type 0} where
  entries_head : (k : Key) (e : Item (Value U)) (xs : List (Key × Item (Value U))) → entry_list (entries xs) ≡ xs → entry_list (entry k e (entries xs)) ≡ (k, e) ∷ xs
  entries_head k (scalar s f) xs h = ap (λ l. (k, scalar s f) ∷ l) h
  entries_head k (object v f) xs h = ap (λ l. (k, object v f) ∷ l) h

  pub list_entries : (m : List (Key × Item (Value U))) → entry_list (entries m) ≡ m
  list_entries [] = refl
  list_entries (x ∷ xs) = entries_head x.0 x.1 xs (list_entries xs)

  pub list_cells : (m : List (Item (Value U))) → cell_list (cells m) ≡ m
  list_cells [] = refl
  list_cells (scalar s f ∷ xs) = ap (λ l. scalar s f ∷ l) (list_cells xs)
  list_cells (object s f ∷ xs) = ap (λ l. object s f ∷ l) (list_cells xs)

  pub row_built : (r : Row (List U) (Item (Value U))) → row_of (built r) ≡ r
  row_built (map_of m) = ap map_of (list_entries m)
  row_built (list_of l) = ap list_of (list_cells l)
  row_built (text_of u) = refl

  entries_list : (es : Entries U) → entries (entry_list es) ≡ es
  entries_list no_entry = refl
  entries_list (scalar_entry k s f es) = ap (scalar_entry k s f) (entries_list es)
  entries_list (value_entry k v f es) = ap (value_entry k v f) (entries_list es)

  cells_list : (cs : Cells U) → cells (cell_list cs) ≡ cs
  cells_list no_cell = refl
  cells_list (scalar_cell s f cs) = ap (scalar_cell s f) (cells_list cs)
  cells_list (value_cell v f cs) = ap (value_cell v f) (cells_list cs)

  pub built_row : (v : Value U) → built (row_of v) ≡ v
  built_row (map_v es) = ap map_v (entries_list es)
  built_row (list_v cs) = ap list_v (cells_list cs)
  built_row (text_v us) = refl

-- one step into a collection c: the object x stands there in k, or the step misses
pub data Spot {X C : Type 0} (act : (X → Answer X) → C → Answer C) (look : C → Answer (Item X)) (c : C) : Type 0 where
  spot : (x : X) (b : Bool) (k : X → C) → c ≡ k x
      → ((g : X → Answer X) (z : X) → act g (k z) ≡ on_ok k (g z)) → ((z : X) → look (k z) ≡ Ok (object z b)) → Spot act look c
  miss : (r : Refusal) → ((g : X → Answer X) → act g c ≡ Err r) → Spot act look c

module _ {X : Type 0} where
  abbrev AtSpot : ℕ → List (Item X) → Type 0
  AtSpot i l = Spot (λ (g : X → Answer X). mod_at ApplyInvalidProp i (on_object g)) (item_at i) l

  at_more : (i : ℕ) (y : Item X) (xs : List (Item X)) → AtSpot i xs → AtSpot (suc i) (y ∷ xs)
  at_more i y xs (spot x b k e law look) =
      spot x b (λ z. y ∷ k z) (ap (λ l. y ∷ l) e) (λ g z. ap (on_ok (λ l. y ∷ l)) (law g z) ∙ on_ok_comp (λ l. y ∷ l) k (g z)) look
  at_more i y xs (miss r h) = miss r (λ g. ap (on_ok (λ l. y ∷ l)) (h g))

  spot_at : (i : ℕ) (l : List (Item X)) → AtSpot i l
  spot_at i [] = miss ApplyInvalidProp (λ g. refl)
  spot_at zero (scalar s b ∷ xs) = miss Fail (λ g. refl)
  spot_at zero (object x b ∷ xs) = spot x b (λ z. object z b ∷ xs) refl (λ g z. on_ok_comp (λ y. y ∷ xs) (λ y. object y b) (g z)) (λ z. refl)
  spot_at (suc i) (y ∷ xs) = at_more i y xs (spot_at i xs)

  abbrev InSpot : Key → List (Key × Item X) → Type 0
  InSpot k m = Spot (λ (g : X → Answer X). mod_in ApplyInvalidProp k (on_object g)) (entry_at k) m

  module _ (k j : Key) (e : Item X) (xs : List (Key × Item X)) where
    abbrev acts : Ordering → (X → Answer X) → Answer (List (Key × Item X))
    acts o g = by3 o (on_ok (λ ys. (j, e) ∷ ys) (mod_in ApplyInvalidProp k (on_object g) xs)) (on_ok (λ y. (j, y) ∷ xs) (on_object g e)) (on_ok (λ ys. (j, e) ∷ ys) (mod_in ApplyInvalidProp k (on_object g) xs))

  in_hit : (k j : Key) (e : Item X) (xs : List (Key × Item X)) → compare_keys k j ≡ Equal → InSpot k ((j, e) ∷ xs)
  in_hit k j (scalar s b) xs c = miss Fail (λ g. ap (λ o. acts k j (scalar s b) xs o g) c)
  in_hit k j (object x b) xs c =
      spot x b (λ z. (j, object z b) ∷ xs) refl
      (λ g z. ap (λ o. acts k j (object z b) xs o g) c ∙ on_ok_comp (λ y. (j, y) ∷ xs) (λ y. object y b) (g z))
      (λ z. ap (λ o. by3 o (entry_at k xs) (Ok (object z b)) (entry_at k xs)) c)

  in_past : (k j : Key) (e : Item X) (xs : List (Key × Item X)) (o : Ordering) → compare_keys k j ≡ o
      → ((a b : Answer (List (Key × Item X))) → by3 o a b a ≡ a) → ((a b : Answer (Item X)) → by3 o a b a ≡ a) → InSpot k xs → InSpot k ((j, e) ∷ xs)
  in_past k j e xs o c past past' (spot x b kk ex law look) =
      spot x b (λ z. (j, e) ∷ kk z) (ap (λ l. (j, e) ∷ l) ex)
      (λ g z. ap (λ t. acts k j e (kk z) t g) c ∙ past _ _ ∙ ap (on_ok (λ l. (j, e) ∷ l)) (law g z) ∙ on_ok_comp (λ l. (j, e) ∷ l) kk (g z))
      (λ z. ap (λ t. by3 t (entry_at k (kk z)) (Ok e) (entry_at k (kk z))) c ∙ past' _ _ ∙ look z)
  in_past k j e xs o c past past' (miss r h) = miss r (λ g. ap (λ t. acts k j e xs t g) c ∙ past _ _ ∙ ap (on_ok (λ l. (j, e) ∷ l)) (h g))

  spot_in : (k : Key) (m : List (Key × Item X)) → InSpot k m
  spot_in k [] = miss ApplyInvalidProp (λ g. refl)
  spot_in k (x ∷ xs) = go (compare_keys k x.0) refl (spot_in k xs)
    where
      go : (o : Ordering) → compare_keys k x.0 ≡ o → InSpot k xs → InSpot k (x ∷ xs)
      go Less c ih = in_past k x.0 x.1 xs Less c (λ a b. refl) (λ a b. refl) ih
      go Equal c ih = in_hit k x.0 x.1 xs c
      go Greater c ih = in_past k x.0 x.1 xs Greater c (λ a b. refl) (λ a b. refl) ih

-- x stands at the end of s in v, and k is what is around it; or a text on the way takes no notice; or the path fails
pub data Lens {U : Type 0} (s : List Prop) (v : Value U) : Type 0 where
  reaches : (x : Value U) (k : Value U → Value U) → v ≡ k x
      → ((g : Value U → Answer (Value U)) (z : Value U) → at s g (k z) ≡ on_ok k (g z))
      → ((z : Value U) → read s (k z) ≡ Ok (a_value z)) → Lens s v
  passes : ((g : Value U → Answer (Value U)) → at s g v ≡ Ok v) → Lens s v
  fails : (r : Refusal) → ((g : Value U → Answer (Value U)) → at s g v ≡ Err r) → Lens s v

module _ {U : Type 0} where
  lens_step : (p : Prop) (s : List Prop) (v x : Value U) (put : Value U → Value U) → v ≡ put x
      → ((g : Value U → Answer (Value U)) (z : Value U) → at (p ∷ s) g (put z) ≡ on_ok put (at s g z))
      → ((z : Value U) → read (p ∷ s) (put z) ≡ read s z)
      → Lens s x → Lens (p ∷ s) v
  lens_step p s v x put ev step look (reaches y k e law rd) =
      reaches y (λ z. put (k z)) (ev ∙ ap put e) (λ g z. step g (k z) ∙ ap (on_ok put) (law g z) ∙ on_ok_comp put k (g z)) (λ z. look (k z) ∙ rd z)
  lens_step p s v x put ev step look (passes h) =
      passes (λ g. ap (at (p ∷ s) g) ev ∙ step g x ∙ ap (on_ok put) (h g) ∙ okay (sym ev))
  lens_step p s v x put ev step look (fails r h) =
      fails r (λ g. ap (at (p ∷ s) g) ev ∙ step g x ∙ ap (on_ok put) (h g))

  lens_map : (k : Key) (s : List Prop) (es : Entries U) → InSpot k (entry_list es) → ((v : Value U) → Lens s v) → Lens (key k ∷ s) (map_v es)
  lens_map k s es (spot x b kk e law look) rec =
      lens_step (key k) s (map_v es) x (λ z. built (map_of (kk z))) (sym (built_row (map_v es)) ∙ ap (λ m. built (map_of m)) e)
      (λ g z. ap (λ m. on_ok built (on_ok map_of (mod_in ApplyInvalidProp k (on_object (at s g)) m))) (list_entries (kk z))
      ∙ ap (λ t. on_ok built (on_ok map_of t)) (law (at s g) z) ∙ ap (on_ok built) (on_ok_comp map_of kk (at s g z)) ∙ on_ok_comp built (λ y. map_of (kk y)) (at s g z))
      (λ z. ap (λ m. and_then (entry_at k m) (read_item s (read s))) (list_entries (kk z)) ∙ ap (λ t. and_then t (read_item s (read s))) (look z)) (rec x)
  lens_map k s es (miss r h) rec = fails r (λ g. ap (λ t. on_ok built (on_ok map_of t)) (h (at s g)))

  lens_list : (i : ℕ) (s : List Prop) (cs : Cells U) → AtSpot i (cell_list cs) → ((v : Value U) → Lens s v) → Lens (pos i ∷ s) (list_v cs)
  lens_list i s cs (spot x b kk e law look) rec =
      lens_step (pos i) s (list_v cs) x (λ z. built (list_of (kk z))) (sym (built_row (list_v cs)) ∙ ap (λ m. built (list_of m)) e)
      (λ g z. ap (λ m. on_ok built (on_ok list_of (mod_at ApplyInvalidProp i (on_object (at s g)) m))) (list_cells (kk z))
      ∙ ap (λ t. on_ok built (on_ok list_of t)) (law (at s g) z) ∙ ap (on_ok built) (on_ok_comp list_of kk (at s g z)) ∙ on_ok_comp built (λ y. list_of (kk y)) (at s g z))
      (λ z. ap (λ m. and_then (item_at i m) (read_item s (read s))) (list_cells (kk z)) ∙ ap (λ t. and_then t (read_item s (read s))) (look z)) (rec x)
  lens_list i s cs (miss r h) rec = fails r (λ g. ap (λ t. on_ok built (on_ok list_of t)) (h (at s g)))

  pub lens : (s : List Prop) (v : Value U) → Lens s v
  lens [] v = reaches v (λ z. z) refl (λ g z. on_ok_id (g z)) (λ z. refl)
  lens (key k ∷ s) (map_v es) = lens_map k s es (spot_in k (entry_list es)) (lens s)
  lens (key k ∷ s) (list_v cs) = fails Fail (λ g. refl)
  lens (key k ∷ s) (text_v us) = fails Fail (λ g. refl)
  lens (pos i ∷ s) (map_v es) = fails Fail (λ g. refl)
  lens (pos i ∷ s) (list_v cs) = lens_list i s cs (spot_at i (cell_list cs)) (lens s)
  lens (pos i ∷ s) (text_v us) = passes (λ g. refl)
