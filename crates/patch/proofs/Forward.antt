-- Reading from the front and from the end.
use Rattle.std.proofs.Common.{◌≡◌, ◌≤◌, true, eqb, List, [], ◌∷◌, ◌++◌, reverse, length, sym, refl, ap, ◌∙◌, subst, arith, length-append}
use Rattle.std.proofs.lemmas.List.{take-append-le, drop-append-le, take_all, drop_all, nil_from_length, reverse-append, reverse-reverse}
use Rattle.std.proofs.lemmas.Bool.{and_parts, eqb-true}
use Rattle.patch.specs.declared.rows.PatchRow.{PatchRow}
use Rattle.patch.specs.Rows.{values_in, units_in}
use Rattle.patch.specs.Told.{Parts, plus, block, rest, ahead, after, patch_told, told, told_forward, fits_row, laid, BothWays}
use Rattle.patch.specs.declared.memory.PatchMemory.{PatchMemory}
use Rattle.patch.specs.Sound.{newest}
use Rattle.patch.specs.Held.{parts_of, held_of}
use Rattle.patch.specs.Walk.{rest_at}
use Rattle.sequence_tree.specs.Sequences.{held}
use Rattle.patch.proofs.Tell.{Fits, fits_parts, both_parts}

module _ {U : Type 0} where
  -- there is at least what a row has
  pub record Holds (r : PatchRow) (c : Parts U) : Type 0 where
    pub steps : r.steps ≤ length c.steps
    pub values : values_in r.action ≤ length c.values
    pub units : units_in r.action ≤ length c.units
    pub bytes : r.bytes ≤ length c.bytes

  -- the rows, oldest first, take all that there is
  abbrev pub Filled : List PatchRow → Parts U → Type 0
  Filled [] c = c ≡ record { steps = []; values = []; units = []; bytes = [] }
  Filled (r ∷ rs) c = Holds r c × Filled rs (after r c)

  -- one more row, with its own, at the end
  abbrev Snoc : List PatchRow → PatchRow → Parts U → Parts U → Type 0
  Snoc xs r f b = Filled (xs ++ r ∷ []) (plus f b) × (told_forward (xs ++ r ∷ []) (plus f b) ≡ told_forward xs f ++ patch_told r b ∷ [])

  only : (r : PatchRow) (b : Parts U) → Fits r b → Filled (r ∷ []) b × (told_forward (r ∷ []) b ≡ patch_told r b ∷ [])
  only r b h =
      let a : after r b ≡ record { steps = []; values = []; units = []; bytes = [] } =
      λ i. record { steps = drop_all r.steps b.steps (omega (arith, h.steps)) i; values = drop_all (values_in r.action) b.values (omega (arith, h.values)) i; units = drop_all (units_in r.action) b.units (omega (arith, h.units)) i; bytes = drop_all r.bytes b.bytes (omega (arith, h.bytes)) i } in
      let d : ahead r b ≡ b =
      λ i. record { steps = take_all r.steps b.steps (omega (arith, h.steps)) i; values = take_all (values_in r.action) b.values (omega (arith, h.values)) i; units = take_all (units_in r.action) b.units (omega (arith, h.units)) i; bytes = take_all r.bytes b.bytes (omega (arith, h.bytes)) i } in
      ((record { steps = omega (arith, h.steps); values = omega (arith, h.values); units = omega (arith, h.units); bytes = omega (arith, h.bytes) }, a), ap (λ x. patch_told r x ∷ []) d)

  after_plus : (x : PatchRow) (f b : Parts U) → Holds x f → after x (plus f b) ≡ plus (after x f) b
  after_plus x f b h =
      λ i. record { steps = drop-append-le x.steps f.steps b.steps h.steps i; values = drop-append-le (values_in x.action) f.values b.values h.values i; units = drop-append-le (units_in x.action) f.units b.units h.units i; bytes = drop-append-le x.bytes f.bytes b.bytes h.bytes i }

  ahead_plus : (x : PatchRow) (f b : Parts U) → Holds x f → ahead x (plus f b) ≡ ahead x f
  ahead_plus x f b h =
      λ i. record { steps = take-append-le x.steps f.steps b.steps h.steps i; values = take-append-le (values_in x.action) f.values b.values h.values i; units = take-append-le (units_in x.action) f.units b.units h.units i; bytes = take-append-le x.bytes f.bytes b.bytes h.bytes i }

  holds_plus : (x : PatchRow) (f b : Parts U) → Holds x f → Holds x (plus f b)
  holds_plus x f b h =
      let p = length-append f.steps b.steps in
      let q = length-append f.values b.values in
      let s = length-append f.units b.units in
      let t = length-append f.bytes b.bytes in
      record { steps = omega (arith, h.steps); values = omega (arith, h.values); units = omega (arith, h.units); bytes = omega (arith, h.bytes) }

  snoc : (xs : List PatchRow) (r : PatchRow) (f b : Parts U) → Filled xs f → Fits r b → Snoc xs r f b
  snoc [] r f b e h = subst (λ (x : Parts U). Filled (r ∷ []) (plus x b) × (told_forward (r ∷ []) (plus x b) ≡ patch_told r b ∷ [])) (sym e) (only r b h)
  snoc (x ∷ xs) r f b e h = go (snoc xs r (after x f) b e.1 h)
    where
      go : Snoc xs r (after x f) b → Snoc (x ∷ xs) r f b
      go t = (
        (holds_plus x f b e.0, subst (Filled (xs ++ r ∷ [])) (sym (after_plus x f b e.0)) t.0),
        (λ i. patch_told x (ahead_plus x f b e.0 i) ∷ ((ap (told_forward (xs ++ r ∷ [])) (after_plus x f b e.0) ∙ t.1) i)),
      )

  ways : (rs : List PatchRow) (c : Parts U) → laid rs c ≡ true → Filled (reverse rs) c × (told_forward (reverse rs) c ≡ reverse (told rs c))
  ways [] c h =
      let p = and_parts (eqb (length c.steps) 0) _ h in
      let q = and_parts (eqb (length c.values) 0) _ p.1 in
      let s = and_parts (eqb (length c.units) 0) (eqb (length c.bytes) 0) q.1 in (
        (λ i. record { steps = nil_from_length c.steps (eqb-true _ _ p.0) i; values = nil_from_length c.values (eqb-true _ _ q.0) i; units = nil_from_length c.units (eqb-true _ _ s.0) i; bytes = nil_from_length c.bytes (eqb-true _ _ s.1) i }),
        refl,
      )
  ways (r ∷ rs) c h = go (ways rs (rest r c) l.1)
    where
      l : (fits_row r (block r c) ≡ true) × (laid rs (rest r c) ≡ true)
      l = and_parts (fits_row r (block r c)) (laid rs (rest r c)) h

      go : Filled (reverse rs) (rest r c) × (told_forward (reverse rs) (rest r c) ≡ reverse (told rs (rest r c)))
          → Filled (reverse (r ∷ rs)) c × (told_forward (reverse (r ∷ rs)) c ≡ reverse (told (r ∷ rs) c))
      go t =
          let s : Snoc (reverse rs) r (rest r c) (block r c) = snoc (reverse rs) r (rest r c) (block r c) t.0 (fits_parts r (block r c) l.0) in
          let e : reverse (r ∷ rs) ≡ reverse rs ++ r ∷ [] = reverse-append (r ∷ []) rs in
          let d : reverse (told (r ∷ rs) c) ≡ reverse (told rs (rest r c)) ++ patch_told r (block r c) ∷ [] = reverse-append (patch_told r (block r c) ∷ []) (told rs (rest r c)) in (
            subst (λ (xs : List PatchRow). Filled xs c) (sym e) (subst (Filled (reverse rs ++ r ∷ [])) (both_parts r c) s.0),
            ap (λ xs. told_forward xs c) e
                ∙ (sym (ap (told_forward (reverse rs ++ r ∷ [])) (both_parts r c))
                ∙ (s.1 ∙ (ap (λ xs. xs ++ patch_told r (block r c) ∷ []) t.1 ∙ sym d))),
          )

pub both_ways : (U : Type 0) → BothWays U
both_ways U rs c h = (ways rs c h).1

pub from_start : {U : Type 0} (m : PatchMemory U) → rest_at m (record { row = 0; step = 0; value = 0; unit = 0; byte = 0 }) ≡ reverse (held_of m)
from_start {U = U} m = sym (ap (λ rs. told_forward rs (parts_of m)) (reverse-reverse (held m.rows))) ∙ both_ways U (newest m.rows) (parts_of m) m.shared
