-- A loop that writes units, one after another, over the first of the places.
use Rattle.std.proofs.Common.{◌≡◌, ℕ, ◌+◌, ◌<◌, ◌≤◌, List, [], ◌∷◌, ◌++◌, length, get_or, drop, set, refl, ap, ◌∙◌, arith, length-drop}
use lib.Seq.{paste}
use Rattle.std.proofs.lemmas.List.{drop_more}
use Rattle.std.proofs.lemmas.List.Edits.{paste_more, paste_all, length-paste}
use Rattle.text_value.specs.Units.{over}

-- Of the units us, n are written over the places that held old, and those of left are still to come.
pub record Writing {X : Type 0} (us left old out : List X) (n : ℕ) : Type 0 where
  pub rest : drop n us ≡ left
  pub within : n ≤ length us
  pub held : out ≡ paste old 0 us n

module _ {X : Type 0} (us old : List X) where
  pub writing_none : Writing us us old old 0
  writing_none = record { rest = refl; within = omega arith; held = refl }

  -- One more unit has a place, and is written there.
  pub writing_room : (left out : List X) (n : ℕ) (u : X) → length us ≤ length old → Writing us (u ∷ left) old out n → (n < length us) × (n < length out)
  writing_room left out n u fit w =
      let lt : n < length us = omega (arith, length-drop n us, ap length w.rest) in
      let k = length-paste old 0 us n (omega arith) w.within in
      (lt, omega (arith, ap length w.held))

  pub writing_more : (left out : List X) (n : ℕ) (u : X) → length us ≤ length old → Writing us (u ∷ left) old out n → Writing us left old (set out n u) (n + 1)
  writing_more left out n u fit w =
      let lt = (writing_room left out n u fit w).0 in
      let cut = drop_more us n u lt in
      let z : 0 + n ≡ n = omega arith in
      let here : get_or us n u ≡ u = cc in
      let put = paste_more old 0 us n u (omega arith) lt in
      let held = w.held in
      let rest = w.rest in
      record { rest = cc; within = omega arith; held = cc }

  pub writing_all : (out : List X) (n : ℕ) → Writing us [] old out n → (n ≡ length us) × (out ≡ over us old)
  writing_all out n w =
      let e : n ≡ length us = omega (arith, length-drop n us, ap length w.rest) in
      let z : 0 + n ≡ length us = omega arith in
      (e, w.held ∙ (paste_all old 0 us n e ∙ ap (λ k. us ++ drop k old) z))
