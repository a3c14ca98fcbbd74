-- One object's turn: what its calls do to its row, and so to the whole value.
use Rattle.std.proofs.Common.{◌≡◌, ℕ, ◌≤◌, Bool, true, false, cond, eqb, List, [], ◌∷◌, Ok, Err, sym, refl, ap, ◌∙◌, subst}
use mathlib.Core.Path.{fun_ext}
use mathlib.Core.Option.{none, some}
use Rattle.meaning.specs.Results.{Answer, on_ok, and_then}
use Rattle.meaning.specs.Lists.{Every, Apart}
use Rattle.meaning.specs.Entries.{Ref, ref_rank, Item}
use Rattle.meaning.specs.Patches.{Step, props, Patch}
use Rattle.meaning.specs.Rows.{Row, text_of, refs, ids, in_row, in_text}
use Rattle.meaning.specs.Values.{Value, text_v, built}
use Rattle.meaning.specs.Application.{at, on_screen, here, apply, apply_all, a_value}
use Rattle.meaning.specs.Documents.{Obj, Doc, find, items, Rising, values}
use Rattle.meaning.specs.Calls.{own_action}
use Rattle.meaning.specs.Builder.{Setting}
use Rattle.meaning.specs.Joining.{NarrowAt, Narrow}
use Rattle.meaning.specs.Log.{Event}
use Rattle.meaning.specs.Kept.{replay}
use Rattle.meaning.proofs.Tests.{eqb_yes, eqb_same, eqb_no, eqb_not, err_ok, okay, ok_inj}
use Rattle.meaning.proofs.Lens.{row_built}
use Rattle.meaning.proofs.Tree.{Later}
use Rattle.meaning.proofs.Place.{Leads, placed_at, reads_at}

module _ {U : Type 0} (units : List ℕ → List U) where
  -- the calls of events on one value
  abbrev pub all_here : List Event → Value U → Answer (Value U)
  all_here [] v = Ok v
  all_here (e ∷ es) v = and_then (here units (own_action units e.does) v) (all_here es)

  -- and as patches at a path
  abbrev pub patches_at : List Step → List Event → List (Patch U)
  patches_at p [] = []
  patches_at p (e ∷ es) = record { obj = e.on; path = p; action = own_action units e.does } ∷ patches_at p es

  -- in one object, the calls on its value are those on its row
  pub all_here_row : (es : List Event) (ρ : Row (List U) (Item (Value U))) → all_here es (built ρ) ≡ on_ok built (replay units on_screen es ρ)
  all_here_row [] ρ = refl
  all_here_row (e ∷ es) ρ = ap (λ t. and_then (on_ok built (in_row units on_screen (own_action units e.does) t)) (all_here es)) (row_built ρ) ∙ go (all_here_row es) (in_row units on_screen (own_action units e.does) ρ)
    where
      go : ((ρ : Row (List U) (Item (Value U))) → all_here es (built ρ) ≡ on_ok built (replay units on_screen es ρ)) → (t : Answer (Row (List U) (Item (Value U))))
          → and_then (on_ok built t) (all_here es) ≡ on_ok built (and_then t (replay units on_screen es))
      go ih (Err r) = refl
      go ih (Ok ρ) = ih ρ

  abbrev put_at : (ℕ → Value U) → ℕ → Value U → ℕ → Value U
  put_at base o v i = cond (eqb i o) v (base i)

  put_at_same : (base : ℕ → Value U) (o : ℕ) (v : Value U) → put_at base o v o ≡ v
  put_at_same base o v = ap (λ t. cond t v (base o)) (eqb_same o)

  put_at_else : (base : ℕ → Value U) (o : ℕ) (v : Value U) (i : ℕ) → (i ≡ o → ⊥) → put_at base o v i ≡ base i
  put_at_else base o v i n = ap (λ t. cond t v (base i)) (eqb_no i o n)

  base_ext : (o : ℕ) (base base' : ℕ → Value U) → ((i : ℕ) → (i ≡ o → ⊥) → base i ≡ base' i) → base o ≡ base' o → base ≡ base'
  base_ext o base base' h e = fun_ext (λ i. go i (eqb i o) refl)
    where
      go : (i : ℕ) (t : Bool) → eqb i o ≡ t → base i ≡ base' i
      go i true k = subst (λ j. base j ≡ base' j) (sym (eqb_yes i o k)) e
      go i false k = h i (eqb_not i o k)

  -- a value that is no text
  abbrev pub NoText : Value U → Type 0
  NoText v = (us : List U) → v ≡ text_v us → ⊥

  -- a text stays a text, so what ends as none has never been one
  text_here : (e : Event) (us : List U) (v : Value U) → here units (own_action units e.does) (text_v us) ≡ Ok v → (ys : List U) × (v ≡ text_v ys)
  text_here e us v h = go (in_text units (own_action units e.does) us) h
    where
      go : (t : Answer (List U)) → on_ok built (on_ok text_of t) ≡ Ok v → (ys : List U) × (v ≡ text_v ys)
      go (Err r) k = absurd (err_ok r v k)
      go (Ok ys) k = (ys, ok_inj (Ok v) v (text_v ys) refl (sym k))

  text_all : (es : List Event) (us : List U) (v : Value U) → all_here es (text_v us) ≡ Ok v → (ys : List U) × (v ≡ text_v ys)
  text_all [] us v h = (us, ok_inj (Ok v) v (text_v us) refl (sym h))
  text_all (e ∷ es) us v h = go (text_all es) (here units (own_action units e.does) (text_v us)) refl h
    where
      go : ((us : List U) (v : Value U) → all_here es (text_v us) ≡ Ok v → (ys : List U) × (v ≡ text_v ys)) → (t : Answer (Value U)) → here units (own_action units e.does) (text_v us) ≡ t → and_then t (all_here es) ≡ Ok v → (ys : List U) × (v ≡ text_v ys)
      go ih (Err r) k h = absurd (err_ok r v h)
      go ih (Ok w) k h =
          let (ys, j) = text_here e us w k in
          ih ys v (ap (all_here es) (sym j) ∙ h)

  pub no_text : (es : List Event) (v w : Value U) → all_here es v ≡ Ok w → NoText w → NoText v
  no_text es v w h n us e = let (ys, k) = text_all es us w (ap (all_here es) (sym e) ∙ h) in n ys k

  module _ (S : Setting U) (par : ℕ → ℕ) (par≤ : (x : ℕ) → par x ≤ x) (d : Doc) (up : Rising d) (late : Later d)
      (kids : (i : ℕ) (q : Obj) → find d i ≡ some q → Every (λ (r : Ref). par (ref_rank r) ≡ i) (refs (items q)))
      (once : (i : ℕ) (q : Obj) → find d i ≡ some q → Apart (ids (refs (items q))))
      (o : ℕ) (free : find d o ≡ none) (p : List Step) (way : Leads d 0 (props p) o) where
    -- a turn: the calls for o, as patches at its path
    pub turn : (es : List Event) (base base' : ℕ → Value U) → ((i : ℕ) → (i ≡ o → ⊥) → base i ≡ base' i) → all_here es (base o) ≡ Ok (base' o)
        → apply_all (apply units) (patches_at p es) (values units base d 0) ≡ Ok (values units base' d 0)
    turn [] base base' agree h = let e : base o ≡ base' o = cc in okay (ap (λ b. values units b d 0) (base_ext o base base' agree e))
    turn (x ∷ es) base base' agree h = go (turn es) (here units (own_action units x.does) (base o)) refl
      where
        go : ((base base' : ℕ → Value U) → ((i : ℕ) → (i ≡ o → ⊥) → base i ≡ base' i) → all_here es (base o) ≡ Ok (base' o) → apply_all (apply units) (patches_at p es) (values units base d 0) ≡ Ok (values units base' d 0))
            → (t : Answer (Value U)) → here units (own_action units x.does) (base o) ≡ t → apply_all (apply units) (patches_at p (x ∷ es)) (values units base d 0) ≡ Ok (values units base' d 0)
        go ih (Err r) e = absurd (err_ok r (base' o) (subst (λ t. and_then t (all_here es) ≡ Ok (base' o)) e h))
        go ih (Ok v) e =
            let k : all_here es v ≡ Ok (base' o) = subst (λ t. and_then t (all_here es) ≡ Ok (base' o)) e h in
            let m : at (props p) (here units (own_action units x.does)) (values units base d 0) ≡ Ok (values units (put_at base o v) d 0) =
            placed_at units par par≤ d up late kids once o base (put_at base o v) (here units (own_action units x.does)) free (λ i n. sym (put_at_else base o v i n)) (e ∙ okay (sym (put_at_same base o v))) (props p) 0 way in
            ap (λ t. and_then t (apply_all (apply units) (patches_at p es))) m
            ∙ ih (put_at base o v) base' (λ i n. put_at_else base o v i n ∙ agree i n) (ap (all_here es) (put_at_same base o v) ∙ k)

    -- where o ends as no text, no patch of its turn finds one at its path
    pub turn_narrow : (es : List Event) (base : ℕ → Value U) (w : Value U) → all_here es (base o) ≡ Ok w → NoText w
        → Narrow S (apply units) (patches_at p es) (values units base d 0)
    turn_narrow [] base w h n = tt
    turn_narrow (x ∷ es) base w h n = (first, rest (turn_narrow es))
      where
        first : NarrowAt S (record { obj = x.on; path = p; action = own_action units x.does }) (values units base d 0)
        first t us r =
            absurd (no_text (x ∷ es) (base o) w h n us
            (let k : ◌≡◌ {A = Answer _} (Ok (a_value (base o))) (Ok (a_value (text_v us))) = sym (reads_at units par par≤ d up late kids once o base free (props p) 0 way) ∙ r in cc))

        rest : ((base : ℕ → Value U) (w : Value U) → all_here es (base o) ≡ Ok w → NoText w → Narrow S (apply units) (patches_at p es) (values units base d 0))
            → (v : Value U) → at (props p) (here units (own_action units x.does)) (values units base d 0) ≡ Ok v → Narrow S (apply units) (patches_at p es) v
        rest ih v m = go ih (here units (own_action units x.does) (base o)) refl
          where
            go : ((base : ℕ → Value U) (w : Value U) → all_here es (base o) ≡ Ok w → NoText w → Narrow S (apply units) (patches_at p es) (values units base d 0))
                → (t : Answer (Value U)) → here units (own_action units x.does) (base o) ≡ t → Narrow S (apply units) (patches_at p es) v
            go ih (Err r) e = absurd (err_ok r w (subst (λ t. and_then t (all_here es) ≡ Ok w) e h))
            go ih (Ok y) e =
                let k : all_here es y ≡ Ok w = subst (λ t. and_then t (all_here es) ≡ Ok w) e h in
                let m' : at (props p) (here units (own_action units x.does)) (values units base d 0) ≡ Ok (values units (put_at base o y) d 0) =
                placed_at units par par≤ d up late kids once o base (put_at base o y) (here units (own_action units x.does)) free (λ i n. sym (put_at_else base o y i n)) (e ∙ okay (sym (put_at_same base o y))) (props p) 0 way in
                let s : v ≡ values units (put_at base o y) d 0 = ok_inj (at (props p) (here units (own_action units x.does)) (values units base d 0)) v (values units (put_at base o y) d 0) m m' in
                subst (Narrow S (apply units) (patches_at p es)) (sym s) (ih (put_at base o y) w (ap (all_here es) (put_at_same base o y) ∙ k) n)
