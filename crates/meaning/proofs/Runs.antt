-- From one call to whole runs.
use Rattle.std.proofs.Common.{◌≡◌, ℕ, Bool, true, false, cond, eqb, List, [], ◌∷◌, ◌++◌, reverse, Ok, Err, sym, refl, ap, ◌∙◌, subst}
use mathlib.Core.Path.{fun_ext}
use mathlib.Core.List.{reverse_aux-eq}
use mathlib.Core.Option.{Option, none, some}
use Rattle.types.specs.declared.types.ObjId.{ObjId}
use Rattle.types.specs.declared.error.Refusal.TheVariants.{ValueFull}
use Rattle.meaning.specs.Results.{Answer, provided, on_ok, and_then}
use Rattle.meaning.specs.Patches.{Prop, Step, props, Action, Patch}
use Rattle.meaning.specs.Rows.{text_of, in_text}
use Rattle.meaning.specs.Values.{Value, text_v, built}
use Rattle.meaning.specs.Application.{at, here, apply, apply_in, apply_all, a_value, read}
use Rattle.meaning.specs.Calls.{Call, own_action}
use Rattle.meaning.specs.Builder.{Setting, State, Input, call, take_patches, Joined, apart, into, gone, join, same_obj, own, settle, accept, start, joined, hear, run, own_patches, over_doc}
use Rattle.meaning.specs.Joining.{OneWide, NarrowAt, Narrow, ChangesNothing, JoiningLaw}
use Rattle.meaning.proofs.Tests.{eqb_yes, both, err_ok, okay, ok_inj, some_inj, provided_inv, on_ok_inv, on_ok_comp, and_then_inv}
use Rattle.meaning.proofs.Lens.{Lens, reaches, passes, fails, lens}
use Rattle.meaning.proofs.Local.{Sound, local}
use Rattle.meaning.proofs.Keep.{Kept, keeps}

pub same_obj_lem : (a b : ObjId) → same_obj a b ≡ true → a ≡ b
same_obj_lem a b e =
    let p = both (eqb a.0.counter b.0.counter) (eqb a.0.actor b.0.actor) e in
    let q : a.0.counter ≡ b.0.counter = eqb_yes a.0.counter b.0.counter p.0 in
    let r : a.0.actor ≡ b.0.actor = eqb_yes a.0.actor b.0.actor p.1 in
    λ i. record { 0 = record { counter = q i; actor = r i } }

module _ {U : Type 0} (units : List ℕ → List U) where
  -- what joining owes at a path
  abbrev SoundAt : Bool → List Prop → Joined U → Value U → Value U → Type 0
  SoundAt txt s apart u w = Unit {0}
  SoundAt txt s (into h) u w = (at s (here units h) u ≡ Ok w) × (txt ≡ false → (us : List U) → read s u ≡ Ok (a_value (text_v us)) → OneWide units h)
  SoundAt txt s gone u w = w ≡ u

  value_inj : (x y : Value U) → a_value x ≡ a_value y → x ≡ y
  value_inj x y e = cc

  stays_text : (a : Action U) (us : List U) (y : Value U) → here units a (text_v us) ≡ Ok y → (ys : List U) × (y ≡ text_v ys)
  stays_text a us y e = let p = on_ok_inv (λ r. built (text_of r)) (in_text units a us) y (sym (on_ok_comp built text_of (in_text units a us)) ∙ e) in (p.0, p.2)

  module _ (txt : Bool) (c : Call) (a : Action U) (s : List Prop) (u w w' : Value U)
      (e : at s (here units a) u ≡ Ok w) (f : at s (here units (own_action units c)) w ≡ Ok w')
      (na : txt ≡ false → (us : List U) → read s u ≡ Ok (a_value (text_v us)) → OneWide units a)
      (nc : txt ≡ false → (us : List U) → read s w ≡ Ok (a_value (text_v us)) → OneWide units (own_action units c)) where
    narrow : ((us : List U) → read s u ≡ Ok (a_value (text_v us)) → (ys : List U) × (read s w ≡ Ok (a_value (text_v ys))))
        → txt ≡ false → (us : List U) → read s u ≡ Ok (a_value (text_v us)) → Kept units (join units txt c a)
    narrow t n us r = keeps units txt c a (na n us r) (nc n (t us r).0 (t us r).1)

    by_passing : w ≡ u → w' ≡ u → ((h : Action U) → at s (here units h) u ≡ Ok w') → (j : Joined U)
        → (txt ≡ false → (us : List U) → read s u ≡ Ok (a_value (text_v us)) → Kept units j) → SoundAt txt s j u w'
    by_passing p q h apart k = tt
    by_passing p q h (into b) k = (h b, k)
    by_passing p q h gone k = q

    by_lens : (x y z : Value U) (k : Value U → Value U) → u ≡ k x → w' ≡ k z
        → ((g : Value U → Answer (Value U)) (r : Value U) → at s g (k r) ≡ on_ok k (g r))
        → (j : Joined U) → Sound units j x z → (txt ≡ false → (us : List U) → read s u ≡ Ok (a_value (text_v us)) → Kept units j) → SoundAt txt s j u w'
    by_lens x y z k eu ew law apart h n = tt
    by_lens x y z k eu ew law (into b) h n =
        (ap (at s (here units b)) eu ∙ law (here units b) x ∙ ap (on_ok k) h ∙ okay (sym ew), n)
    by_lens x y z k eu ew law gone h n = ew ∙ ap k h ∙ sym eu

    path_go : Lens s u → SoundAt txt s (join units txt c a) u w'
    path_go (reaches x k eu law rd) =
        let p = on_ok_inv k (here units a x) w (sym (law (here units a) x) ∙ ap (at s (here units a)) (sym eu) ∙ e) in
        let y = p.0 in
        let q = on_ok_inv k (here units (own_action units c) y) w' (sym (law (here units (own_action units c)) y) ∙ ap (at s (here units (own_action units c))) (sym p.2) ∙ f) in
        let ru : read s u ≡ Ok (a_value x) = ap (read s) eu ∙ rd x in
        let rw' : read s w ≡ Ok (a_value y) = ap (read s) p.2 ∙ rd y in
        let t : (us : List U) → read s u ≡ Ok (a_value (text_v us)) → (ys : List U) × (read s w ≡ Ok (a_value (text_v ys))) =
        λ us r.
        let ex : x ≡ text_v us = value_inj x (text_v us) (ok_inj (read s u) (a_value x) (a_value (text_v us)) ru r) in
        let st = stays_text a us y (ap (here units a) (sym ex) ∙ p.1) in
        (st.0, rw' ∙ okay (ap a_value st.1)) in
        by_lens x y q.0 k eu q.2 law (join units txt c a)
        (local units txt c a x y q.0 p.1 q.1 (λ n us ex. na n us (ru ∙ okay (ap a_value ex))))
        (narrow t)
    path_go (passes h) =
        let p : w ≡ u = ok_inj (at s (here units a) u) w u e (h (here units a)) in
        let q : w' ≡ u = ok_inj (at s (here units (own_action units c)) u) w' u (ap (at s (here units (own_action units c))) (sym p) ∙ f) (h (here units (own_action units c))) in
        by_passing p q (λ b. h (here units b) ∙ okay (sym q)) (join units txt c a)
        (narrow (λ us r. (us, ap (read s) p ∙ r)))
    path_go (fails k h) = absurd (err_ok k w (sym (h (here units a)) ∙ e))

    path_sound : SoundAt txt s (join units txt c a) u w'
    path_sound = path_go (lens s u)

module _ {U : Type 0} (S : Setting U) (fits : Value U → Bool) where
  in_inv : (p : Patch U) (u w : Value U) → apply_in S.units fits p u ≡ Ok w → (apply S.units p u ≡ Ok w) × (fits w ≡ true)
  in_inv p u w e =
      let b = and_then_inv (apply S.units p u) (λ v. provided (fits v) ValueFull v) w e in
      let g = provided_inv (fits b.0) ValueFull b.0 w b.2 in
      (b.1 ∙ okay (sym g.1), ap fits g.1 ∙ g.0)

  in_ok : (p : Patch U) (u w : Value U) → apply S.units p u ≡ Ok w → fits w ≡ true → apply_in S.units fits p u ≡ Ok w
  in_ok p u w e f = rw (e, f)

  -- the patches held, newest first, lead from v to w
  abbrev Reach : List (Patch U) → Value U → Value U → Type 0
  Reach [] v w = v ≡ w
  Reach (p ∷ ps) v w =
      (u : Value U) × Reach ps v u × (S.path p.obj ≡ some p.path) × (apply_in S.units fits p u ≡ Ok w) × NarrowAt S p u

  settled : (o : ObjId) (c : Call) (p : Patch U) (ps : List (Patch U)) (v w w' : Value U) (s : List Step) → S.path o ≡ some s
      → (r : Reach (p ∷ ps) v w) → apply_in S.units fits (record { obj = o; path = s; action = own_action S.units c }) w ≡ Ok w'
      → NarrowAt S (record { obj = o; path = s; action = own_action S.units c }) w
      → (j : Joined U) → SoundAt S.units (S.text p.obj) (props p.path) j r.0 w' → Reach (settle S o c p ps j) v w'
  settled o c p ps v w w' s e r h n apart k = rw e (w, r, e, h, n)
  settled o c p ps v w w' s e r h n (into a) k =
      (r.0, r.1, r.2, in_ok (record { obj = p.obj; path = p.path; action = a }) r.0 w' k.0 (in_inv (record { obj = o; path = s; action = own_action S.units c }) w w' h).1, k.1)
  settled o c p ps v w w' s e r h n gone k = subst (λ (t : Value U). Reach ps v t) (sym k) r.1

  -- an accepted call whose object has a path
  accepted : (o : ObjId) (c : Call) (ps : List (Patch U)) (v w w' : Value U) (s : List Step) → S.path o ≡ some s
      → Reach ps v w → apply_in S.units fits (record { obj = o; path = s; action = own_action S.units c }) w ≡ Ok w'
      → NarrowAt S (record { obj = o; path = s; action = own_action S.units c }) w
      → Reach (accept S o c ps) v w'
  accepted o c [] v w w' s e r h n = rw e (w, r, e, h, n)
  accepted o c (p ∷ ps) v w w' s e r h n = go (same_obj p.obj o) refl
    where
      J : Bool → Joined U
      J b = cond b (join S.units (S.text o) c p.action) apart

      go : (b : Bool) → same_obj p.obj o ≡ b → Reach (settle S o c p ps (J (same_obj p.obj o))) v w'
      go false q = rw q (settled o c p ps v w w' s e r h n apart tt)
      go true q =
          let eo : p.obj ≡ o = same_obj_lem p.obj o q in
          let es : p.path ≡ s = some_inj (sym r.2 ∙ ap S.path eo ∙ e) in
          let P : Patch U = record { obj = o; path = s; action = own_action S.units c } in
          let f : at (props p.path) (here S.units (own_action S.units c)) w ≡ Ok w' =
          ap (λ (t : List Step). at (props t) (here S.units (own_action S.units c)) w) es ∙ (in_inv P w w' h).0 in
          let k = path_sound S.units (S.text p.obj) c p.action (props p.path) r.0 w w' (in_inv p r.0 w r.3).0 f r.4
          (λ t us q'. n (ap S.text (sym eo) ∙ t) us (ap (λ (t : List Step). read (props t) w) (sym es) ∙ q')) in
          rw q (subst (λ (t : ObjId). Reach (settle S o c p ps (join S.units (S.text t) c p.action)) v w') eo
          (settled o c p ps v w w' s e r h n (join S.units (S.text p.obj) c p.action) k))

  unheard : (o : ObjId) (c : Call) (ps : List (Patch U)) (v w : Value U) → S.path o ≡ none → Reach ps v w → accept S o c ps ≡ ps
  unheard o c [] v w e r = rw e
  unheard o c (p ∷ ps) v w e r = go (same_obj p.obj o) refl
    where
      go : (b : Bool) → same_obj p.obj o ≡ b → accept S o c (p ∷ ps) ≡ p ∷ ps
      go false q = rw (q, e)
      go true q =
          let k : none ≡ some p.path = sym e ∙ ap S.path (sym (same_obj_lem p.obj o q)) ∙ r.2 in
          cc

  -- the accepted call's own patch, if it has one, before what is still to come
  heard : (o : ObjId) (c : Call) (ps rest : List (Patch U)) (v w z : Value U) → Reach ps v w → Narrow S (apply_in S.units fits) (own S o c rest) w
      → apply_all (apply_in S.units fits) (own S o c rest) w ≡ Ok z
      → (w' : Value U) × Reach (accept S o c ps) v w' × Narrow S (apply_in S.units fits) rest w' × (apply_all (apply_in S.units fits) rest w' ≡ Ok z)
  heard o c ps rest v w z r n h = go (S.path o) refl
    where
      go : (q : Option (List Step)) → S.path o ≡ q
          → (w' : Value U) × Reach (accept S o c ps) v w' × Narrow S (apply_in S.units fits) rest w' × (apply_all (apply_in S.units fits) rest w' ≡ Ok z)
      go none e = (w, rw (unheard o c ps v w e r) r, rw e at n, rw e at h)
      go (some s) e =
          let P : Patch U = record { obj = o; path = s; action = own_action S.units c } in
          let n' : Narrow S (apply_in S.units fits) (P ∷ rest) w = rw e at n in
          let h' : apply_all (apply_in S.units fits) (P ∷ rest) w ≡ Ok z = rw e at h in
          let b = and_then_inv (apply_in S.units fits P w) (apply_all (apply_in S.units fits) rest) z h' in
          (b.0, accepted o c ps v w b.0 s e r b.1 n'.0, n'.1 b.0 b.1, b.2)

  all_append : (ps qs : List (Patch U)) (v u w : Value U) → apply_all (apply_in S.units fits) ps v ≡ Ok u → apply_all (apply_in S.units fits) qs u ≡ Ok w
      → apply_all (apply_in S.units fits) (ps ++ qs) v ≡ Ok w
  all_append [] qs v u w e f = ap (apply_all (apply_in S.units fits) qs) (ok_inj (Ok v) v u refl e) ∙ f
  all_append (p ∷ ps) qs v u w e f =
      let b = and_then_inv (apply_in S.units fits p v) (apply_all (apply_in S.units fits) ps) u e in
      rw b.1 (all_append ps qs b.0 u w b.2 f)

  reach_all : (ps : List (Patch U)) (v w : Value U) → Reach ps v w → apply_all (apply_in S.units fits) (reverse ps) v ≡ Ok w
  reach_all [] v w r = okay r
  reach_all (p ∷ ps) v w r =
      rw (reverse_aux-eq ps (p ∷ [])) (all_append (reverse ps) (p ∷ []) v r.0 w (reach_all ps v r.0 r.1) (rw r.3))

  abbrev Inv : State U → Value U → Value U → Type 0
  Inv st v w = (m : Value U) × (apply_all (apply_in S.units fits) st.taken v ≡ Ok m) × Reach st.held m w

  all_joined : (st : State U) (v w : Value U) → Inv st v w → apply_all (apply_in S.units fits) (joined st) v ≡ Ok w
  all_joined st v w i = all_append st.taken (reverse st.held) v i.0 w i.1 (reach_all st.held i.0 w i.2)

  pub runs : (xs : List Input) (st : State U) (v w z : Value U) → Inv st v w → Narrow S (apply_in S.units fits) (own_patches S xs st) w
      → apply_all (apply_in S.units fits) (own_patches S xs st) w ≡ Ok z → apply_all (apply_in S.units fits) (joined (run S xs st)) v ≡ Ok z
  runs [] st v w z i n h = all_joined st v w i ∙ h
  runs (take_patches ∷ xs) st v w z i n h = runs xs (hear S take_patches st) v w z (w, all_joined st v w i, refl) n h
  runs (call o c ∷ xs) st v w z i n h = go (S.refuses st.held o c) refl (runs xs)
    where
      Goes : Type 0
      Goes = (st : State U) (v w z : Value U) → Inv st v w → Narrow S (apply_in S.units fits) (own_patches S xs st) w
          → apply_all (apply_in S.units fits) (own_patches S xs st) w ≡ Ok z → apply_all (apply_in S.units fits) (joined (run S xs st)) v ≡ Ok z

      go : (b : Bool) → S.refuses st.held o c ≡ b → Goes → apply_all (apply_in S.units fits) (joined (run S xs (hear S (call o c) st))) v ≡ Ok z
      go true e ih = rw e (ih st v w z i (rw e at n) (rw e at h))
      go false e ih =
          let st' : State U = record { taken = st.taken; held = accept S o c st.held } in
          let k = heard o c st.held (own_patches S xs st') i.0 w z i.2 (rw e at n) (rw e at h) in
          rw e (ih st' v k.0 z (i.0, i.1, k.1) k.2 k.3)

pub within : {U : Type 0} (S : Setting U) (fits : Value U → Bool) → ChangesNothing S (apply_in S.units fits)
within S fits xs v w n h = runs S fits xs start v v w (v, refl, refl) n h

unbound : {A : Type 0} (r : Answer A) → and_then r (λ w. provided true ValueFull w) ≡ r
unbound (Ok a) = refl
unbound (Err k) = refl

pub unbounded : {U : Type 0} (S : Setting U) → ChangesNothing S (apply S.units)
unbounded {U} S =
    subst (λ (f : Patch U → Value U → Answer (Value U)). ChangesNothing S f)
    (fun_ext (λ p. fun_ext (λ v. unbound (apply S.units p v)))) (within S (λ w. true))

pub joining_law : {U : Type 0} (units : List ℕ → List U) → JoiningLaw units
joining_law units =
    record {
      unbounded = λ d refuses. unbounded (over_doc units d refuses);
      bounded = λ d refuses bound. within (over_doc units d refuses) bound;
    }
