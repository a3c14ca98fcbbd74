-- One call after one patch: what joining makes of the two does what the two did.
use Rattle.std.proofs.Common.{◌≡◌, ℕ, zero, suc, ◌+◌, ◌-◌, ◌≤◌, Bool, true, false, cond, ◌&&◌, eqb, leb, List, [], ◌∷◌, ◌++◌, map, length, take, drop, Ok, Ordering, Less, Equal, Greater, sym, refl, ap, ◌∙◌, subst, append_assoc, arith, length-append}
use lib.ListN.{length-map}
use Rattle.std.specs.Ordering.{is_eq}
use Rattle.types.specs.declared.types.OpId.{OpId}
use Rattle.types.specs.declared.error.Refusal.{Refusal}
use Rattle.types.specs.declared.error.Refusal.TheVariants.{InvalidMapOp, InvalidListOp, InvalidTextOp, InvalidIndex, InvalidKey}
use Rattle.meaning.specs.Results.{Answer, on_ok}
use Rattle.meaning.specs.Lists.{splice, edit}
use Rattle.meaning.specs.Entries.{Key, compare_keys, Content, scalar_of, object_of, Entry, Item, Ref, placed_as, placed}
use Rattle.meaning.specs.Patches.{Prop, key, pos, Action, put_map, put_seq, insert, splice_text, increment, conflict, delete_map, delete_seq}
use Rattle.meaning.specs.Rows.{Row, map_of, list_of, text_of, mod_in, mod_at, put_in, flagged, units_in, units_of_all, in_map, in_list, in_text, in_row}
use Rattle.meaning.specs.Values.{Value, map_v, list_v, text_v, entry_list, cell_list, built, row_of}
use Rattle.meaning.specs.Application.{on_screen, here}
use Rattle.meaning.specs.Calls.{Call, put_call, insert_call, delete_seq_call, delete_map_call, increment_call, flag_call, splice_call, own_action}
use Rattle.meaning.specs.Builder.{Joined, apart, into, gone, remains, flag_entry, all_one, allowed, join_insert, join_delete, join_flag, join_splice, join}
use Rattle.meaning.specs.Joining.{OneWide}
use Rattle.meaning.proofs.Tests.{le_of, eqb_yes, both, err_ok, okay, on_ok_inv, on_ok_comp}
use Rattle.meaning.proofs.Keys.{keys_same, keys_eq}
use Rattle.meaning.proofs.Splice.{edit_inside, edit_more, edit_nothing, map_splice}
use Rattle.meaning.proofs.Lens.{row_built, built_row}

-- a put, and then a change of the same entry
module _ {E : Type 0} (r : Refusal) (i i' : E) (g : E → Answer E) (ok : g i ≡ Ok i') where
  mod_put : (j : Key) (m : List (Key × E)) → mod_in r j g (put_in j i m) ≡ Ok (put_in j i' m)
  mod_put j [] = rw (keys_same j, ok)
  mod_put j (x ∷ xs) = go (compare_keys j x.0) refl (mod_put j xs)
    where
      go : (o : Ordering) → compare_keys j x.0 ≡ o → mod_in r j g (put_in j i xs) ≡ Ok (put_in j i' xs) → mod_in r j g (put_in j i (x ∷ xs)) ≡ Ok (put_in j i' (x ∷ xs))
      go Less e h = rw (e, keys_same j, ok)
      go Equal e h = rw (e, keys_same j, ok)
      go Greater e h = rw (e, e, h)

  mod_mod : (t : ℕ) (l l1 l2 : List E) → mod_at r t (λ _. Ok i) l ≡ Ok l1 → mod_at r t g l1 ≡ Ok l2 → mod_at r t (λ _. Ok i') l ≡ Ok l2
  mod_mod t [] l1 l2 p q = absurd (err_ok r l1 p)
  mod_mod zero (x ∷ xs) l1 l2 p q =
      let e : i ∷ xs ≡ l1 = cc in
      let h : on_ok (λ y. y ∷ xs) (g i) ≡ Ok l2 = subst (λ l. mod_at r zero g l ≡ Ok l2) (sym e) q in
      sym (ap (on_ok (λ y. y ∷ xs)) ok) ∙ h
  mod_mod (suc t) (x ∷ xs) l1 l2 p q =
      let a = on_ok_inv (λ ys. x ∷ ys) (mod_at r t (λ _. Ok i) xs) l1 p in
      let h : on_ok (λ ys. x ∷ ys) (mod_at r t g a.0) ≡ Ok l2 = subst (λ l. mod_at r (suc t) g l ≡ Ok l2) a.2 q in
      let b = on_ok_inv (λ ys. x ∷ ys) (mod_at r t g a.0) l2 h in
      ap (on_ok (λ ys. x ∷ ys)) (mod_mod t xs a.0 b.0 a.1 b.1) ∙ okay (sym b.2)

flag_placed : {X : Type 0} (g : Ref → X) (c : Content) (d : OpId) (f : Bool) → flagged (placed_as g c d f) ≡ Ok (placed_as g c d true)
flag_placed g (scalar_of s) d f = refl
flag_placed g (object_of k) d f = refl

-- units of one-wide values
take_one : {A : Type 0} (l r : List A) (k : ℕ) → length l ≡ 1 → take (suc k) (l ++ r) ≡ l ++ take k r
take_one [] r k e = absurd (omega arith)
take_one (u ∷ []) r k e = refl
take_one (u ∷ w ∷ l) r k e = absurd (omega arith)

drop_one : {A : Type 0} (l r : List A) (k : ℕ) → length l ≡ 1 → drop (suc k) (l ++ r) ≡ drop k r
drop_one [] r k e = absurd (omega arith)
drop_one (u ∷ []) r k e = refl
drop_one (u ∷ w ∷ l) r k e = absurd (omega arith)

module _ {U : Type 0} (units : List ℕ → List U) where
  one_head : (v : Entry) (vs : List Entry) → all_one units (v ∷ vs) ≡ true → (length (units_in units v) ≡ 1) × (all_one units vs ≡ true)
  one_head v vs e =
      let b = both (eqb (length (units_in units v)) 1) (all_one units vs) e in
      (eqb_yes (length (units_in units v)) 1 b.0, b.1)

  flat_append : (ls bs : List Entry) → units_of_all units (ls ++ bs) ≡ units_of_all units ls ++ units_of_all units bs
  flat_append [] bs = refl
  flat_append (v ∷ ls) bs = ap (λ (r : List U). units_in units v ++ r) (flat_append ls bs) ∙ sym (append_assoc (units_in units v) (units_of_all units ls) (units_of_all units bs))

  flat_take : (k : ℕ) (vs : List Entry) → all_one units vs ≡ true → units_of_all units (take k vs) ≡ take k (units_of_all units vs)
  flat_take zero vs e = refl
  flat_take (suc k) [] e = refl
  flat_take (suc k) (v ∷ vs) e =
      ap (λ (r : List U). units_in units v ++ r) (flat_take k vs (one_head v vs e).1) ∙ sym (take_one (units_in units v) (units_of_all units vs) k (one_head v vs e).0)

  flat_drop : (k : ℕ) (vs : List Entry) → all_one units vs ≡ true → units_of_all units (drop k vs) ≡ drop k (units_of_all units vs)
  flat_drop zero vs e = refl
  flat_drop (suc k) [] e = refl
  flat_drop (suc k) (v ∷ vs) e = flat_drop k vs (one_head v vs e).1 ∙ sym (drop_one (units_in units v) (units_of_all units vs) k (one_head v vs e).0)

  flat_length : (vs : List Entry) → all_one units vs ≡ true → length (units_of_all units vs) ≡ length vs
  flat_length [] e = refl
  flat_length (v ∷ vs) e =
      length-append (units_in units v) (units_of_all units vs) ∙ omega (arith, (one_head v vs e).0, flat_length vs (one_head v vs e).1)

  flat_splice : (i m : ℕ) (ws vs : List Entry) → all_one units vs ≡ true → units_of_all units (splice i m ws vs) ≡ splice i m (units_of_all units ws) (units_of_all units vs)
  flat_splice i m ws vs e =
      rw (flat_append (take i vs) (ws ++ drop (i + m) vs), flat_append ws (drop (i + m) vs), flat_take i vs e, flat_drop (i + m) vs e)

  -- two actions made one, container by container
  module _ {C : Type 0} (wrap : C → Row (List U) (Item (Value U))) (act : Action U → C → Answer C) (law : (a : Action U) (c : C) → in_row units on_screen a (wrap c) ≡ on_ok wrap (act a c)) where
    abbrev whole : C → Value U
    whole c = built (wrap c)

    here_in : (a : Action U) (x : Value U) (c : C) → row_of x ≡ wrap c → here units a x ≡ on_ok whole (act a c)
    here_in a x c q = ap (λ ρ. on_ok built (in_row units on_screen a ρ)) q ∙ ap (on_ok built) (law a c) ∙ on_ok_comp built wrap (act a c)

    here2_in : (a b h : Action U) (x y z : Value U) (c : C) → row_of x ≡ wrap c
        → ((c1 c2 : C) → act a c ≡ Ok c1 → act b c1 ≡ Ok c2 → act h c ≡ Ok c2)
        → here units a x ≡ Ok y → here units b y ≡ Ok z → here units h x ≡ Ok z
    here2_in a b h x y z c q f e k =
        let p = on_ok_inv whole (act a c) y (sym (here_in a x c q) ∙ e) in
        let s = on_ok_inv whole (act b p.0) z (sym (here_in b y p.0 (ap row_of p.2 ∙ row_built (wrap p.0))) ∙ k) in
        here_in h x c q ∙ ap (on_ok whole) (f p.0 s.0 p.1 s.1) ∙ okay (sym s.2)

  here2 : (a b h : Action U) (x y z : Value U)
      → ((m m1 m2 : List (Key × Item (Value U))) → in_map units on_screen a m ≡ Ok m1 → in_map units on_screen b m1 ≡ Ok m2 → in_map units on_screen h m ≡ Ok m2)
      → ((xs xs1 xs2 : List (Item (Value U))) → in_list units on_screen a xs ≡ Ok xs1 → in_list units on_screen b xs1 ≡ Ok xs2 → in_list units on_screen h xs ≡ Ok xs2)
      → ((us us1 us2 : List U) → x ≡ text_v us → in_text units a us ≡ Ok us1 → in_text units b us1 ≡ Ok us2 → in_text units h us ≡ Ok us2)
      → here units a x ≡ Ok y → here units b y ≡ Ok z → here units h x ≡ Ok z
  here2 a b h (map_v es) y z hm hl ht e f = here2_in map_of (in_map units on_screen) (λ a c. refl) a b h (map_v es) y z (entry_list es) refl (hm (entry_list es)) e f
  here2 a b h (list_v cs) y z hm hl ht e f = here2_in list_of (in_list units on_screen) (λ a c. refl) a b h (list_v cs) y z (cell_list cs) refl (hl (cell_list cs)) e f
  here2 a b h (text_v us) y z hm hl ht e f = here2_in text_of (in_text units) (λ a c. refl) a b h (text_v us) y z us refl (λ c1 c2. ht us c1 c2 refl) e f

  -- what joining owes: x before the patch, z after the call
  abbrev pub Sound : Joined U → Value U → Value U → Type 0
  Sound apart x z = Unit {0}
  Sound (into h) x z = here units h x ≡ Ok z
  Sound gone x z = z ≡ x

  sound_if : (t : Bool) (j : Joined U) (x z : Value U) → (t ≡ true → Sound j x z) → Sound (cond t j apart) x z
  sound_if true j x z h = h refl
  sound_if false j x z h = tt

  sound_remains : {A : Type 0} (f : List A → Action U) (ys : List A) (x z : Value U)
      → here units (f ys) x ≡ Ok z → (here units (f []) x ≡ Ok z → z ≡ x) → Sound (remains f ys) x z
  sound_remains f [] x z h g = g h
  sound_remains f (y ∷ ys) x z h g = h

  insert_nothing : (t : ℕ) (x z : Value U) → here units (insert t []) x ≡ Ok z → z ≡ x
  insert_nothing t (map_v es) z e = absurd (err_ok InvalidMapOp z e)
  insert_nothing t (list_v cs) z e =
      let p = on_ok_inv (λ l. built (list_of l)) (edit t 0 [] (cell_list cs)) z (sym (on_ok_comp built list_of (edit t 0 [] (cell_list cs))) ∙ e) in
      p.2 ∙ ap (λ l. built (list_of l)) (edit_nothing t (cell_list cs) p.0 p.1) ∙ built_row (list_v cs)
  insert_nothing t (text_v us) z e =
      let p = on_ok_inv (λ l. built (text_of l)) (edit t 0 [] us) z (sym (on_ok_comp built text_of (edit t 0 [] us)) ∙ e) in
      p.2 ∙ ap (λ (r : List U). text_v r) (edit_nothing t us p.0 p.1)

  splice_nothing : (t : ℕ) (x z : Value U) → here units (splice_text t []) x ≡ Ok z → z ≡ x
  splice_nothing t (map_v es) z e = absurd (err_ok InvalidMapOp z e)
  splice_nothing t (list_v cs) z e = absurd (err_ok InvalidListOp z e)
  splice_nothing t (text_v us) z e =
      let p = on_ok_inv (λ l. built (text_of l)) (edit t 0 [] us) z (sym (on_ok_comp built text_of (edit t 0 [] us)) ∙ e) in
      p.2 ∙ ap (λ (r : List U). text_v r) (edit_nothing t us p.0 p.1)

  -- an edit b inside the values that an insert placed
  in_insert : (t i m : ℕ) (vs ws : List Entry) (b : Action U) (x y z : Value U) → t ≤ i → i + m ≤ t + length vs
      → ((xs : List (Item (Value U))) → in_list units on_screen b xs ≡ edit i m (map (placed on_screen) ws) xs) → ((us : List U) → in_text units b us ≡ edit i m (units_of_all units ws) us)
      → ((us : List U) → x ≡ text_v us → all_one units vs ≡ true)
      → here units (insert t vs) x ≡ Ok y → here units b y ≡ Ok z → here units (insert t (splice (i - t) m ws vs)) x ≡ Ok z
  in_insert t i m vs ws b x y z lo hi bl bt one e f =
      here2 (insert t vs) b (insert t (splice (i - t) m ws vs)) x y z
      (λ es es1 es2 p q. absurd (err_ok InvalidMapOp es1 p))
      (λ xs xs1 xs2 p q. rw (map_splice (placed on_screen) (i - t) m ws vs) (edit_inside t 0 i m (map (placed on_screen) vs) (map (placed on_screen) ws) xs xs1 xs2 lo (rw (length-map vs (placed on_screen)) hi) p (sym (bl xs1) ∙ q)))
      (λ us us1 us2 w p q. rw (flat_splice (i - t) m ws vs (one us w))
      (edit_inside t 0 i m (units_of_all units vs) (units_of_all units ws) us us1 us2 lo (rw (flat_length vs (one us w)) hi) p (sym (bt us1) ∙ q)))
      e f

  -- an edit b inside the units that a splice placed
  in_splice : (t i m : ℕ) (vs ws : List U) (b : Action U) (x y z : Value U) → t ≤ i → i + m ≤ t + length vs
      → ((us : List U) → in_text units b us ≡ edit i m ws us)
      → here units (splice_text t vs) x ≡ Ok y → here units b y ≡ Ok z → here units (splice_text t (splice (i - t) m ws vs)) x ≡ Ok z
  in_splice t i m vs ws b x y z lo hi bt e f =
      here2 (splice_text t vs) b (splice_text t (splice (i - t) m ws vs)) x y z
      (λ es es1 es2 p q. absurd (err_ok InvalidMapOp es1 p))
      (λ xs xs1 xs2 p q. absurd (err_ok InvalidListOp xs1 p))
      (λ us us1 us2 w p q. edit_inside t 0 i m vs ws us us1 us2 lo hi p (sym (bt us1) ∙ q))
      e f

  allowed_one : (txt : Bool) (vs : List Entry) (P : Type 0) → allowed units txt vs ≡ true → (txt ≡ false → P → all_one units vs ≡ true) → P → all_one units vs ≡ true
  allowed_one true vs P e h p = e
  allowed_one false vs P e h p = h refl p

  allowed_tail : (txt : Bool) (v : Entry) (vs : List Entry) → allowed units txt (v ∷ vs) ≡ true → allowed units txt vs ≡ true
  allowed_tail true v vs e = (one_head v vs e).1
  allowed_tail false v vs e = refl

  abbrev pub Wide : Bool → Action U → Value U → Type 0
  Wide txt a x = txt ≡ false → (us : List U) → x ≡ text_v us → OneWide units a

  loc_insert : (txt : Bool) (i : ℕ) (v : Entry) (a : Action U) (x y z : Value U) → here units a x ≡ Ok y → here units (insert i (v ∷ [])) y ≡ Ok z
      → Wide txt a x → Sound (join_insert units txt i v a) x z
  loc_insert txt i v (put_map k x') x y z e g w = tt
  loc_insert txt i v (put_seq t x') x y z e g w = tt
  loc_insert txt i v (insert t vs) x y z e g w =
      sound_if (leb t i && (leb i (t + length vs) && allowed units txt (v ∷ vs))) (into (insert t (splice (i - t) 0 (v ∷ []) vs))) x z λ h.
      let p = both (leb t i) (leb i (t + length vs) && allowed units txt (v ∷ vs)) h in
      let q = both (leb i (t + length vs)) (allowed units txt (v ∷ vs)) p.1 in
      let lo : t ≤ i = le_of t i p.0 in
      let hi : i ≤ t + length vs = le_of i (t + length vs) q.0 in
      in_insert t i 0 vs (v ∷ []) (insert i (v ∷ [])) x y z lo (omega arith) (λ xs. refl) (λ us. refl)
      (λ us r. allowed_one txt vs (x ≡ text_v us) (allowed_tail txt v vs q.1) (λ n r'. w n us r') r) e g
  loc_insert txt i v (splice_text t us) x y z e g w = tt
  loc_insert txt i v (increment p n) x y z e g w = tt
  loc_insert txt i v (conflict p) x y z e g w = tt
  loc_insert txt i v (delete_map k) x y z e g w = tt
  loc_insert txt i v (delete_seq t n) x y z e g w = tt

  loc_delete : (txt : Bool) (i m : ℕ) (a : Action U) (x y z : Value U) → here units a x ≡ Ok y → here units (delete_seq i m) y ≡ Ok z
      → Wide txt a x → Sound (join_delete units txt i m a) x z
  loc_delete txt i m (put_map k x') x y z e g w = tt
  loc_delete txt i m (put_seq t x') x y z e g w = tt
  loc_delete txt i m (insert t vs) x y z e g w =
      sound_if (leb t i && (leb (i + m) (t + length vs) && allowed units txt vs)) (remains (insert t) (splice (i - t) m [] vs)) x z λ h.
      let p = both (leb t i) (leb (i + m) (t + length vs) && allowed units txt vs) h in
      let q = both (leb (i + m) (t + length vs)) (allowed units txt vs) p.1 in
      sound_remains (insert t) (splice (i - t) m [] vs) x z
      (in_insert t i m vs [] (delete_seq i m) x y z (le_of t i p.0) (le_of (i + m) (t + length vs) q.0) (λ xs. refl) (λ us. refl)
      (λ us r. allowed_one txt vs (x ≡ text_v us) q.1 (λ n r'. w n us r') r) e g)
      (insert_nothing t x z)
  loc_delete txt i m (splice_text t us) x y z e g w =
      sound_if (leb t i && leb (i + m) (t + length us)) (remains (splice_text t) (splice (i - t) m [] us)) x z λ h.
      let p = both (leb t i) (leb (i + m) (t + length us)) h in
      sound_remains (splice_text t) (splice (i - t) m [] us) x z
      (in_splice t i m us [] (delete_seq i m) x y z (le_of t i p.0) (le_of (i + m) (t + length us) p.1) (λ r. refl) e g)
      (splice_nothing t x z)
  loc_delete txt i m (increment p n) x y z e g w = tt
  loc_delete txt i m (conflict p) x y z e g w = tt
  loc_delete txt i m (delete_map k) x y z e g w = tt
  loc_delete txt i m (delete_seq t n) x y z e g w =
      sound_if (eqb t i) (into (delete_seq t (n + m))) x z λ h.
      let g' : here units (delete_seq t m) y ≡ Ok z = subst (λ (k : ℕ). here units (delete_seq k m) y ≡ Ok z) (sym (eqb_yes t i h)) g in
      here2 (delete_seq t n) (delete_seq t m) (delete_seq t (n + m)) x y z
      (λ es es1 es2 p q. absurd (err_ok InvalidMapOp es1 p)) (edit_more t n m) (λ us us1 us2 r p q. edit_more t n m us us1 us2 p q) e g'

  loc_splice : (i : ℕ) (bs : List ℕ) (a : Action U) (x y z : Value U) → here units a x ≡ Ok y → here units (splice_text i (units bs)) y ≡ Ok z
      → Sound (join_splice units i bs a) x z
  loc_splice i bs (put_map k x') x y z e g = tt
  loc_splice i bs (put_seq t x') x y z e g = tt
  loc_splice i bs (insert t vs) x y z e g = tt
  loc_splice i bs (splice_text t us) x y z e g =
      sound_if (leb t i && leb i (t + length us)) (into (splice_text t (splice (i - t) 0 (units bs) us))) x z λ h.
      let p = both (leb t i) (leb i (t + length us)) h in
      let hi : i ≤ t + length us = le_of i (t + length us) p.1 in
      in_splice t i 0 us (units bs) (splice_text i (units bs)) x y z (le_of t i p.0) (omega arith) (λ r. refl) e g
  loc_splice i bs (increment p n) x y z e g = tt
  loc_splice i bs (conflict p) x y z e g = tt
  loc_splice i bs (delete_map k) x y z e g = tt
  loc_splice i bs (delete_seq t n) x y z e g = tt

  flag_map : (j : Key) (c : Entry) (m m1 m2 : List (Key × Item (Value U))) → in_map units on_screen (put_map j c) m ≡ Ok m1
      → in_map units on_screen (conflict (key j)) m1 ≡ Ok m2 → in_map units on_screen (put_map j (flag_entry c)) m ≡ Ok m2
  flag_map j c m m1 m2 p q =
      let e : put_in j (placed on_screen c) m ≡ m1 = cc in
      sym (mod_put InvalidKey (placed on_screen c) (placed on_screen (flag_entry c)) flagged (flag_placed on_screen c.content c.ident c.flag) j m)
      ∙ ap (mod_in InvalidKey j flagged) e ∙ q

  loc_flag : (p : Prop) (a : Action U) (x y z : Value U) → here units a x ≡ Ok y → here units (conflict p) y ≡ Ok z → Sound (join_flag p a) x z
  loc_flag (key k) (put_map j c) x y z e g =
      sound_if (is_eq (compare_keys k j)) (into (put_map j (flag_entry c))) x z λ h.
      here2 (put_map j c) (conflict (key j)) (put_map j (flag_entry c)) x y z
      (λ es es1 es2 p q. flag_map j c es es1 es2 p q)
      (λ xs xs1 xs2 p q. absurd (err_ok InvalidListOp xs1 p)) (λ us us1 us2 w p q. absurd (err_ok InvalidTextOp us1 p)) e
      (subst (λ (l : Key). here units (conflict (key l)) y ≡ Ok z) (keys_eq k j h) g)
  loc_flag (pos i) (put_map j c) x y z e g = tt
  loc_flag (key k) (put_seq t x') x y z e g = tt
  loc_flag (pos i) (put_seq t c) x y z e g =
      sound_if (eqb i t) (into (put_seq t (flag_entry c))) x z λ h.
      here2 (put_seq t c) (conflict (pos t)) (put_seq t (flag_entry c)) x y z
      (λ es es1 es2 p q. absurd (err_ok InvalidMapOp es1 p))
      (λ xs xs1 xs2 p q. mod_mod InvalidIndex (placed on_screen c) (placed on_screen (flag_entry c)) flagged (flag_placed on_screen c.content c.ident c.flag) t xs xs1 xs2 p q) (λ us us1 us2 w p q. absurd (err_ok InvalidTextOp us2 q)) e
      (subst (λ (l : ℕ). here units (conflict (pos l)) y ≡ Ok z) (eqb_yes i t h) g)
  loc_flag p (insert t vs) x y z e g = tt
  loc_flag p (splice_text t us) x y z e g = tt
  loc_flag p (increment q n) x y z e g = tt
  loc_flag p (conflict q) x y z e g = tt
  loc_flag p (delete_map k) x y z e g = tt
  loc_flag p (delete_seq t n) x y z e g = tt

  pub local : (txt : Bool) (c : Call) (a : Action U) (x y z : Value U) → here units a x ≡ Ok y → here units (own_action units c) y ≡ Ok z
      → Wide txt a x → Sound (join units txt c a) x z
  local txt (put_call p c) a x y z e g w = tt
  local txt (insert_call i v) a x y z e g w = loc_insert txt i v a x y z e g w
  local txt (delete_seq_call i n) a x y z e g w = loc_delete txt i n a x y z e g w
  local txt (delete_map_call k) a x y z e g w = tt
  local txt (increment_call p n d) a x y z e g w = tt
  local txt (flag_call p) a x y z e g w = loc_flag p a x y z e g
  local txt (splice_call i bs) a x y z e g w = loc_splice i bs a x y z e g
