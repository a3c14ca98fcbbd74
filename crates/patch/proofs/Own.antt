-- The row of a call tells the call's own patch.
use Rattle.std.proofs.Common.{◌≡◌, ℕ, ◌+◌, ◌≤◌, Bool, false, List, [], ◌∷◌, ◌++◌, length, drop, sym, refl, ap, ◌∙◌, arith, length-append, length-drop}
use Rattle.std.proofs.lemmas.List.{take-append-le, drop-append-le, take_at, drop_at, take_all}
use Rattle.types.specs.declared.types.ObjId.{ObjId}
use Rattle.types.specs.declared.value.PropOf.{PropOf}
use Rattle.types.specs.declared.value.PropOf.TheVariants.{Map, Seq}
use Rattle.patch.specs.declared.rows.StepRow.{StepRow}
use Rattle.meaning.specs.Entries.{Scalar, null, str, bytes, Content, scalar_of, object_of, Entry}
use Rattle.meaning.specs.Patches.{Prop, key, pos, put_map, put_seq, insert, increment, conflict, delete_map}
use Rattle.meaning.specs.Calls.{Call, put_call, insert_call, delete_seq_call, delete_map_call, increment_call, flag_call, splice_call, own_action}
use Rattle.patch_call.specs.Contents.{prop_key, scalar_data, content_data, call_key, call_data}
use Rattle.patch.specs.Rows.{prop_len, prop_told, steps_len, steps_told, scalar_len, scalar_told, content_len, content_told, entry_told, wides, values_in, units_in, wides_in, action_len, action_told}
use Rattle.patch.specs.Told.{patch_told}
use Rattle.patch.specs.Made.{prop_row, scalar_row, content_row, value_row, action_row, call_values, call_units, row_made, parts_made}
use Rattle.patch.proofs.Tell.{Fits}

-- a path needs only its own keys
pub steps_own : (ss : List StepRow) (ks xs : List ℕ) → steps_len ss ≤ length ks → steps_told ss (ks ++ xs) ≡ steps_told ss ks
steps_own [] ks xs h = refl
steps_own (s ∷ ss) ks xs h =
    let d = length-drop (prop_len s.prop) ks in
    let a = step s.prop (omega arith) in
    let e : drop (prop_len s.prop) (ks ++ xs) ≡ drop (prop_len s.prop) ks ++ xs = drop-append-le (prop_len s.prop) ks xs (omega arith) in
    let b : steps_told ss (drop (prop_len s.prop) (ks ++ xs)) ≡ steps_told ss (drop (prop_len s.prop) ks) =
    ap (steps_told ss) e ∙ steps_own ss (drop (prop_len s.prop) ks) xs (omega arith) in
    λ i. record { leaves = s.leaves; prop = a i } ∷ b i
  where
    step : (p : PropOf ℕ) → prop_len p ≤ length ks → prop_told p (ks ++ xs) ≡ prop_told p ks
    step (Map n) l = ap key (take-append-le n ks xs l)
    step (Seq i) l = refl

prop_own : (p : Prop) → prop_told (prop_row p) (prop_key p ++ []) ≡ p
prop_own (key k) = ap key (take_at k [] (length k) refl)
prop_own (pos i) = refl

prop_len_lem : (p : Prop) → prop_len (prop_row p) ≡ length (prop_key p) + 0
prop_len_lem (key k) = omega arith
prop_len_lem (pos i) = refl

scalar_own : (s : Scalar) → scalar_told (scalar_row s) (scalar_data s) ≡ s
scalar_own (str s) = ap str (take_all (length s) s (omega arith))
scalar_own (bytes s) = ap bytes (take_all (length s) s (omega arith))
scalar_own s = refl

scalar_len_lem : (s : Scalar) → scalar_len (scalar_row s) ≡ length (scalar_data s)
scalar_len_lem null = refl
scalar_len_lem s = refl

content_own : (k : Content) → content_told (content_row k) (content_data k) ≡ k
content_own (scalar_of s) = ap scalar_of (scalar_own s)
content_own (object_of k) = refl

content_len_lem : (k : Content) → content_len (content_row k) ≡ length (content_data k)
content_len_lem (scalar_of s) = scalar_len_lem s
content_len_lem (object_of k) = refl

-- a value with its own bytes
pub entry_own : (e : Entry) (w : Bool) → entry_told (value_row e w) (content_data e.content) ≡ e
entry_own e w = λ i. record { content = content_own e.content i; ident = e.ident; flag = e.flag }

pub value_len : (e : Entry) → content_len (content_row e.content) ≡ length (content_data e.content)
value_len e = content_len_lem e.content

action_len_lem : (c : Call) (n : ℕ) (w : Bool) → action_len (action_row c n w) (call_values c w) ≡ length (call_key c) + length (call_data c)
action_len_lem (put_call (key k) e) n w = ap (λ m. length k + m) (value_len e)
action_len_lem (put_call (pos j) e) n w = let v = value_len e in omega arith
action_len_lem (insert_call j e) n w = let v = value_len e in omega arith
action_len_lem (delete_seq_call j m) n w = refl
action_len_lem (delete_map_call k) n w = omega arith
action_len_lem (increment_call p m d) n w = prop_len_lem p
action_len_lem (flag_call p) n w = prop_len_lem p
action_len_lem (splice_call j t) n w = refl

values_own : (c : Call) (n : ℕ) (w : Bool) → length (call_values c w) ≡ values_in (action_row c n w)
values_own (put_call (key k) e) n w = refl
values_own c n w = refl

wides_own : (c : Call) (n : ℕ) (w : Bool) → wides (call_values c w) ≡ wides_in (action_row c n w)
wides_own (put_call (key k) e) n w = refl
wides_own (insert_call j e) n w = omega arith
wides_own c n w = refl

module _ {U : Type 0} where
  action_own : (c : Call) (us : List U) (w : Bool)
      → action_told (action_row c (length us) w) (call_values c w) (call_units c us) (call_key c ++ call_data c) ≡ own_action (λ _. us) c
  action_own (put_call (key k) e) us w =
      λ i. put_map (take_at k (content_data e.content) (length k) refl i) ((ap (entry_told (value_row e false)) (drop_at k (content_data e.content) (length k) refl) ∙ entry_own e false) i)
  action_own (put_call (pos j) e) us w = ap (λ x. put_seq j x) (entry_own e false)
  action_own (insert_call j e) us w = ap (λ x. insert j (x ∷ [])) (entry_own e w)
  action_own (delete_seq_call j m) us w = refl
  action_own (delete_map_call k) us w = ap delete_map (take_at k [] (length k) refl)
  action_own (increment_call p m d) us w = ap (λ q. increment q m) (prop_own p)
  action_own (flag_call p) us w = ap conflict (prop_own p)
  action_own (splice_call j t) us w = refl

  units_own : (c : Call) (us : List U) (w : Bool) → length (call_units c us) ≡ units_in (action_row c (length us) w)
  units_own (put_call (key k) e) us w = refl
  units_own c us w = refl

  module _ (o : ObjId) (ss : List StepRow) (ks : List ℕ) (c : Call) (us : List U) (w : Bool) (whole : steps_len ss ≡ length ks) where
    pub fits_own : length ss ≤ 16 → Fits (row_made o ss ks c (length us) w) (parts_made ss ks c us w)
    fits_own few =
        let a = length-append ks (call_key c ++ call_data c) in
        let b = length-append (call_key c) (call_data c) in
        record {
          steps = refl;
          values = values_own c (length us) w;
          units = units_own c us w;
          bytes = omega arith;
          all = omega (arith, action_len_lem c (length us) w);
          wide = wides_own c (length us) w;
          short = few;
        }

    pub patch_own : patch_told (row_made o ss ks c (length us) w) (parts_made ss ks c us w) ≡ record { obj = o; path = steps_told ss ks; action = own_action (λ _. us) c }
    patch_own =
        let d : drop (steps_len ss) (ks ++ (call_key c ++ call_data c)) ≡ call_key c ++ call_data c = drop_at ks (call_key c ++ call_data c) (steps_len ss) (sym whole) in
        let a = ap (action_told (action_row c (length us) w) (call_values c w) (call_units c us)) d ∙ action_own c us w in
        let p : steps_told ss (ks ++ (call_key c ++ call_data c)) ≡ steps_told ss ks = steps_own ss ks (call_key c ++ call_data c) (omega arith) in
        λ i. record { obj = o; path = p i; action = a i }
