-- Rows with what is their own, at the end of what there is.
use Rattle.std.proofs.Common.{◌≡◌, ℕ, suc, ◌+◌, ◌-◌, ◌*◌, ◌≤◌, true, List, [], ◌∷◌, length, take, drop, sym, refl, ap, ◌∙◌, arith, length-append, length-drop}
use Rattle.std.proofs.lemmas.List.{length-take-le, length-reverse}
use Rattle.std.proofs.lemmas.Bool.{and_parts, and_from, eqb-true, eq-eqb, leb-true, le-leb}
use Rattle.types.specs.declared.value.PropOf.{PropOf}
use Rattle.types.specs.declared.value.PropOf.TheVariants.{Map, Seq}
use Rattle.patch.specs.declared.rows.StepRow.{StepRow}
use Rattle.types.specs.declared.value.ScalarOf.{ScalarOf}
use Rattle.types.specs.declared.value.ScalarOf.TheVariants.{Str, Bytes}
use Rattle.types.specs.declared.value.ValueOf.{ValueOf}
use Rattle.types.specs.declared.value.ValueOf.TheVariants.{Object, Scalar as Plain}
use Rattle.patch.specs.declared.rows.ValueRow.{ValueRow}
use Rattle.patch.specs.declared.rows.ActionRow.{ActionRow}
use Rattle.patch.specs.declared.rows.ActionRow.TheVariants.{PutMap, PutSeq, Insert, SpliceText, Increment, Conflict, DeleteMap, DeleteSeq}
use Rattle.patch.specs.declared.rows.PatchRow.{PatchRow}
use Rattle.meaning.specs.Entries.{bytes_of_scalar, content_bytes}
use Rattle.meaning.specs.Builder.{prop_bytes, bytes_of_path, entries_bytes, action_values, action_units, action_bytes, load, overfull}
use Rattle.patch.specs.Rows.{prop_len, prop_told, steps_len, steps_told, scalar_len, scalar_told, content_len, content_told, values_len, entries_told, wides, values_in, units_in, wides_in, action_len, action_told}
use Rattle.patch.specs.Told.{Parts, plus, block, rest, patch_told, told, wide_flags, flags_told, fits_row, bare, laid, passes}
use Rattle.sequence_tree.specs.Sequences.{held}
use Rattle.patch.specs.declared.memory.PatchMemory.{PatchMemory}
use Rattle.patch.specs.Sound.{newest}
use Rattle.patch.specs.Tails.{with_action}
use Rattle.patch.specs.Held.{parts_of, held_of}
use Rattle.patch.proofs.Tails.{last_append, front_append, front_last}

-- keys and strings are within what there is
prop_bytes_lem : (p : PropOf ℕ) (bs : List ℕ) → prop_len p ≤ length bs → prop_bytes (prop_told p bs) ≡ prop_len p
prop_bytes_lem (Map n) bs h = length-take-le n bs h
prop_bytes_lem (Seq i) bs h = refl

path_bytes : (ss : List StepRow) (bs : List ℕ) → steps_len ss ≤ length bs → bytes_of_path (steps_told ss bs) ≡ steps_len ss
path_bytes [] bs h = refl
path_bytes (s ∷ ss) bs h =
    let a : prop_bytes (prop_told s.prop bs) ≡ prop_len s.prop = prop_bytes_lem s.prop bs (omega arith) in
    let d = length-drop (prop_len s.prop) bs in
    let b : bytes_of_path (steps_told ss (drop (prop_len s.prop) bs)) ≡ steps_len ss = path_bytes ss (drop (prop_len s.prop) bs) (omega arith) in
    (λ i. a i + b i)

scalar_bytes_lem : (s : ScalarOf ℕ) (bs : List ℕ) → scalar_len s ≤ length bs → bytes_of_scalar (scalar_told s bs) ≡ scalar_len s
scalar_bytes_lem (Str n) bs h = length-take-le n bs h
scalar_bytes_lem (Bytes n) bs h = length-take-le n bs h
scalar_bytes_lem s bs h = refl

content_bytes_lem : (k : ValueOf ℕ) (bs : List ℕ) → content_len k ≤ length bs → content_bytes (content_told k bs) ≡ content_len k
content_bytes_lem (Object k) bs h = refl
content_bytes_lem (Plain s) bs h = scalar_bytes_lem s bs h

entries_bytes_lem : (vs : List ValueRow) (bs : List ℕ) → values_len vs ≤ length bs → entries_bytes (entries_told vs bs) ≡ values_len vs
entries_bytes_lem [] bs h = refl
entries_bytes_lem (v ∷ vs) bs h =
    let a : content_bytes (content_told v.content bs) ≡ content_len v.content = content_bytes_lem v.content bs (omega arith) in
    let d = length-drop (content_len v.content) bs in
    let b : entries_bytes (entries_told vs (drop (content_len v.content) bs)) ≡ values_len vs = entries_bytes_lem vs (drop (content_len v.content) bs) (omega arith) in
    (λ i. a i + b i)

pub entries_count : (vs : List ValueRow) (bs : List ℕ) → length (entries_told vs bs) ≡ length vs
entries_count [] bs = refl
entries_count (v ∷ vs) bs = ap suc (entries_count vs (drop (content_len v.content) bs))

module _ {U : Type 0} where
  -- what a row says of its own, fact by fact
  pub record Fits (r : PatchRow) (b : Parts U) : Type 0 where
    pub steps : length b.steps ≡ r.steps
    pub values : length b.values ≡ values_in r.action
    pub units : length b.units ≡ units_in r.action
    pub bytes : length b.bytes ≡ r.bytes
    pub all : steps_len b.steps + action_len r.action b.values ≡ r.bytes
    pub wide : wides b.values ≡ wides_in r.action
    pub short : r.steps ≤ 16

  pub fits_parts : (r : PatchRow) (b : Parts U) → fits_row r b ≡ true → Fits r b
  fits_parts r b h =
      let p = and_parts _ _ h in
      let q = and_parts _ _ p.1 in
      let s = and_parts _ _ q.1 in
      let t = and_parts _ _ s.1 in
      let u = and_parts _ _ t.1 in
      let v = and_parts _ _ u.1 in
      record {
        steps = eqb-true _ _ p.0;
        values = eqb-true _ _ q.0;
        units = eqb-true _ _ s.0;
        bytes = eqb-true _ _ t.0;
        all = eqb-true _ _ u.0;
        wide = eqb-true _ _ v.0;
        short = leb-true _ _ v.1;
      }

  -- another row for the same content
  pub fits_row_lem : (r : PatchRow) (a : ActionRow) (b : Parts U) → fits_row r b ≡ true → values_in a ≡ values_in r.action → units_in a ≡ units_in r.action → wides_in a ≡ wides_in r.action → ((vs : List ValueRow) → action_len a vs ≡ action_len r.action vs) → Fits (with_action r a) b
  fits_row_lem r a b h v u w n =
      let k = fits_parts r b h in
      record { steps = k.steps; values = k.values ∙ sym v; units = k.units ∙ sym u; bytes = k.bytes; all = ap (λ m. steps_len b.steps + m) (n b.values) ∙ k.all; wide = k.wide ∙ sym w; short = k.short }

  pub fits_from : (r : PatchRow) (b : Parts U) → Fits r b → fits_row r b ≡ true
  fits_from r b h =
      and_from _ _ (eq-eqb _ _ h.steps) (and_from _ _ (eq-eqb _ _ h.values) (and_from _ _ (eq-eqb _ _ h.units) (and_from _ _ (eq-eqb _ _ h.bytes)
      (and_from _ _ (eq-eqb _ _ h.all) (and_from _ _ (eq-eqb _ _ h.wide) (le-leb _ _ h.short))))))

  -- what is put at the end is the last row's own
  pub block_plus : (r : PatchRow) (f b : Parts U) → Fits r b → block r (plus f b) ≡ b
  block_plus r f b h =
      λ i. record { steps = last_append f.steps b.steps r.steps h.steps i; values = last_append f.values b.values (values_in r.action) h.values i; units = last_append f.units b.units (units_in r.action) h.units i; bytes = last_append f.bytes b.bytes r.bytes h.bytes i }

  pub rest_plus : (r : PatchRow) (f b : Parts U) → Fits r b → rest r (plus f b) ≡ f
  rest_plus r f b h =
      λ i. record { steps = front_append f.steps b.steps r.steps h.steps i; values = front_append f.values b.values (values_in r.action) h.values i; units = front_append f.units b.units (units_in r.action) h.units i; bytes = front_append f.bytes b.bytes r.bytes h.bytes i }

  pub both_parts : (r : PatchRow) (c : Parts U) → plus (rest r c) (block r c) ≡ c
  both_parts r c =
      λ i. record { steps = front_last r.steps c.steps i; values = front_last (values_in r.action) c.values i; units = front_last (units_in r.action) c.units i; bytes = front_last r.bytes c.bytes i }

  -- a row and its own put at the end
  pub told_added : (r : PatchRow) (rs : List PatchRow) (f b : Parts U) → Fits r b → told (r ∷ rs) (plus f b) ≡ patch_told r b ∷ told rs f
  told_added r rs f b h = λ i. patch_told r (block_plus r f b h i) ∷ told rs (rest_plus r f b h i)

  pub flags_added : (r : PatchRow) (rs : List PatchRow) (f b : Parts U) → Fits r b → flags_told (r ∷ rs) (plus f b) ≡ wide_flags b.values ∷ flags_told rs f
  flags_added r rs f b h = λ i. wide_flags (block_plus r f b h i).values ∷ flags_told rs (rest_plus r f b h i)

  pub laid_added : (r : PatchRow) (rs : List PatchRow) (f b : Parts U) → Fits r b → laid rs f ≡ true → laid (r ∷ rs) (plus f b) ≡ true
  laid_added r rs f b h l =
      and_from _ _ (ap (fits_row r) (block_plus r f b h) ∙ fits_from r b h) (ap (laid rs) (rest_plus r f b h) ∙ l)

  action_values_lem : (a : ActionRow) (vs : List ValueRow) (us : List U) (bs : List ℕ) → length vs ≡ values_in a → action_values (action_told a vs us bs) ≡ length vs
  action_values_lem (Insert i n w) vs us bs h = entries_count vs bs
  action_values_lem a vs us bs h = sym h

  action_units_lem : (a : ActionRow) (vs : List ValueRow) (us : List U) (bs : List ℕ) → length us ≡ units_in a → action_units (action_told a vs us bs) ≡ length us
  action_units_lem (SpliceText i n) vs us bs h = refl
  action_units_lem a vs us bs h = sym h

  action_bytes_lem : (a : ActionRow) (vs : List ValueRow) (us : List U) (bs : List ℕ) → action_len a vs ≤ length bs → action_bytes (action_told a vs us bs) ≡ action_len a vs
  action_bytes_lem (PutMap n v) vs us bs h =
      let d = length-drop n bs in
      let a : length (take n bs) ≡ n = length-take-le n bs (omega arith) in
      let b : content_bytes (content_told v.content (drop n bs)) ≡ content_len v.content = content_bytes_lem v.content (drop n bs) (omega arith) in
      (λ i. a i + b i)
  action_bytes_lem (PutSeq i v) vs us bs h = content_bytes_lem v.content bs h
  action_bytes_lem (Insert i n w) vs us bs h = entries_bytes_lem vs bs h
  action_bytes_lem (SpliceText i n) vs us bs h = refl
  action_bytes_lem (Increment p n) vs us bs h = prop_bytes_lem p bs h
  action_bytes_lem (Conflict p) vs us bs h = prop_bytes_lem p bs h
  action_bytes_lem (DeleteMap n) vs us bs h = length-take-le n bs h
  action_bytes_lem (DeleteSeq i n) vs us bs h = refl

  -- what patches count for is what lies in the memory
  bare_load : (c : Parts U) → bare c ≡ true → load {U = U} [] ≡ record { patch_count = 0; value_count = length c.values; text_units = length c.units; byte_count = length c.bytes }
  bare_load c h =
      let p = and_parts _ _ h in
      let q = and_parts _ _ p.1 in
      let s = and_parts _ _ q.1 in
      let a = sym (eqb-true _ _ q.0) in
      let b = sym (eqb-true _ _ s.0) in
      let d = sym (eqb-true _ _ s.1) in
      λ i. record { patch_count = 0; value_count = a i; text_units = b i; byte_count = d i }

  pub load_told_lem : (rs : List PatchRow) (c : Parts U) → laid rs c ≡ true
      → load (told rs c) ≡ record { patch_count = length rs; value_count = length c.values; text_units = length c.units; byte_count = length c.bytes }
  load_told_lem [] c h = bare_load c h
  load_told_lem (r ∷ rs) c h = go (load_told_lem rs (rest r c) l.1)
    where
      l : (fits_row r (block r c) ≡ true) × (laid rs (rest r c) ≡ true)
      l = and_parts (fits_row r (block r c)) (laid rs (rest r c)) h

      b : Parts U
      b = block r c

      t : Parts U
      t = rest r c

      f : Fits r b
      f = fits_parts r b l.0

      eqb_drop : length (drop (steps_len b.steps) b.bytes) ≡ length b.bytes - steps_len b.steps
      eqb_drop = length-drop (steps_len b.steps) b.bytes

      v : action_values (patch_told r b).action ≡ length b.values
      v = action_values_lem r.action b.values b.units (drop (steps_len b.steps) b.bytes) f.values

      u : action_units (patch_told r b).action ≡ length b.units
      u = action_units_lem r.action b.values b.units (drop (steps_len b.steps) b.bytes) f.units

      p : bytes_of_path (patch_told r b).path ≡ steps_len b.steps
      p = path_bytes b.steps b.bytes (omega (arith, f.all, f.bytes))

      a : action_bytes (patch_told r b).action ≡ action_len r.action b.values
      a = action_bytes_lem r.action b.values b.units (drop (steps_len b.steps) b.bytes) (omega (arith, f.all, f.bytes, eqb_drop))

      both : plus t b ≡ c
      both = both_parts r c

      nv : length c.values ≡ length t.values + length b.values
      nv = sym (ap (λ x. length x.values) both) ∙ length-append t.values b.values

      nu : length c.units ≡ length t.units + length b.units
      nu = sym (ap (λ x. length x.units) both) ∙ length-append t.units b.units

      nb : length c.bytes ≡ length t.bytes + length b.bytes
      nb = sym (ap (λ x. length x.bytes) both) ∙ length-append t.bytes b.bytes

      go : load (told rs t) ≡ record { patch_count = length rs; value_count = length t.values; text_units = length t.units; byte_count = length t.bytes }
          → load (told (r ∷ rs) c) ≡ record { patch_count = length (r ∷ rs); value_count = length c.values; text_units = length c.units; byte_count = length c.bytes }
      go e =
          let x : 1 + (load (told rs t)).patch_count ≡ length (r ∷ rs) = ap (λ q. 1 + q.patch_count) e ∙ (let z : 1 + length rs ≡ length (r ∷ rs) = omega arith in z) in
          let y : action_values (patch_told r b).action + (load (told rs t)).value_count ≡ length c.values = (λ i. v i + (e i).value_count) ∙ (let z : length b.values + length t.values ≡ length c.values = omega (arith, nv) in z) in
          let w : action_units (patch_told r b).action + (load (told rs t)).text_units ≡ length c.units = (λ i. u i + (e i).text_units) ∙ (let z : length b.units + length t.units ≡ length c.units = omega (arith, nu) in z) in
          let s : bytes_of_path (patch_told r b).path + action_bytes (patch_told r b).action + (load (told rs t)).byte_count ≡ length c.bytes = (λ i. p i + a i + (e i).byte_count) ∙ (let z : steps_len b.steps + action_len r.action b.values + length t.bytes ≡ length c.bytes = omega (arith, f.all, f.bytes, nb) in z) in
          λ i. record { patch_count = x i; value_count = y i; text_units = w i; byte_count = s i }

  -- and so are the counts that are bounded
  pub overfull_told : (rs : List PatchRow) (c : Parts U) → laid rs c ≡ true
      → overfull (told rs c) ≡ passes (length rs) (length c.values) (length c.units) (length c.bytes)
  overfull_told rs c h = ap (λ q. passes q.patch_count q.value_count q.text_units q.byte_count) (load_told_lem rs c h)

  -- the places for steps suffice
  pub steps_few : (rs : List PatchRow) (c : Parts U) → laid rs c ≡ true → length c.steps ≤ 16 * length rs
  steps_few [] c h = let z : length c.steps ≡ 0 = eqb-true _ _ (and_parts _ _ h).0 in omega arith
  steps_few (r ∷ rs) c h =
      let l = and_parts (fits_row r (block r c)) (laid rs (rest r c)) h in
      let f = fits_parts r (block r c) l.0 in
      let n = steps_few rs (rest r c) l.1 in
      let e : length c.steps ≡ length (rest r c).steps + length (block r c).steps = sym (ap (λ x. length x.steps) (both_parts r c)) ∙ length-append (rest r c).steps (block r c).steps in
      omega (arith, f.steps, f.short)

pub load_held : {U : Type 0} (m : PatchMemory U)
    → load (held_of m) ≡ record { patch_count = length (held m.rows); value_count = length (held m.values); text_units = length (held m.units); byte_count = length (held m.bytes) }
load_held m =
    load_told_lem (newest m.rows) (parts_of m) m.shared
    ∙ ap (λ n. record { patch_count = n; value_count = length (held m.values); text_units = length (held m.units); byte_count = length (held m.bytes) }) (length-reverse (held m.rows))
