-- What one row says, with the steps, values, units and bytes that are its own.
use Rattle.std.specs.Prelude.{ℕ, ◌+◌, cond, List, [], ◌∷◌, take, drop}
use Rattle.types.specs.declared.value.PropOf.{PropOf}
use Rattle.types.specs.declared.value.PropOf.TheVariants.{Map, Seq}
use Rattle.patch.specs.declared.rows.StepRow.{StepRow}
use Rattle.types.specs.declared.value.ScalarOf.{ScalarOf}
use Rattle.types.specs.declared.value.ScalarOf.TheVariants.{Null, Boolean, Int, Uint, Timestamp, Counter, Str, Bytes}
use Rattle.types.specs.declared.value.ValueOf.{ValueOf}
use Rattle.types.specs.declared.value.ValueOf.TheVariants.{Object, Scalar as Plain}
use Rattle.patch.specs.declared.rows.ValueRow.{ValueRow}
use Rattle.patch.specs.declared.rows.ActionRow.{ActionRow}
use Rattle.patch.specs.declared.rows.ActionRow.TheVariants.{PutMap, PutSeq, Insert, SpliceText, Increment, Conflict, DeleteMap, DeleteSeq}
use Rattle.meaning.specs.Entries.{Scalar, null, boolean, int, uint, timestamp, counter, str, bytes, Content, scalar_of, object_of, Entry}
use Rattle.meaning.specs.Patches.{Prop, key, pos, Step, Action, put_map, put_seq, insert, splice_text, increment, conflict, delete_map, delete_seq}

-- How many bytes a key has; a position has none.
abbrev pub prop_len : PropOf ℕ → ℕ
prop_len (Map n) = n
prop_len (Seq i) = 0

-- Where in an object, the key's bytes being the first of those given.
abbrev pub prop_told : PropOf ℕ → List ℕ → Prop
prop_told (Map n) bs = key (take n bs)
prop_told (Seq i) bs = pos i

-- The bytes of a path's keys.
abbrev pub steps_len : List StepRow → ℕ
steps_len [] = 0
steps_len (s ∷ ss) = prop_len s.prop + steps_len ss

-- A path, its keys' bytes being the first of those given.
abbrev pub steps_told : List StepRow → List ℕ → List Step
steps_told [] bs = []
steps_told (s ∷ ss) bs = record { leaves = s.leaves; prop = prop_told s.prop bs } ∷ steps_told ss (drop (prop_len s.prop) bs)

abbrev pub scalar_len : ScalarOf ℕ → ℕ
scalar_len (Str n) = n
scalar_len (Bytes n) = n
scalar_len s = 0

abbrev pub scalar_told : ScalarOf ℕ → List ℕ → Scalar
scalar_told Null bs = null
scalar_told (Boolean b) bs = boolean b
scalar_told (Int n) bs = int n
scalar_told (Uint n) bs = uint n
scalar_told (Timestamp n) bs = timestamp n
scalar_told (Counter n) bs = counter n
scalar_told (Str n) bs = str (take n bs)
scalar_told (Bytes n) bs = bytes (take n bs)

abbrev pub content_len : ValueOf ℕ → ℕ
content_len (Object k) = 0
content_len (Plain s) = scalar_len s

abbrev pub content_told : ValueOf ℕ → List ℕ → Content
content_told (Object k) bs = object_of k
content_told (Plain s) bs = scalar_of (scalar_told s bs)

-- What is placed, its string's bytes being the first of those given.
abbrev pub entry_told : ValueRow → List ℕ → Entry
entry_told v bs = record { content = content_told v.content bs; ident = v.id; flag = v.conflict }

abbrev pub values_len : List ValueRow → ℕ
values_len [] = 0
values_len (v ∷ vs) = content_len v.content + values_len vs

-- Inserted values, their strings' bytes in a row.
abbrev pub entries_told : List ValueRow → List ℕ → List Entry
entries_told [] bs = []
entries_told (v ∷ vs) bs = entry_told v bs ∷ entries_told vs (drop (content_len v.content) bs)

-- How many values are not one unit wide.
abbrev pub wides : List ValueRow → ℕ
wides [] = 0
wides (v ∷ vs) = cond v.wide 1 0 + wides vs

-- How many values and units an action has, how many of the values it takes for wide, and how many bytes its key and values have.
abbrev pub values_in : ActionRow → ℕ
values_in (Insert i n w) = n
values_in a = 0

abbrev pub units_in : ActionRow → ℕ
units_in (SpliceText i n) = n
units_in a = 0

abbrev pub wides_in : ActionRow → ℕ
wides_in (Insert i n w) = w
wides_in a = 0

abbrev pub action_len : ActionRow → List ValueRow → ℕ
action_len (PutMap n v) vs = n + content_len v.content
action_len (PutSeq i v) vs = content_len v.content
action_len (Insert i n w) vs = values_len vs
action_len (SpliceText i n) vs = 0
action_len (Increment p n) vs = prop_len p
action_len (Conflict p) vs = prop_len p
action_len (DeleteMap n) vs = n
action_len (DeleteSeq i n) vs = 0

-- What is done, with values, units and bytes.
abbrev pub action_told : {U : Type 0} → ActionRow → List ValueRow → List U → List ℕ → Action U
action_told (PutMap n v) vs us bs = put_map (take n bs) (entry_told v (drop n bs))
action_told (PutSeq i v) vs us bs = put_seq i (entry_told v bs)
action_told (Insert i n w) vs us bs = insert i (entries_told vs bs)
action_told (SpliceText i n) vs us bs = splice_text i us
action_told (Increment p n) vs us bs = increment (prop_told p bs) n
action_told (Conflict p) vs us bs = conflict (prop_told p bs)
action_told (DeleteMap n) vs us bs = delete_map (take n bs)
action_told (DeleteSeq i n) vs us bs = delete_seq i n
