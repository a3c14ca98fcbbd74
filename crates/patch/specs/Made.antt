-- The row of a call and what is its own.
use Rattle.std.specs.Prelude.{ℕ, ◌+◌, Bool, false, cond, List, [], ◌∷◌, ◌++◌, length}
use Rattle.std.proofs.Math.Option.{Option, some}
use Rattle.types.specs.declared.types.ObjId.{ObjId}
use Rattle.types.specs.declared.error.Refusal.{Refusal}
use Rattle.types.specs.declared.error.Refusal.TheVariants.{PathTooDeep, Full}
use Rattle.types.specs.declared.value.PropOf.{PropOf}
use Rattle.types.specs.declared.value.PropOf.TheVariants.{Map, Seq}
use Rattle.patch.specs.declared.rows.StepRow.{StepRow}
use Rattle.types.specs.declared.value.ScalarOf.{ScalarOf}
use Rattle.types.specs.declared.value.ScalarOf.TheVariants.{Null, Boolean, Int, Uint, Timestamp, Counter, Str, Bytes}
use Rattle.types.specs.declared.value.ValueOf.{ValueOf}
use Rattle.types.specs.declared.value.ValueOf.TheVariants.{Object, Scalar as Plain}
use Rattle.patch.specs.declared.rows.ValueRow.{ValueRow}
use Rattle.patch.specs.declared.rows.ActionRow.{ActionRow}
use Rattle.patch.specs.declared.rows.ActionRow.TheVariants.{PutMap, PutSeq, Insert, SpliceText, Increment, Conflict, DeleteMap, DeleteSeq}
use Rattle.patch.specs.declared.rows.PatchRow.{PatchRow}
use Rattle.meaning.specs.Results.{first_of}
use Rattle.meaning.specs.Entries.{Scalar, null, boolean, int, uint, timestamp, counter, str, bytes, Content, scalar_of, object_of, Entry}
use Rattle.meaning.specs.Patches.{Prop, key, pos, Step, Patch}
use Rattle.meaning.specs.Calls.{Call, put_call, insert_call, delete_seq_call, delete_map_call, increment_call, flag_call, splice_call, own_action}
use Rattle.meaning.specs.Builder.{long_path, overfull, own_at}
use Rattle.patch_call.specs.Refused.{early_tests}
use Rattle.patch_call.specs.Contents.{call_key, call_data}
use Rattle.patch.specs.Told.{Parts}

abbrev pub prop_row : Prop → PropOf ℕ
prop_row (key k) = Map (length k)
prop_row (pos i) = Seq i

abbrev pub scalar_row : Scalar → ScalarOf ℕ
scalar_row null = Null
scalar_row (boolean b) = Boolean b
scalar_row (int n) = Int n
scalar_row (uint n) = Uint n
scalar_row (timestamp n) = Timestamp n
scalar_row (counter n) = Counter n
scalar_row (str s) = Str (length s)
scalar_row (bytes s) = Bytes (length s)

abbrev pub content_row : Content → ValueOf ℕ
content_row (scalar_of s) = Plain (scalar_row s)
content_row (object_of k) = Object k

abbrev pub value_row : Entry → Bool → ValueRow
value_row e w = record { content = content_row e.content; id = e.ident; conflict = e.flag; wide = w }

-- The row of a call's own action; n is the number of a splice's units, w says if an inserted value is wide.
abbrev pub action_row : Call → ℕ → Bool → ActionRow
action_row (put_call (key k) e) n w = PutMap (length k) (value_row e false)
action_row (put_call (pos i) e) n w = PutSeq i (value_row e false)
action_row (insert_call i e) n w = Insert i 1 (cond w 1 0)
action_row (delete_seq_call i m) n w = DeleteSeq i m
action_row (delete_map_call k) n w = DeleteMap (length k)
action_row (increment_call p m d) n w = Increment (prop_row p) m
action_row (flag_call p) n w = Conflict (prop_row p)
action_row (splice_call i t) n w = SpliceText i n

abbrev pub call_values : Call → Bool → List ValueRow
call_values (insert_call i e) w = value_row e w ∷ []
call_values c w = []

abbrev pub call_units : {U : Type 0} → Call → List U → List U
call_units (splice_call i t) us = us
call_units c us = []

-- A call's row, and what is its own.
abbrev pub row_made : ObjId → List StepRow → List ℕ → Call → ℕ → Bool → PatchRow
row_made o ss ks c n w = record { obj = o; steps = length ss; bytes = length ks + (length (call_key c) + length (call_data c)); action = action_row c n w }

abbrev pub parts_made : {U : Type 0} → List StepRow → List ℕ → Call → List U → Bool → Parts U
parts_made ss ks c us w = record { steps = ss; values = call_values c w; units = call_units c us; bytes = ks ++ (call_key c ++ call_data c) }

module _ {U : Type 0} where
  -- The patches held once a call's own is added; us are the units of a splice.
  abbrev pub with_own : ObjId → List Step → Call → List U → List (Patch U) → List (Patch U)
  with_own o s c us held = own_at (some s) o (own_action (λ _. us) c) held

  -- The tests of the path and the counts.
  abbrev pub late_tests : ObjId → List Step → Call → List U → List (Patch U) → List (Bool × Refusal)
  late_tests o s c us held = (long_path (some s), PathTooDeep) ∷ (overfull (with_own o s c us held), Full) ∷ []

  abbrev pub late : ObjId → List Step → Call → List U → List (Patch U) → Option Refusal
  late o s c us held = first_of (late_tests o s c us held)

  -- The first refusal that fits a call whose own patch is added.
  abbrev pub appending : ObjId → List Step → Call → List U → List (Patch U) → Option Refusal
  appending o s c us held = first_of (early_tests o c ++ late_tests o s c us held)
