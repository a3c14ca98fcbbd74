-- What is lent of a call, as the meaning has it.
use Rattle.std.specs.Prelude.{ℕ, List}
use Rattle.std.specs.Borrow.{Bor}
use Rattle.types.specs.declared.value.ScalarOf.{ScalarOf}
use Rattle.types.specs.declared.value.ScalarOf.TheVariants.{Null, Boolean, Int, Uint, Timestamp, Counter, Str, Bytes}
use Rattle.types.specs.declared.value.ValueOf.{ValueOf}
use Rattle.types.specs.declared.value.ValueOf.TheVariants.{Object, Scalar as Plain}
use Rattle.types.specs.declared.value.PropOf.{PropOf}
use Rattle.types.specs.declared.value.PropOf.TheVariants.{Map, Seq}
use Rattle.patch_call.specs.declared.call.Entry.{Entry as LentEntry}
use Rattle.patch_call.specs.declared.call.Call.{Call as LentCall}
use Rattle.patch_call.specs.declared.call.Call.TheVariants.{Put, Insert, DeleteSeq, DeleteMap, Increment, FlagConflict, SpliceText}
use Rattle.meaning.specs.Entries.{Scalar, null, boolean, int, uint, timestamp, counter, str, bytes, Content, scalar_of, object_of, Entry}
use Rattle.meaning.specs.Patches.{Prop, key, pos}
use Rattle.meaning.specs.Calls.{Call, put_call, insert_call, delete_seq_call, delete_map_call, increment_call, flag_call, splice_call}

-- Where in an object.
abbrev pub prop_seen : PropOf (Bor (List ℕ)) → Prop
prop_seen (Map k) = key k.now
prop_seen (Seq i) = pos i

abbrev pub scalar_seen : ScalarOf (Bor (List ℕ)) → Scalar
scalar_seen Null = null
scalar_seen (Boolean b) = boolean b
scalar_seen (Int n) = int n
scalar_seen (Uint n) = uint n
scalar_seen (Timestamp n) = timestamp n
scalar_seen (Counter n) = counter n
scalar_seen (Str s) = str s.now
scalar_seen (Bytes s) = bytes s.now

-- A scalar, or a new object.
abbrev pub content_seen : ValueOf (Bor (List ℕ)) → Content
content_seen (Object k) = object_of k
content_seen (Plain s) = scalar_of (scalar_seen s)

abbrev pub entry_seen : LentEntry → Entry
entry_seen e = record { content = content_seen e.value; ident = e.id; flag = e.conflict }

abbrev pub call_seen : LentCall → Call
call_seen (Put p e) = put_call (prop_seen p) (entry_seen e)
call_seen (Insert i e) = insert_call i (entry_seen e)
call_seen (DeleteSeq i n) = delete_seq_call i n
call_seen (DeleteMap k) = delete_map_call k.now
call_seen (Increment p n d) = increment_call (prop_seen p) n d
call_seen (FlagConflict p) = flag_call (prop_seen p)
call_seen (SpliceText i t) = splice_call i t.now
