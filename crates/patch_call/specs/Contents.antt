-- The bytes that a call brings: its key, and the string or byte string that it places.
use Rattle.std.specs.Prelude.{ℕ, List, []}
use Rattle.meaning.specs.Entries.{Scalar, null, boolean, int, uint, timestamp, counter, str, bytes, Content, scalar_of, object_of}
use Rattle.meaning.specs.Patches.{Prop, key, pos}
use Rattle.meaning.specs.Calls.{Call, put_call, insert_call, delete_seq_call, delete_map_call, increment_call, flag_call, splice_call}

-- The bytes of a key; a position has none.
abbrev pub prop_key : Prop → List ℕ
prop_key (key k) = k
prop_key (pos i) = []

abbrev pub scalar_data : Scalar → List ℕ
scalar_data null = []
scalar_data (boolean b) = []
scalar_data (int n) = []
scalar_data (uint n) = []
scalar_data (timestamp n) = []
scalar_data (counter n) = []
scalar_data (str s) = s
scalar_data (bytes s) = s

abbrev pub content_data : Content → List ℕ
content_data (scalar_of s) = scalar_data s
content_data (object_of k) = []

abbrev pub call_key : Call → List ℕ
call_key (put_call p e) = prop_key p
call_key (insert_call i e) = []
call_key (delete_seq_call i n) = []
call_key (delete_map_call k) = k
call_key (increment_call p n d) = prop_key p
call_key (flag_call p) = prop_key p
call_key (splice_call i t) = []

abbrev pub call_data : Call → List ℕ
call_data (put_call p e) = content_data e.content
call_data (insert_call i e) = content_data e.content
call_data (delete_seq_call i n) = []
call_data (delete_map_call k) = []
call_data (increment_call p n d) = []
call_data (flag_call p) = []
call_data (splice_call i t) = []
