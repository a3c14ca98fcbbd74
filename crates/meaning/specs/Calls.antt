-- The seven calls that log and builder share, and what of a call is refused wherever it is made.
use Rattle.std.specs.Prelude.{ℕ, Bool, false, not, ◌&&◌, ◌||◌, List, [], ◌∷◌, length, ℤ, ◌==◌, nat_lt}
use Rattle.types.specs.Identities.{is_root}
use Rattle.types.specs.Limits.{limits}
use Rattle.types.specs.declared.types.OpId.{OpId}
use Rattle.types.specs.declared.types.ObjId.{ObjId}
use Rattle.text_value.specs.Rfc3629.{utf8}
use Rattle.meaning.specs.Entries.{Key, content_bytes, Entry}
use Rattle.meaning.specs.Patches.{Prop, key, pos, Action, put_map, put_seq, insert, splice_text, increment, conflict, delete_map, delete_seq}
use Rattle.meaning.specs.Documents.{well_spelt}

-- The calls: put, insert, delete elements, delete a key, increment, flag a conflict, splice.
pub data Call : Type 0 where
  put_call : Prop → Entry → Call
  insert_call : ℕ → Entry → Call
  delete_seq_call : ℕ → ℕ → Call
  delete_map_call : Key → Call
  increment_call : Prop → ℤ → OpId → Call
  flag_call : Prop → Call
  splice_call : ℕ → List ℕ → Call

-- What a call does, taken by itself.
abbrev pub own_action : {U : Type 0} → (List ℕ → List U) → Call → Action U
own_action units (put_call (key k) e) = put_map k e
own_action units (put_call (pos i) e) = put_seq i e
own_action units (insert_call i e) = insert i (e ∷ [])
own_action units (delete_seq_call i n) = delete_seq i n
own_action units (delete_map_call k) = delete_map k
own_action units (increment_call p n d) = increment p n
own_action units (flag_call p) = conflict p
own_action units (splice_call i t) = splice_text i (units t)

-- 1: some identity counts from 0, and is not the root that is written to.
abbrev pub zero_id : OpId → Bool
zero_id d = d.counter == 0

-- Of a call's own identity.
abbrev pub zero_call : Call → Bool
zero_call (put_call p e) = zero_id e.ident
zero_call (insert_call i e) = zero_id e.ident
zero_call (delete_seq_call i n) = false
zero_call (delete_map_call k) = false
zero_call (increment_call p n d) = zero_id d
zero_call (flag_call p) = false
zero_call (splice_call i t) = false

-- Of the object or the call.
abbrev pub zero_counter : ObjId → Call → Bool
zero_counter o c = (zero_id o.0 && not (is_root o)) || zero_call c

-- 2: a position is too high.
abbrev pub high_pos : ℕ → Bool
high_pos i = nat_lt limits.last_position i

-- Of where a call goes.
abbrev pub high_prop : Prop → Bool
high_prop (key k) = false
high_prop (pos i) = high_pos i

-- Of a call.
abbrev pub position_too_high : Call → Bool
position_too_high (put_call p e) = high_prop p
position_too_high (insert_call i e) = high_pos i
position_too_high (delete_seq_call i n) = high_pos i
position_too_high (delete_map_call k) = false
position_too_high (increment_call p n d) = high_prop p
position_too_high (flag_call p) = high_prop p
position_too_high (splice_call i t) = high_pos i

-- 3: a deletion takes nothing, or too much.
abbrev pub bad_length : ℕ → Bool
bad_length n = n == 0 || nat_lt limits.deletion_length n

-- Of a call, taken by itself.
abbrev pub deletion_alone : Call → Bool
deletion_alone (put_call p e) = false
deletion_alone (insert_call i e) = false
deletion_alone (delete_seq_call i n) = bad_length n
deletion_alone (delete_map_call k) = false
deletion_alone (increment_call p n d) = false
deletion_alone (flag_call p) = false
deletion_alone (splice_call i t) = false

-- 4: more bytes than a key, a scalar or a splice may have.
abbrev pub long_key : Key → Bool
long_key k = nat_lt limits.key_bytes (length k)

-- Of where a call goes.
abbrev pub long_prop : Prop → Bool
long_prop (key k) = long_key k
long_prop (pos i) = false

-- Of what a call places.
abbrev pub long_entry : Entry → Bool
long_entry e = nat_lt limits.scalar_bytes (content_bytes e.content)

-- Of a call.
abbrev pub too_long : Call → Bool
too_long (put_call p e) = long_prop p || long_entry e
too_long (insert_call i e) = long_entry e
too_long (delete_seq_call i n) = false
too_long (delete_map_call k) = long_key k
too_long (increment_call p n d) = long_prop p
too_long (flag_call p) = long_prop p
too_long (splice_call i t) = nat_lt limits.splice_bytes (length t)

-- 5: bytes that are to be text and are no UTF-8.
abbrev pub bad_prop : Prop → Bool
bad_prop (key k) = not (utf8 k)
bad_prop (pos i) = false

-- Of a call.
abbrev pub bad_encoding : Call → Bool
bad_encoding (put_call p e) = bad_prop p || not (well_spelt e.content)
bad_encoding (insert_call i e) = not (well_spelt e.content)
bad_encoding (delete_seq_call i n) = false
bad_encoding (delete_map_call k) = not (utf8 k)
bad_encoding (increment_call p n d) = bad_prop p
bad_encoding (flag_call p) = bad_prop p
bad_encoding (splice_call i t) = not (utf8 t)
