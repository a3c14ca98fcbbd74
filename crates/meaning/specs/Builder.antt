-- The builder: its calls, how each joins the patch before it, and when it is refused.
use Rattle.std.specs.Prelude.{ℕ, ◌+◌, ◌-◌, Bool, true, false, cond, ◌&&◌, ◌||◌, List, [], ◌∷◌, ◌++◌, reverse, length, ◌==◌, nat_le, nat_lt}
use Rattle.std.proofs.Math.Option.{Option, none, some}
use Rattle.std.specs.Ordering.{is_eq}
use Rattle.types.specs.Limits.{limits}
use Rattle.types.specs.declared.types.ObjId.{ObjId}
use Rattle.types.specs.declared.error.Refusal.{Refusal}
use Rattle.types.specs.declared.error.Refusal.TheVariants.{ZeroCounter, PositionTooHigh, DeletionLength, TooLong, InvalidEncoding, PathTooDeep, Full}
use Rattle.meaning.specs.Results.{first_of}
use Rattle.meaning.specs.Lists.{splice}
use Rattle.meaning.specs.Entries.{compare_keys, content_bytes, Entry}
use Rattle.meaning.specs.Patches.{Prop, key, pos, Step, Action, put_map, put_seq, insert, splice_text, increment, conflict, delete_map, delete_seq, Patch}
use Rattle.meaning.specs.Rows.{units_in}
use Rattle.meaning.specs.Documents.{Doc, path_of, is_text}
use Rattle.meaning.specs.Calls.{Call, put_call, insert_call, delete_seq_call, delete_map_call, increment_call, flag_call, splice_call, own_action, zero_counter, position_too_high, bad_length, deletion_alone, too_long, bad_encoding}

-- What a builder hears: a call for an object, or that its patches are taken.
pub data Input : Type 0 where
  call : ObjId → Call → Input
  take_patches : Input

-- The patches of the batches taken, in order, and those held, newest first.
pub record State (U : Type 0) : Type 0 where
  pub taken : List (Patch U)
  pub held : List (Patch U)

-- What a builder works over: the units of a string, paths and texts of a document, and which calls it refuses.
pub record Setting (U : Type 0) : Type 0 where
  pub units : List ℕ → List U
  pub path : ObjId → Option (List Step)
  pub text : ObjId → Bool
  pub refuses : List (Patch U) → ObjId → Call → Bool

-- What becomes of the last patch: it stays as it is beside the call's own; it takes the call in; it is emptied and removed.
pub data Joined (U : Type 0) : Type 0 where
  apart : Joined U
  into : Action U → Joined U
  gone : Joined U

-- What a deletion leaves: a patch that is emptied goes.
abbrev pub remains : {U A : Type 0} → (List A → Action U) → List A → Joined U
remains f [] = gone
remains f (x ∷ xs) = into (f (x ∷ xs))

-- Two identities are the same.
abbrev pub same_obj : ObjId → ObjId → Bool
same_obj a b = a.0.counter == b.0.counter && a.0.actor == b.0.actor

-- The entry with its flag set.
abbrev pub flag_entry : Entry → Entry
flag_entry e = record { content = e.content; ident = e.ident; flag = true }

module _ {U : Type 0} where
  -- To flag what was just put is to flag the put.
  abbrev pub join_flag : Prop → Action U → Joined U
  join_flag (key k) (put_map j x) = cond (is_eq (compare_keys k j)) (into (put_map j (flag_entry x))) apart
  join_flag (pos i) (put_map j x) = apart
  join_flag (key k) (put_seq t x) = apart
  join_flag (pos i) (put_seq t x) = cond (i == t) (into (put_seq t (flag_entry x))) apart
  join_flag p (insert t es) = apart
  join_flag p (splice_text t us) = apart
  join_flag p (increment q n) = apart
  join_flag p (conflict q) = apart
  join_flag p (delete_map k) = apart
  join_flag p (delete_seq t n) = apart

module _ {U : Type 0} (units : List ℕ → List U) where
  -- Every one of the entries is one unit wide in a text.
  abbrev pub all_one : List Entry → Bool
  all_one [] = true
  all_one (e ∷ es) = length (units_in units e) == 1 && all_one es

  -- Positions in a text of the document count units, so there an Insert is edited only if each of its values is one unit.
  abbrev pub allowed : Bool → List Entry → Bool
  allowed true es = all_one es
  allowed false es = true

  -- After an Insert of n values at t, an insert at i lands among them, at place i - t, if i is neither before t nor past t + n.
  abbrev pub join_insert : Bool → ℕ → Entry → Action U → Joined U
  join_insert txt i e (put_map k x) = apart
  join_insert txt i e (put_seq t x) = apart
  join_insert txt i e (insert t es) =
      cond (nat_le t i && (nat_le i (t + length es) && allowed txt (e ∷ es))) (into (insert t (splice (i - t) 0 (e ∷ []) es))) apart
  join_insert txt i e (splice_text t us) = apart
  join_insert txt i e (increment p n) = apart
  join_insert txt i e (conflict p) = apart
  join_insert txt i e (delete_map k) = apart
  join_insert txt i e (delete_seq t n) = apart

  -- The same for a splice after a SpliceText, counted in units.
  abbrev pub join_splice : ℕ → List ℕ → Action U → Joined U
  join_splice i s (put_map k x) = apart
  join_splice i s (put_seq t x) = apart
  join_splice i s (insert t es) = apart
  join_splice i s (splice_text t us) =
      cond (nat_le t i && nat_le i (t + length us)) (into (splice_text t (splice (i - t) 0 (units s) us))) apart
  join_splice i s (increment p n) = apart
  join_splice i s (conflict p) = apart
  join_splice i s (delete_map k) = apart
  join_splice i s (delete_seq t n) = apart

  -- To delete what the last patch put in takes it out again, if the patch has all of it; two deletions at one place add up.
  abbrev pub join_delete : Bool → ℕ → ℕ → Action U → Joined U
  join_delete txt i m (put_map k x) = apart
  join_delete txt i m (put_seq t x) = apart
  join_delete txt i m (insert t es) =
      cond (nat_le t i && (nat_le (i + m) (t + length es) && allowed txt es)) (remains (insert t) (splice (i - t) m [] es)) apart
  join_delete txt i m (splice_text t us) =
      cond (nat_le t i && nat_le (i + m) (t + length us)) (remains (splice_text t) (splice (i - t) m [] us)) apart
  join_delete txt i m (increment p n) = apart
  join_delete txt i m (conflict p) = apart
  join_delete txt i m (delete_map k) = apart
  join_delete txt i m (delete_seq t n) = cond (t == i) (into (delete_seq t (n + m))) apart

  -- A call after a patch of the same object; txt says if that is a text of the document.
  abbrev pub join : Bool → Call → Action U → Joined U
  join txt (put_call p e) a = apart
  join txt (insert_call i e) a = join_insert txt i e a
  join txt (delete_seq_call i n) a = join_delete txt i n a
  join txt (delete_map_call k) a = apart
  join txt (increment_call p n d) a = apart
  join txt (flag_call p) a = join_flag p a
  join txt (splice_call i s) a = join_splice i s a

module _ {U : Type 0} where
  -- The patch of a call by itself, in front of others; an object without a path gives none.
  abbrev pub own_at : Option (List Step) → ObjId → Action U → List (Patch U) → List (Patch U)
  own_at none o a ps = ps
  own_at (some s) o a ps = record { obj = o; path = s; action = a } ∷ ps

  -- The same over a builder's document.
  abbrev pub own : Setting U → ObjId → Call → List (Patch U) → List (Patch U)
  own S o c ps = own_at (S.path o) o (own_action S.units c) ps

  -- What a call makes of the last patch held; apart, where there is none or it is another object's.
  abbrev pub joining : Setting U → ObjId → Call → List (Patch U) → Joined U
  joining S o c [] = apart
  joining S o c (p ∷ ps) = cond (same_obj p.obj o) (join S.units (S.text o) c p.action) apart

  -- The patches held after a call, by what became of the last one.
  abbrev pub settle : Setting U → ObjId → Call → Patch U → List (Patch U) → Joined U → List (Patch U)
  settle S o c p ps apart = own S o c (p ∷ ps)
  settle S o c p ps (into a) = record { obj = p.obj; path = p.path; action = a } ∷ ps
  settle S o c p ps gone = ps

  -- The patches held, newest first, after an accepted call.
  abbrev pub accept : Setting U → ObjId → Call → List (Patch U) → List (Patch U)
  accept S o c [] = own S o c []
  accept S o c (p ∷ ps) = settle S o c p ps (joining S o c (p ∷ ps))

  -- A new builder.
  abbrev pub start : State U
  start = record { taken = []; held = [] }

  -- What has come out of the builder, and what is still in it.
  abbrev pub joined : State U → List (Patch U)
  joined st = st.taken ++ reverse st.held

  -- One input: a refused call changes nothing, and taking empties the builder into a batch.
  abbrev pub hear : Setting U → Input → State U → State U
  hear S (call o c) st = record { taken = st.taken; held = cond (S.refuses st.held o c) st.held (accept S o c st.held) }
  hear S take_patches st = record { taken = joined st; held = [] }

  -- A list of inputs, in order.
  abbrev pub run : Setting U → List Input → State U → State U
  run S [] st = st
  run S (x ∷ xs) st = run S xs (hear S x st)

  -- The own patches of the accepted calls, in order.
  abbrev pub own_patches : Setting U → List Input → State U → List (Patch U)
  own_patches S [] st = []
  own_patches S (call o c ∷ xs) st =
      cond (S.refuses st.held o c) (own_patches S xs st) (own S o c (own_patches S xs (hear S (call o c) st)))
  own_patches S (take_patches ∷ xs) st = own_patches S xs (hear S take_patches st)

-- What the patches held count for: patches, inserted values, text units, bytes of keys, path keys and scalars.
pub record Load : Type 0 where
  pub patch_count : ℕ
  pub value_count : ℕ
  pub text_units : ℕ
  pub byte_count : ℕ

-- Bytes of a key, none of a position.
abbrev pub prop_bytes : Prop → ℕ
prop_bytes (key k) = length k
prop_bytes (pos i) = 0

-- Bytes of a path's keys.
abbrev pub bytes_of_path : List Step → ℕ
bytes_of_path [] = 0
bytes_of_path (s ∷ ss) = prop_bytes s.prop + bytes_of_path ss

-- Bytes of the scalars of entries.
abbrev pub entries_bytes : List Entry → ℕ
entries_bytes [] = 0
entries_bytes (e ∷ es) = content_bytes e.content + entries_bytes es

-- 6: a path is looked for, found, and too long.
abbrev pub long_path : Option (List Step) → Bool
long_path none = false
long_path (some s) = nat_lt limits.path_steps (length s)

module _ {U : Type 0} where
  -- Inserted values of an action.
  abbrev pub action_values : Action U → ℕ
  action_values (put_map k e) = 0
  action_values (put_seq i e) = 0
  action_values (insert i es) = length es
  action_values (splice_text i us) = 0
  action_values (increment p n) = 0
  action_values (conflict p) = 0
  action_values (delete_map k) = 0
  action_values (delete_seq i n) = 0

  -- Text units of an action.
  abbrev pub action_units : Action U → ℕ
  action_units (put_map k e) = 0
  action_units (put_seq i e) = 0
  action_units (insert i es) = 0
  action_units (splice_text i us) = length us
  action_units (increment p n) = 0
  action_units (conflict p) = 0
  action_units (delete_map k) = 0
  action_units (delete_seq i n) = 0

  -- Bytes of the keys and scalars of an action.
  abbrev pub action_bytes : Action U → ℕ
  action_bytes (put_map k e) = length k + content_bytes e.content
  action_bytes (put_seq i e) = content_bytes e.content
  action_bytes (insert i es) = entries_bytes es
  action_bytes (splice_text i us) = 0
  action_bytes (increment p n) = prop_bytes p
  action_bytes (conflict p) = prop_bytes p
  action_bytes (delete_map k) = length k
  action_bytes (delete_seq i n) = 0

  -- What a list of patches counts for.
  abbrev pub load : List (Patch U) → Load
  load [] = record { patch_count = 0; value_count = 0; text_units = 0; byte_count = 0 }
  load (p ∷ ps) =
      record {
        patch_count = 1 + (load ps).patch_count;
        value_count = action_values p.action + (load ps).value_count;
        text_units = action_units p.action + (load ps).text_units;
        byte_count = bytes_of_path p.path + action_bytes p.action + (load ps).byte_count;
      }

  -- 7: one of the four counts passes its bound.
  abbrev pub overfull : List (Patch U) → Bool
  overfull ps =
      nat_lt limits.builder_patches (load ps).patch_count
      || (nat_lt limits.builder_values (load ps).value_count
      || (nat_lt limits.builder_units (load ps).text_units
      || nat_lt limits.builder_bytes (load ps).byte_count))

  -- 3: a deletion alone, or as joined.
  abbrev pub joined_length : Joined U → Bool
  joined_length apart = false
  joined_length (into (put_map k e)) = false
  joined_length (into (put_seq i e)) = false
  joined_length (into (insert i es)) = false
  joined_length (into (splice_text i us)) = false
  joined_length (into (increment p n)) = false
  joined_length (into (conflict p)) = false
  joined_length (into (delete_map k)) = false
  joined_length (into (delete_seq i n)) = bad_length n
  joined_length gone = false

  -- Only a call that stands apart looks for a path.
  abbrev pub too_deep : Setting U → ObjId → Joined U → Bool
  too_deep S o apart = long_path (S.path o)
  too_deep S o (into a) = false
  too_deep S o gone = false

  -- The first refusal that fits a call, of 1 to 7.
  abbrev pub refusal_in : Setting U → List (Patch U) → ObjId → Call → Option Refusal
  refusal_in S held o c =
      first_of (
      (zero_counter o c, ZeroCounter)
      ∷ (position_too_high c, PositionTooHigh)
      ∷ (deletion_alone c || joined_length (joining S o c held), DeletionLength)
      ∷ (too_long c, TooLong)
      ∷ (bad_encoding c, InvalidEncoding)
      ∷ (too_deep S o (joining S o c held), PathTooDeep)
      ∷ (overfull (accept S o c held), Full)
      ∷ [])

-- Something is there.
abbrev pub is_some : {A : Type 0} → Option A → Bool
is_some none = false
is_some (some a) = true

module _ {U : Type 0} (units : List ℕ → List U) (d : Doc) where
  -- A builder over a document, whichever calls it refuses.
  abbrev pub over_doc : (List (Patch U) → ObjId → Call → Bool) → Setting U
  over_doc refuses = record { units = units; path = path_of d; text = is_text d; refuses = refuses }

  -- The first refusal that fits a call of a builder over a document.
  abbrev pub refusal_of : List (Patch U) → ObjId → Call → Option Refusal
  refusal_of held o c = refusal_in (over_doc (λ _ _ _. false)) held o c

  -- The builder of the product.
  abbrev pub builder_over : Setting U
  builder_over = over_doc (λ held o c. is_some (refusal_of held o c))
