-- The log: its calls, when it refuses one, and the events since it was made or last emptied.
use Rattle.std.specs.Prelude.{◌≡◌, ℕ, ◌+◌, Bool, true, false, cond, ◌||◌, List, [], ◌∷◌, ◌++◌, length, ◌==◌, nat_lt}
use Rattle.std.proofs.Math.Option.{Option, none, some}
use Rattle.types.specs.Limits.{limits}
use Rattle.types.specs.declared.types.OpId.{OpId}
use Rattle.types.specs.declared.types.ObjId.{ObjId}
use Rattle.types.specs.declared.error.Refusal.{Refusal}
use Rattle.types.specs.declared.error.Refusal.TheVariants.{ZeroCounter, PositionTooHigh, DeletionLength, TooLong, InvalidEncoding, Full}
use Rattle.meaning.specs.Results.{first_of}
use Rattle.meaning.specs.Entries.{rank, Content, scalar_of, object_of, content_bytes}
use Rattle.meaning.specs.Calls.{Call, put_call, insert_call, delete_seq_call, delete_map_call, increment_call, flag_call, splice_call, zero_counter, position_too_high, deletion_alone, too_long, bad_encoding}
use Rattle.meaning.specs.Builder.{prop_bytes, is_some}

-- An accepted call, with the object it is for.
pub record Event : Type 0 where
  pub on : ObjId
  pub does : Call

-- Events in order of arrival, and the exposed identities in rising order.
pub record Log : Type 0 where
  pub events : List Event
  pub exposed : List ObjId

-- How many calls the log has accepted.
abbrev pub call_count : Log → ℕ
call_count l = length l.events

-- What stands for a log: it records, or it is closed.
pub data Logging : Type 0 where
  recording : Log → Logging
  closed : Log → Logging

-- What a log holds, recording or closed.
abbrev pub log_of : Logging → Log
log_of (recording l) = l
log_of (closed l) = l

-- A log's calls: one of the seven for an object, and whether it exposes what it places; closing; emptying.
pub data LogCall : Type 0 where
  logged : ObjId → Call → Bool → LogCall
  closing : LogCall
  emptying : LogCall

-- x entered among others of rising rank, once.
abbrev pub enter : {X : Type 0} → (X → ℕ) → X → List X → List X
enter r x [] = x ∷ []
enter r x (y ∷ ys) = cond (nat_lt (r x) (r y)) (x ∷ y ∷ ys) (cond (r x == r y) (y ∷ ys) (y ∷ enter r x ys))

-- Only an object that is placed is exposed.
abbrev pub expose_content : Content → OpId → List ObjId → List ObjId
expose_content (scalar_of s) d xs = xs
expose_content (object_of k) d xs = enter rank (record { 0 = d }) xs

-- Only put and insert expose.
abbrev pub expose_by : Call → List ObjId → List ObjId
expose_by (put_call p e) xs = expose_content e.content e.ident xs
expose_by (insert_call i e) xs = expose_content e.content e.ident xs
expose_by (delete_seq_call i n) xs = xs
expose_by (delete_map_call k) xs = xs
expose_by (increment_call p n d) xs = xs
expose_by (flag_call p) xs = xs
expose_by (splice_call i t) xs = xs

-- The log after an accepted call.
abbrev pub recorded : Log → ObjId → Call → Bool → Log
recorded l o c x = record { events = l.events ++ (record { on = o; does = c } ∷ []); exposed = cond x (expose_by c l.exposed) l.exposed }

-- Bytes of keys, scalars and splices.
abbrev pub call_bytes : Call → ℕ
call_bytes (put_call p e) = prop_bytes p + content_bytes e.content
call_bytes (insert_call i e) = content_bytes e.content
call_bytes (delete_seq_call i n) = 0
call_bytes (delete_map_call k) = length k
call_bytes (increment_call p n d) = prop_bytes p
call_bytes (flag_call p) = prop_bytes p
call_bytes (splice_call i t) = length t

-- The bytes of all events.
abbrev pub event_bytes : List Event → ℕ
event_bytes [] = 0
event_bytes (e ∷ es) = call_bytes e.does + event_bytes es

-- 7: one of the three counts passes its bound.
abbrev pub log_full : Log → Bool
log_full l =
    nat_lt limits.log_events (call_count l)
    || (nat_lt limits.log_exposed (length l.exposed)
    || nat_lt limits.log_bytes (event_bytes l.events))

-- The first refusal that fits a call, of 1 to 5 and 7. A log looks for no path.
abbrev pub log_refusal : Log → ObjId → Call → Bool → Option Refusal
log_refusal l o c x =
    first_of (
    (zero_counter o c, ZeroCounter)
    ∷ (position_too_high c, PositionTooHigh)
    ∷ (deletion_alone c, DeletionLength)
    ∷ (too_long c, TooLong)
    ∷ (bad_encoding c, InvalidEncoding)
    ∷ (log_full (recorded l o c x), Full)
    ∷ [])

-- A new log.
abbrev pub fresh_log : Log
fresh_log = record { events = []; exposed = [] }

-- A refused call leaves the log as it was. A closed log has no calls but emptying, which gives a recording one: others cannot be written, and stand here without effect.
abbrev pub hear_log : LogCall → Logging → Logging
hear_log (logged o c x) (recording l) = recording (cond (is_some (log_refusal l o c x)) l (recorded l o c x))
hear_log (logged o c x) (closed l) = closed l
hear_log closing (recording l) = closed l
hear_log closing (closed l) = closed l
hear_log emptying (recording l) = recording l
hear_log emptying (closed l) = recording fresh_log

-- A list of calls, in order.
abbrev pub run_log : List LogCall → Logging → Logging
run_log [] l = l
run_log (x ∷ xs) l = run_log xs (hear_log x l)

-- The log after a list of calls.
abbrev pub log_after : List LogCall → Log
log_after xs = log_of (run_log xs (recording fresh_log))

-- Whether a log records.
abbrev pub records : Logging → Bool
records (recording l) = true
records (closed l) = false

-- A log holds what was accepted since it was made or last emptied.
pub record LogLaw : Type 0 where
  -- a refused call leaves it as it was
  pub refused : (xs : List LogCall) (o : ObjId) (c : Call) (x : Bool) (r : Refusal)
      → log_refusal (log_after xs) o c x ≡ some r → log_after (xs ++ (logged o c x ∷ [])) ≡ log_after xs
  -- an accepted one becomes its last event
  pub accepted : (xs : List LogCall) (o : ObjId) (c : Call) (x : Bool) → records (run_log xs (recording fresh_log)) ≡ true
      → log_refusal (log_after xs) o c x ≡ none → log_after (xs ++ (logged o c x ∷ [])) ≡ recorded (log_after xs) o c x
  -- closing keeps what it holds
  pub closes : (xs : List LogCall) → log_after (xs ++ (closing ∷ [])) ≡ log_after xs
  -- emptying a closed log leaves nothing of what came before
  pub empties : (xs ys : List LogCall) → log_after (xs ++ (closing ∷ emptying ∷ ys)) ≡ log_after ys
