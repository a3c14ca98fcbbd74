-- What a log holds has been judged: its events meet none of 1 to 5, and it is not full.
use Rattle.std.proofs.Common.{◌≡◌, ℕ, zero, suc, ◌<◌, ◌≤◌, Bool, true, false, cond, not, ◌&&◌, eqb, ltb, List, [], ◌∷◌, ◌++◌, length, sym, refl, ap, ◌∙◌, arith}
use mathlib.Core.Option.{Option, none, some}
use Rattle.types.specs.Identities.{is_root}
use Rattle.types.specs.Limits.{limits}
use Rattle.types.specs.declared.types.OpId.{OpId}
use Rattle.types.specs.declared.types.ObjId.{ObjId}
use Rattle.types.specs.declared.error.Refusal.{Refusal}
use Rattle.types.specs.declared.error.Refusal.TheVariants.{ZeroCounter, PositionTooHigh, DeletionLength, TooLong, InvalidEncoding, Full}
use Rattle.meaning.specs.Results.{first_of}
use Rattle.meaning.specs.Lists.{Every}
use Rattle.meaning.specs.Entries.{rank, ranks, Content, scalar_of, object_of}
use Rattle.meaning.specs.Calls.{Call, put_call, insert_call, delete_seq_call, delete_map_call, increment_call, flag_call, splice_call, zero_id, zero_call, zero_counter, position_too_high, deletion_alone, too_long, bad_encoding}
use Rattle.meaning.specs.Builder.{is_some}
use Rattle.meaning.specs.Log.{Event, Log, Logging, recording, closed, log_of, LogCall, logged, closing, emptying, enter, expose_content, expose_by, recorded, log_full, log_refusal, fresh_log, hear_log, run_log, log_after, records, LogLaw}
use Rattle.meaning.proofs.Tests.{or_false, none_some, ltb_wasnt, eqb_not}
use Rattle.meaning.proofs.Members.{every_append}

-- a call that meets none of 1, 2, 4, 5
pub record Judged (o : ObjId) (c : Call) : Type 0 where
  pub counted : zero_counter o c ≡ false
  pub near : position_too_high c ≡ false
  pub short : too_long c ≡ false
  pub spelt : bad_encoding c ≡ false

abbrev pub Good : Event → Type 0
Good e = Judged e.on e.does

abbrev pub Counted : ObjId → Type 0
Counted o = 0 < o.0.counter

pub record Sound (l : Log) : Type 0 where
  pub events : Every Good l.events
  pub exposed : Every Counted l.exposed
  pub few : length l.exposed ≤ limits.log_exposed

pub first_none : (b : Bool) (r : Refusal) (xs : List (Bool × Refusal)) → first_of ((b, r) ∷ xs) ≡ none → (b ≡ false) × (first_of xs ≡ none)
first_none true r xs e = absurd (none_some r (sym e))
first_none false r xs e = (refl, e)

enter_every : (P : ObjId → Type 0) (x : ObjId) (xs : List ObjId) → P x → Every P xs → Every P (enter rank x xs)
enter_every P x [] p h = (p, tt)
enter_every P x (y ∷ ys) p h = go (ltb (rank x) (rank y)) (eqb (rank x) (rank y)) (enter_every P x ys p h.1)
  where
    go : (s t : Bool) → Every P (enter rank x ys) → Every P (cond s (x ∷ y ∷ ys) (cond t (y ∷ ys) (y ∷ enter rank x ys)))
    go true t k = (p, h)
    go false true k = h
    go false false k = (h.0, k)

counted_id : (d : OpId) → zero_id d ≡ false → 0 < d.counter
counted_id d e = let k = eqb_not d.counter 0 e in go d.counter k
  where
    go : (n : ℕ) → (n ≡ 0 → ⊥) → 0 < n
    go zero k = absurd (k refl)
    go (suc n) k = omega arith

expose_content_lem : (c : Content) (d : OpId) (xs : List ObjId) → zero_id d ≡ false → Every Counted xs → Every Counted (expose_content c d xs)
expose_content_lem (scalar_of s) d xs e h = h
expose_content_lem (object_of k) d xs e h = enter_every Counted (record { 0 = d }) xs (counted_id d e) h

expose_counted : (c : Call) (xs : List ObjId) → zero_call c ≡ false → Every Counted xs → Every Counted (expose_by c xs)
expose_counted (put_call p e) xs z h = expose_content_lem e.content e.ident xs z h
expose_counted (insert_call i e) xs z h = expose_content_lem e.content e.ident xs z h
expose_counted (delete_seq_call i n) xs z h = h
expose_counted (delete_map_call k) xs z h = h
expose_counted (increment_call p n d) xs z h = h
expose_counted (flag_call p) xs z h = h
expose_counted (splice_call i t) xs z h = h

accepted_sound : (l : Log) (o : ObjId) (c : Call) (x : Bool) → log_refusal l o c x ≡ none → Sound l → Sound (recorded l o c x)
accepted_sound l o c x e s =
    let l1 = first_none (zero_counter o c) ZeroCounter ((position_too_high c, PositionTooHigh) ∷ (deletion_alone c, DeletionLength) ∷ (too_long c, TooLong) ∷ (bad_encoding c, InvalidEncoding) ∷ (log_full (recorded l o c x), Full) ∷ []) e in
    let l2 = first_none (position_too_high c) PositionTooHigh ((deletion_alone c, DeletionLength) ∷ (too_long c, TooLong) ∷ (bad_encoding c, InvalidEncoding) ∷ (log_full (recorded l o c x), Full) ∷ []) l1.1 in
    let l3 = first_none (deletion_alone c) DeletionLength ((too_long c, TooLong) ∷ (bad_encoding c, InvalidEncoding) ∷ (log_full (recorded l o c x), Full) ∷ []) l2.1 in
    let l4 = first_none (too_long c) TooLong ((bad_encoding c, InvalidEncoding) ∷ (log_full (recorded l o c x), Full) ∷ []) l3.1 in
    let l5 = first_none (bad_encoding c) InvalidEncoding ((log_full (recorded l o c x), Full) ∷ []) l4.1 in
    let l6 = first_none (log_full (recorded l o c x)) Full [] l5.1 in
    let z = or_false (zero_id o.0 && not (is_root o)) (zero_call c) l1.0 in
    let f = or_false (ltb limits.log_events (length (recorded l o c x).events)) _ l6.0 in
    let g = or_false (ltb limits.log_exposed (length (recorded l o c x).exposed)) _ f.1 in
    record {
      events = every_append Good l.events (record { on = o; does = c } ∷ []) s.events (record { counted = l1.0; near = l2.0; short = l4.0; spelt = l5.0 }, tt);
      exposed = go x z.1;
      few = ltb_wasnt limits.log_exposed (length (recorded l o c x).exposed) g.0;
    }
  where
    go : (t : Bool) → zero_call c ≡ false → Every Counted (cond t (expose_by c l.exposed) l.exposed)
    go true z = expose_counted c l.exposed z s.exposed
    go false z = s.exposed

fresh_sound : Sound fresh_log
fresh_sound = record { events = tt; exposed = tt; few = omega arith }

hear_sound : (x : LogCall) (l : Logging) → Sound (log_of l) → Sound (log_of (hear_log x l))
hear_sound (logged o c x) (recording l) s = go (log_refusal l o c x) refl
  where
    go : (r : Option Refusal) → log_refusal l o c x ≡ r → Sound (cond (is_some r) l (recorded l o c x))
    go none e = accepted_sound l o c x e s
    go (some r) e = s
hear_sound (logged o c x) (closed l) s = s
hear_sound closing (recording l) s = s
hear_sound closing (closed l) s = s
hear_sound emptying (recording l) s = s
hear_sound emptying (closed l) s = fresh_sound

run_sound : (xs : List LogCall) (l : Logging) → Sound (log_of l) → Sound (log_of (run_log xs l))
run_sound [] l s = s
run_sound (x ∷ xs) l s = run_sound xs (hear_log x l) (hear_sound x l s)

pub log_sound : (xs : List LogCall) → Sound (log_after xs)
log_sound xs = run_sound xs (recording fresh_log) fresh_sound

-- identities with a counter above 0 have a rank above 0
pub ranks_above : (os : List ObjId) → Every Counted os → Every (λ x. 0 < x) (ranks os)
ranks_above [] h = tt
ranks_above (o ∷ os) h = (omega (arith, h.0), ranks_above os h.1)

-- runs of a log
run_append : (xs ys : List LogCall) (l : Logging) → run_log (xs ++ ys) l ≡ run_log ys (run_log xs l)
run_append [] ys l = refl
run_append (x ∷ xs) ys l = run_append xs ys (hear_log x l)

after : (xs ys : List LogCall) → log_after (xs ++ ys) ≡ log_of (run_log ys (run_log xs (recording fresh_log)))
after xs ys = ap log_of (run_append xs ys (recording fresh_log))

refused_stays : (l : Logging) (o : ObjId) (c : Call) (x : Bool) (r : Refusal) → log_refusal (log_of l) o c x ≡ some r → log_of (hear_log (logged o c x) l) ≡ log_of l
refused_stays (recording l) o c x r e = ap (λ t. cond (is_some t) l (recorded l o c x)) e
refused_stays (closed l) o c x r e = refl

accepted_last : (l : Logging) (o : ObjId) (c : Call) (x : Bool) → records l ≡ true → log_refusal (log_of l) o c x ≡ none → log_of (hear_log (logged o c x) l) ≡ recorded (log_of l) o c x
accepted_last (recording l) o c x t e = ap (λ t. cond (is_some t) l (recorded l o c x)) e
accepted_last (closed l) o c x t e = let z : ◌≡◌ {A = ℕ} 0 1 = cc in absurd (omega arith)

closing_keeps : (l : Logging) → log_of (hear_log closing l) ≡ log_of l
closing_keeps (recording l) = refl
closing_keeps (closed l) = refl

emptying_closed : (l : Logging) → hear_log emptying (hear_log closing l) ≡ recording fresh_log
emptying_closed (recording l) = refl
emptying_closed (closed l) = refl

pub log_law : LogLaw
log_law =
    record {
      refused = λ xs o c x r e. after xs (logged o c x ∷ []) ∙ refused_stays (run_log xs (recording fresh_log)) o c x r e;
      accepted = λ xs o c x t e. after xs (logged o c x ∷ []) ∙ accepted_last (run_log xs (recording fresh_log)) o c x t e;
      closes = λ xs. after xs (closing ∷ []) ∙ closing_keeps (run_log xs (recording fresh_log));
      empties = λ xs ys. after xs (closing ∷ emptying ∷ ys) ∙ ap (λ l. log_of (run_log ys l)) (emptying_closed (run_log xs (recording fresh_log)));
    }
