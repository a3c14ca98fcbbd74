-- The carrying law: from the turns to the joined patches, and to values that have bounds.
use Rattle.std.proofs.Common.{◌≡◌, ℕ, zero, suc, ◌+◌, ◌<◌, ◌≤◌, Bool, true, false, List, [], ◌∷◌, ◌++◌, length, Ok, Err, sym, refl, ap, ◌∙◌, subst, inl, inr, append_assoc, append-nil, arith}
use Rattle.types.specs.Limits.{limits}
use Rattle.types.specs.declared.error.Refusal.TheVariants.{ValueFull}
use Rattle.meaning.specs.Results.{Answer, provided, and_then}
use Rattle.meaning.specs.Lists.{Every}
use Rattle.meaning.specs.Entries.{ranks}
use Rattle.meaning.specs.Patches.{Patch}
use Rattle.meaning.specs.Values.{Value}
use Rattle.meaning.specs.Application.{apply, apply_in, apply_all}
use Rattle.meaning.specs.Documents.{Doc, Lawful, value}
use Rattle.meaning.specs.Builder.{Setting, start, own_patches, builder_over, is_some, refusal_of}
use Rattle.meaning.specs.Joining.{Narrow}
use Rattle.meaning.specs.Log.{Event, Log, log_after}
use Rattle.meaning.specs.Making.{arranged, queue_all, queues, making, turn_of, heard, make_patches}
use Rattle.meaning.specs.Kept.{LeadsRows}
use Rattle.meaning.specs.Carrying.{EndsIn, CarryingLaw, QueueLaw}
use Rattle.meaning.proofs.Tests.{err_ok}
use Rattle.meaning.proofs.Members.{every_map}
use Rattle.meaning.proofs.Runs.{unbounded}
use Rattle.meaning.proofs.News.{nw_root, nw_kid}
use Rattle.meaning.proofs.Sweep.{Leading, swept, carried}
use Rattle.meaning.proofs.Loop.{N, from, end, made, made_in_turns, queues_fit}
use Rattle.meaning.proofs.Logged.{log_sound, ranks_above}
use Rattle.meaning.proofs.Made.{making_good, building_refused, building_ran}

-- with a bound on values an application either ends as without it, or meets the bound
within : {U : Type 0} (units : List ℕ → List U) (bound : Value U → Bool) (ps : List (Patch U)) (v w : Value U) → apply_all (apply units) ps v ≡ Ok w → EndsIn w (apply_all (apply_in units bound) ps v)
within units bound [] v w e = inl e
within {U} units bound (p ∷ ps) v w e = go (within units bound ps) (apply units p v) e
  where
    go : ((v w : Value U) → apply_all (apply units) ps v ≡ Ok w → EndsIn w (apply_all (apply_in units bound) ps v)) → (t : Answer (Value U)) → and_then t (apply_all (apply units) ps) ≡ Ok w
        → EndsIn w (and_then (and_then t (λ u. provided (bound u) ValueFull u)) (apply_all (apply_in units bound) ps))
    go ih (Err r) h = absurd (err_ok r w h)
    go ih (Ok u) h = at_bound (bound u) (ih u w h)
      where
        at_bound : (t : Bool) → EndsIn w (apply_all (apply_in units bound) ps u) → EndsIn w (and_then (provided t ValueFull u) (apply_all (apply_in units bound) ps))
        at_bound true r = r
        at_bound false r = inr refl

module _ {U : Type 0} (units : List ℕ → List U) (l : Log) (da db : Doc) (LA : Lawful da) (LB : Lawful db) (leads : LeadsRows units l da db) (above : Every (λ x. 0 < x) (ranks l.exposed)) where
  abbrev S : Setting U
  S = builder_over units db

  abbrev swept_to : ℕ → List Event
  swept_to = swept units l da db LA LB leads (λ held o c. is_some (refusal_of units db held o c)) (N l db LB above) (nw_root db LB (ranks l.exposed) above) (nw_kid db LB (ranks l.exposed) above)

  from_turns : (k n m : ℕ) → n + k ≡ m → swept_to n ++ from l db LB above n k ≡ swept_to m
  from_turns zero n m e = append-nil (swept_to n) ∙ ap swept_to (let z : n ≡ m = omega arith in z)
  from_turns (suc k) n m e = sym (append_assoc (swept_to n) (turn_of l db n) (from l db LB above (suc n) k)) ∙ from_turns k (suc n) m (omega arith)

  own_carry : Leading units S (making l db) (value units da) (value units db)
  own_carry =
      subst (λ es. Leading units S es (value units da) (value units db)) (sym (made l db LB above ∙ from_turns (end l db LB above) 0 (end l db LB above) (omega arith)))
      (carried units l da db LA LB leads (λ held o c. is_some (refusal_of units db held o c)) (N l db LB above) (nw_root db LB (ranks l.exposed) above) (nw_kid db LB (ranks l.exposed) above) (end l db LB above) (omega arith))

  joined_carry : (ps : List (Patch U)) → make_patches units l db ≡ Ok ps → apply_all (apply units) ps (value units da) ≡ Ok (value units db)
  joined_carry ps h =
      let r = building_ran units db (making l db) [] ps h in
      let n : Narrow S (apply units) (own_patches S (heard (making l db)) start) (value units da) = subst (λ x. Narrow S (apply units) x (value units da)) (sym r.own) own_carry.narrow in
      let e : apply_all (apply units) (own_patches S (heard (making l db)) start) (value units da) ≡ Ok (value units db) = ap (λ x. apply_all (apply units) x (value units da)) r.own ∙ own_carry.ends in
      subst (λ x. apply_all (apply units) x (value units da) ≡ Ok (value units db)) r.ends (unbounded S (heard (making l db)) (value units da) (value units db) n e)

pub carrying_law : {U : Type 0} (units : List ℕ → List U) → CarryingLaw units
carrying_law units =
    record {
      refused = λ xs db LB r h. building_refused units db (making (log_after xs) db) [] (making_good db LB (log_after xs) (log_sound xs).events) r h;
      carried = λ xs da db LA LB leads ps h. joined_carry units (log_after xs) da db LA LB leads (ranks_above (log_after xs).exposed (log_sound xs).exposed) ps h;
      shown = λ xs da db LA LB leads ps h.
          within units _ ps (value units da) (value units db) (joined_carry units (log_after xs) da db LA LB leads (ranks_above (log_after xs).exposed (log_sound xs).exposed) ps h);
    }

pub queue_law : QueueLaw
queue_law =
    record {
      in_turns = λ xs d L. made_in_turns (log_after xs) d L (ranks_above (log_after xs).exposed (log_sound xs).exposed);
      fits_places = λ xs d L n.
          every_map (λ (q : List ℕ). length q ≤ length (log_after xs).exposed + length d) (λ (q : List ℕ). length q ≤ limits.queue_places)
          (queues n d (queue_all (ranks (log_after xs).exposed) []) (arranged (log_after xs).events))
          (λ q _ h. let a = (log_sound xs).few in let b = L.objects in omega arith)
          (queues_fit (log_after xs).exposed d L n (arranged (log_after xs).events));
    }
