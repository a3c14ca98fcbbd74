-- The carrying law: made patches carry the old document's value to the new one's.
use Rattle.std.specs.Prelude.{◌≡◌, ℕ, ◌≤◌, ◌⊎◌, List, [], length, Ok, Err}
use Rattle.types.specs.Limits.{limits}
use Rattle.types.specs.declared.error.Refusal.{Refusal}
use Rattle.types.specs.declared.error.Refusal.TheVariants.{DeletionLength, PathTooDeep, Full, ValueFull}
use Rattle.meaning.specs.Results.{Answer}
use Rattle.meaning.specs.Lists.{Every}
use Rattle.meaning.specs.Entries.{ranks}
use Rattle.meaning.specs.Patches.{Patch}
use Rattle.meaning.specs.Values.{Value}
use Rattle.meaning.specs.Application.{apply, apply_patch, apply_all}
use Rattle.meaning.specs.Documents.{Doc, Lawful, value}
use Rattle.meaning.specs.Log.{LogCall, log_after}
use Rattle.meaning.specs.Making.{arranged, queue_all, queues, making, identities, turns_of, make_patches}
use Rattle.meaning.specs.Kept.{LeadsRows}

-- The refusals that making may meet: 3 for deletions as joined, 6 and 7.
abbrev pub Makings : Refusal → Type 0
Makings r = (r ≡ DeletionLength) ⊎ ((r ≡ PathTooDeep) ⊎ (r ≡ Full))

module _ {U : Type 0} where
  -- An application ends in w, or is stopped by 17, and by nothing else.
  abbrev pub EndsIn : Value U → Answer (Value U) → Type 0
  EndsIn w a = (a ≡ Ok w) ⊎ (a ≡ Err ValueFull)

-- For every list of log calls, and every lawful A and B between which the log leads the kept rows.
pub record CarryingLaw {U : Type 0} (units : List ℕ → List U) : Type 0 where
  -- the calls of making meet none of 1, 2, 4 and 5
  pub refused : (xs : List LogCall) (db : Doc) → Lawful db
      → (r : Refusal) → make_patches units (log_after xs) db ≡ Err r → Makings r
  -- where none is refused, the joined patches turn A's value into B's
  pub carried : (xs : List LogCall) (da db : Doc) → Lawful da → Lawful db → LeadsRows units (log_after xs) da db
      → (ps : List (Patch U)) → make_patches units (log_after xs) db ≡ Ok ps
      → apply_all (apply units) ps (value units da) ≡ Ok (value units db)
  -- on a value that has bounds too, unless it is full on the way
  pub shown : (xs : List LogCall) (da db : Doc) → Lawful da → Lawful db → LeadsRows units (log_after xs) da db
      → (ps : List (Patch U)) → make_patches units (log_after xs) db ≡ Ok ps
      → EndsIn (value units db) (apply_all (apply_patch units) ps (value units da))

-- Making by the queue, and its bound.
pub record QueueLaw : Type 0 where
  -- its calls are the turns of identities in rising order: new ones written out, the others with their events
  pub in_turns : (xs : List LogCall) (d : Doc) → Lawful d → making (log_after xs) d ≡ turns_of (log_after xs) d (identities (log_after xs) d)
  -- the queue never passes its places
  pub fits_places : (xs : List LogCall) (d : Doc) → Lawful d → (n : ℕ)
      → Every (λ (q : List ℕ). length q ≤ limits.queue_places) (queues n d (queue_all (ranks (log_after xs).exposed) []) (arranged (log_after xs).events))
