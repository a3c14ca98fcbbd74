-- Paths, as they are found and written.
use Rattle.std.specs.Prelude.{◌≡◌, ℕ, ◌<◌, ◌≤◌, Bool, false, List, [], ◌∷◌, ◌++◌, length, take, drop, Some, None, Option as Answer, Ok, Err, Result, ◌==◌}
use Rattle.std.proofs.Math.Option.{Option, none, some, map}
use Rattle.types.specs.Limits.{limits}
use Rattle.types.specs.declared.types.OpId.{OpId}
use Rattle.types.specs.declared.types.ObjId.{ObjId}
use Rattle.meaning.specs.Entries.{rank, Key, Content, scalar_of, object_of, Entry}
use Rattle.meaning.specs.Patches.{Prop, key, pos, Step}
use Rattle.meaning.specs.Rows.{map_of, list_of, text_of}
use Rattle.meaning.specs.Documents.{DocRow, Obj, Doc, find, items, seek, path_of}
use Rattle.document.specs.declared.step.PathStep.{PathStep}
use Rattle.document.specs.declared.step.PathError.{PathError}
use Rattle.document.specs.declared.step.PathError.TheVariants.{NoPath, TooDeep}
use Rattle.document.specs.Places.{nth}

-- Whether an entry names the object of rank i.
abbrev pub names_content : ℕ → Content → OpId → Bool
names_content i (scalar_of s) d = false
names_content i (object_of k) d = i == rank (record { 0 = d })

abbrev pub names_it : ℕ → Key × Entry → Bool
names_it i p = names_content i p.1.content p.1.ident

-- The key or the position of the entry at a place of a row. In a map, a place past the last is told as a position, which no key is.
abbrev pub key_at : ℕ → Option (Key × Entry) → Prop
key_at n none = pos n
key_at n (some p) = key p.0

abbrev pub prop_at : DocRow → ℕ → Prop
prop_at (map_of m) n = key_at n (nth m n)
prop_at (list_of l) n = pos n
prop_at (text_of t) n = pos n

abbrev pub prop_told : Option Obj → ℕ → Prop
prop_told none n = pos n
prop_told (some o) n = prop_at o.row n

-- Where in an object's row another is named, if anywhere.
abbrev pub seek_told : Option Obj → ℕ → Option Prop
seek_told none i = none
seek_told (some q) i = seek i (items q)

abbrev pub Sought : Option Obj → ℕ → Answer ℕ → Type 0
Sought x i None = seek_told x i ≡ none
Sought x i (Some n) = seek_told x i ≡ some (prop_told x n)

-- A written step, as the meaning has it.
abbrev pub step_seen : Doc → PathStep → Step
step_seen d s = record { leaves = s.leaves; prop = prop_told (find d (rank s.leaves)) s.place }

abbrev pub steps_seen : Doc → List PathStep → List Step
steps_seen d [] = []
steps_seen d (s ∷ ss) = step_seen d s ∷ steps_seen d ss

-- The last step of a path, and the path before it, which is of an earlier object.
abbrev pub Linked : Doc → ObjId → Answer PathStep → Type 0
Linked d o None = path_of d o ≡ none
Linked d o (Some s) = (rank s.leaves < rank o) × (path_of d o ≡ map (λ p. p ++ (step_seen d s ∷ [])) (path_of d s.leaves))

-- The steps of a path stand in the places from the first on, as many as there are places; the later places are as they were.
pub record Written (d : Doc) (p : List Step) (old new : List PathStep) : Type 0 where
  pub here : take (length p) (steps_seen d new) ≡ take (length new) p
  pub behind : drop (length p) new ≡ drop (length p) old

abbrev pub Climbed : Doc → Option (List Step) → List PathStep → List PathStep → Answer ℕ → Type 0
Climbed d path old new None = (path ≡ none) × (new ≡ old)
Climbed d path old new (Some k) = (p : List Step) × (path ≡ some p) × (k ≡ length p) × Written d p old new

-- What finding a path answers and writes.
abbrev pub Answered : Doc → Option (List Step) → List PathStep → List PathStep → Result ℕ PathError → Type 0
Answered d path old new (Err NoPath) = (path ≡ none) × (new ≡ old)
Answered d path old new (Err TooDeep) = (p : List Step) × (path ≡ some p) × (limits.path_steps < length p) × Written d p old new
Answered d path old new (Ok k) = (p : List Step) × (path ≡ some p) × (k ≡ length p) × (k ≤ limits.path_steps) × Written d p old new
