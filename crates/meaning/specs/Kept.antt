-- Kept rows: what a log makes of the rows of a document, and when it leads them to those of another.
use Rattle.std.specs.Prelude.{◌≡◌, ℕ, List, [], ◌∷◌, Ok}
use Rattle.std.proofs.Math.Option.{some}
use Rattle.meaning.specs.Results.{Answer, and_then}
use Rattle.meaning.specs.Lists.{In, Every}
use Rattle.meaning.specs.Entries.{ranks, Ref, ref_rank, Item}
use Rattle.meaning.specs.Rows.{Row, map_row, refs, in_row}
use Rattle.meaning.specs.Documents.{Obj, name, Doc, find, row_in}
use Rattle.meaning.specs.Calls.{own_action}
use Rattle.meaning.specs.Log.{Event, Log}
use Rattle.meaning.specs.Making.{events_of}

-- An object in a replayed row: it was there, or an event placed it. The tag is the entry's: one identity may stand in a row under both.
pub data Tag : Type 0 where
  old : Ref → Tag
  new : Ref → Tag

-- What an entry names, old or new.
abbrev pub untag : Tag → Ref
untag (old r) = r
untag (new r) = r

-- An object is exposed exactly if it is new.
abbrev pub Told : Log → Tag → Type 0
Told l (old r) = In (ref_rank r) (ranks l.exposed) → ⊥
Told l (new r) = In (ref_rank r) (ranks l.exposed)

module _ {U : Type 0} (units : List ℕ → List U) where
  -- A row after events, one by one, by the rules of a screen.
  abbrev pub replay : {X : Type 0} → (Ref → X) → List Event → Row (List U) (Item X) → Answer (Row (List U) (Item X))
  replay g [] ρ = Ok ρ
  replay g (e ∷ es) ρ = and_then (in_row units g (own_action units e.does) ρ) (replay g es)

  -- A row after the log's events for its object, where what stood in it before counts as old.
  abbrev pub replayed : Log → Obj → Answer (Row (List U) (Item Tag))
  replayed l a = replay new (events_of l.events (name a)) (map_row old (row_in units a))

  -- The row is led to that of b: nothing is refused, and it ends as that row.
  abbrev pub LeadsRow : Log → Obj → Obj → Type 0
  LeadsRow l a b = (ρ : Row (List U) (Item Tag)) × (replayed l a ≡ Ok ρ) × (map_row untag ρ ≡ row_in units b) × Every (Told l) (refs ρ)

  -- Kept objects: the root, and whatever is still old in a kept row once its events are replayed.
  pub data Kept (l : Log) (da : Doc) : ℕ → Type 0 where
    root : Kept l da 0
    stays : {i : ℕ} → Kept l da i → (a : Obj) → find da i ≡ some a → (ρ : Row (List U) (Item Tag)) → replayed l a ≡ Ok ρ → (r : Ref) → In (old r) (refs ρ) → Kept l da (ref_rank r)

  -- The log leads every kept row of A to its row in B.
  abbrev pub LeadsRows : Log → Doc → Doc → Type 0
  LeadsRows l da db = (i : ℕ) (a b : Obj) → Kept l da i → find da i ≡ some a → find db i ≡ some b → LeadsRow l a b
