-- What holds of ranks, of the values of documents, and of applying batches.
use Rattle.std.specs.Prelude.{◌≡◌, ℕ, ◌^◌, ◌<◌, true, List, length, take, Ok, Err}
use Rattle.std.proofs.Math.Option.{some}
use Rattle.types.specs.Identities.{compare_numbers, compare_ids}
use Rattle.types.specs.declared.types.ObjId.{ObjId}
use Rattle.types.specs.declared.types.ObjType.TheVariants.{Map}
use Rattle.types.specs.declared.error.Refusal.{Refusal}
use Rattle.meaning.specs.Results.{Answer}
use Rattle.meaning.specs.Entries.{rank, Ref, ref_rank}
use Rattle.meaning.specs.Patches.{Patch}
use Rattle.meaning.specs.Rows.{map_row}
use Rattle.meaning.specs.Values.{Value, built, bare, fits}
use Rattle.meaning.specs.Application.{apply_all, applied}
use Rattle.meaning.specs.Documents.{Obj, Doc, find, row_in, Lawful, values, value}

-- The two numbers of an identity have 32 bits.
abbrev pub Sized : ObjId → Type 0
Sized o = (o.0.counter < 2 ^ 32) × (o.0.actor < 2 ^ 32)

-- Identities are told apart and ordered by their ranks.
pub record RankLaw : Type 0 where
  pub ordered : (a b : ObjId) → Sized a → Sized b → compare_ids a.0 b.0 ≡ compare_numbers (rank a) (rank b)
  pub distinct : (a b : ObjId) → Sized a → Sized b → rank a ≡ rank b → a ≡ b

module _ {U : Type 0} (units : List ℕ → List U) where
  -- A function that gives every object of a document a value made of its row and its objects' values.
  abbrev pub TellsValues : Doc → (ℕ → Value U) → Type 0
  TellsValues d f = (i : ℕ) (o : Obj) → find d i ≡ some o → f i ≡ built (map_row (λ (r : Ref). f (ref_rank r)) (row_in units o))

  -- Every lawful document has such values, and no others; and its own is within a value's bounds.
  pub record ValueLaw : Type 0 where
    pub exists : (d : Doc) → Lawful d → TellsValues d (values units (λ _. bare Map) d)
    pub unique : (d : Doc) → Lawful d → (f : ℕ → Value U) → TellsValues d f → f 0 ≡ value units d
    pub bounded : (d : Doc) → Lawful d → fits (value units d) ≡ true

-- A batch is applied up to the first patch that is refused, and that one changes nothing.
pub record BatchLaw {U : Type 0} (f : Patch U → Value U → Answer (Value U)) : Type 0 where
  pub answer : (ps : List (Patch U)) (v : Value U) → (applied f ps v).answer ≡ apply_all f ps v
  pub before : (ps : List (Patch U)) (v : Value U) → apply_all f (take (applied f ps v).count ps) v ≡ Ok (applied f ps v).value
  pub whole : (ps : List (Patch U)) (v w : Value U) → apply_all f ps v ≡ Ok w → ((applied f ps v).count ≡ length ps) × ((applied f ps v).value ≡ w)
  pub stopped : (ps : List (Patch U)) (v : Value U) (r : Refusal) → apply_all f ps v ≡ Err r → (applied f ps v).count < length ps
