-- The joining law: joining changes no outcome.
use Rattle.std.specs.Prelude.{◌≡◌, ℕ, Bool, true, false, List, [], ◌∷◌, Ok}
use Rattle.types.specs.declared.types.ObjId.{ObjId}
use Rattle.meaning.specs.Results.{Answer}
use Rattle.meaning.specs.Patches.{props, Action, put_map, put_seq, insert, splice_text, increment, conflict, delete_map, delete_seq, Patch}
use Rattle.meaning.specs.Values.{Value, text_v}
use Rattle.meaning.specs.Application.{apply, apply_in, apply_all, a_value, read}
use Rattle.meaning.specs.Documents.{Doc}
use Rattle.meaning.specs.Calls.{Call}
use Rattle.meaning.specs.Builder.{Setting, Input, all_one, start, joined, run, own_patches, over_doc}

module _ {U : Type 0} where
  -- An insert places values of one unit each; other actions are free.
  abbrev pub OneWide : (List ℕ → List U) → Action U → Type 0
  OneWide units (put_map k e) = Unit {0}
  OneWide units (put_seq i e) = Unit {0}
  OneWide units (insert i es) = all_one units es ≡ true
  OneWide units (splice_text i us) = Unit {0}
  OneWide units (increment p n) = Unit {0}
  OneWide units (conflict p) = Unit {0}
  OneWide units (delete_map k) = Unit {0}
  OneWide units (delete_seq i n) = Unit {0}

  -- If a patch finds a text at its path, and its object is no text of the document, it is one unit wide.
  abbrev pub NarrowAt : Setting U → Patch U → Value U → Type 0
  NarrowAt S p v = S.text p.obj ≡ false → (us : List U) → read (props p.path) v ≡ Ok (a_value (text_v us)) → OneWide S.units p.action

  -- So do all patches of a list, each on the value that those before it leave.
  abbrev pub Narrow : Setting U → (Patch U → Value U → Answer (Value U)) → List (Patch U) → Value U → Type 0
  Narrow S f [] v = Unit {0}
  Narrow S f (p ∷ ps) v = NarrowAt S p v × ((w : Value U) → f p v ≡ Ok w → Narrow S f ps w)

  -- Where the own patches of the accepted calls succeed in turn, the joined patches succeed and end in the same value; f applies one patch.
  abbrev pub ChangesNothing : Setting U → (Patch U → Value U → Answer (Value U)) → Type 0
  ChangesNothing S f =
      (xs : List Input) (v w : Value U) →
      Narrow S f (own_patches S xs start) v →
      apply_all f (own_patches S xs start) v ≡ Ok w →
      apply_all f (joined (run S xs start)) v ≡ Ok w

-- Joining changes no outcome: over every document, whichever calls are refused, whether values are bounded or not.
pub record JoiningLaw {U : Type 0} (units : List ℕ → List U) : Type 0 where
  pub unbounded : (d : Doc) (refuses : List (Patch U) → ObjId → Call → Bool) → ChangesNothing (over_doc units d refuses) (apply units)
  pub bounded : (d : Doc) (refuses : List (Patch U) → ObjId → Call → Bool) (bound : Value U → Bool) → ChangesNothing (over_doc units d refuses) (apply_in units bound)
