-- Reading patches one after the other.
use Rattle.std.specs.Prelude.{◌≡◌, List, [], ◌∷◌, drop, Some, None, Option}
use Rattle.sequence_tree.specs.Sequences.{held}
use Rattle.patch.specs.declared.view.PatchView.{PatchView}
use Rattle.patch.specs.declared.view.Cursor.{Cursor}
use Rattle.patch.specs.declared.memory.PatchMemory.{PatchMemory}
use Rattle.meaning.specs.Patches.{Patch}
use Rattle.patch.specs.Told.{Parts, patch_told, told_forward}

module _ {U : Type 0} where
  -- The patch that is lent.
  abbrev pub patch_seen : PatchView U → Patch U
  patch_seen v = patch_told v.row (record { steps = v.steps.now; values = v.values.now; units = v.units.now; bytes = v.bytes.now })

  -- What the patches from a place on are made of.
  abbrev pub parts_at : PatchMemory U → Cursor → Parts U
  parts_at m k = record { steps = drop k.step (held m.steps); values = drop k.value (held m.values); units = drop k.unit (held m.units); bytes = drop k.byte (held m.bytes) }

  -- The patches from a place on, oldest first.
  abbrev pub rest_at : PatchMemory U → Cursor → List (Patch U)
  rest_at m k = told_forward (drop k.row (held m.rows)) (parts_at m k)

  -- One more is read: none where none is left, else the first of them, and the place of the others.
  abbrev pub Walked : PatchMemory U → Cursor → Option (PatchView U × Cursor) → Type 0
  Walked m k None = rest_at m k ≡ []
  Walked m k (Some x) = rest_at m k ≡ patch_seen x.0 ∷ rest_at m x.1
