-- What a receipt says.
use Rattle.patch.specs.declared.batch.Batch.{Batch}
use Rattle.meaning.specs.Builder.{Load}

-- The counts that a receipt tells.
abbrev pub load_told : Batch → Load
load_told b = record { patch_count = b.patches; value_count = b.values; text_units = b.units; byte_count = b.bytes }
