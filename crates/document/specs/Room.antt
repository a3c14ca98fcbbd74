-- Room that counts take up.
use Rattle.std.specs.Prelude.{ℕ, ◌+◌, ◌-◌, Bool, cond, ◌&&◌, length, Some, None, Option as Answer, nat_le}
use Rattle.std.proofs.Math.Option.{Option, none, some}
use Rattle.meaning.specs.Entries.{Key, content_bytes, Entry}
use Rattle.meaning.specs.Values.{Counts, no_counts}
use Rattle.meaning.specs.Documents.{Obj, row_counts}
use Rattle.document.specs.declared.room.Room.{Room}

-- What is left of a number that has to suffice.
abbrev pub left : ℕ → ℕ → Answer ℕ
left room n = cond (nat_le n room) (Some (room - n)) None

-- The bytes of an entry at a place.
abbrev pub pair_bytes : Option (Key × Entry) → ℕ
pair_bytes none = 0
pair_bytes (some p) = length p.0 + content_bytes p.1.content

-- What the object at a place counts for.
abbrev pub counts_told : Option Obj → Counts
counts_told none = no_counts
counts_told (some o) = row_counts o.row

abbrev pub suffices : Counts → Room → Bool
suffices c room = nat_le c.entry_count room.entries && (nat_le c.unit_count room.units && nat_le c.byte_count room.bytes)

-- Room after counts were taken up, if they have it.
abbrev pub taken_up : Room → Counts → Answer Room
taken_up room c =
    cond (suffices c room) (Some (record { entries = room.entries - c.entry_count; units = room.units - c.unit_count; bytes = room.bytes - c.byte_count })) None
