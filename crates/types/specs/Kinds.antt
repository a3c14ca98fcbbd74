use Rattle.std.specs.Prelude.{ℕ, Bool, true, false, List as Row, [], ◌∷◌}
use Rattle.types.specs.declared.types.ObjType.{ObjType}
use Rattle.types.specs.declared.types.ObjType.TheVariants.{Map, Table, List, Text}

-- Lists and texts have positions; maps and tables have keys.
abbrev pub is_sequence : ObjType → Bool
is_sequence Map = false
is_sequence Table = false
is_sequence List = true
is_sequence Text = true

-- The name that a kind has on the screen, as the bytes of its letters: map, table, list, text.
abbrev pub kind_name : ObjType → Row ℕ
kind_name Map = 109 ∷ 97 ∷ 112 ∷ []
kind_name Table = 116 ∷ 97 ∷ 98 ∷ 108 ∷ 101 ∷ []
kind_name List = 108 ∷ 105 ∷ 115 ∷ 116 ∷ []
kind_name Text = 116 ∷ 101 ∷ 120 ∷ 116 ∷ []
