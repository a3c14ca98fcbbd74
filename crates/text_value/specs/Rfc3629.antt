-- UTF-8 as RFC 3629 defines it. Octets and character numbers are plain numbers.
use Rattle.std.specs.Prelude.{◌≡◌, ℕ, ◌+◌, ◌/◌, ◌%◌, ◌^◌, Bool, true, cond, not, ◌&&◌, List, [], ◌∷◌, ◌++◌, nat_le}
use Rattle.std.specs.Str.{continuation_len, lead_bits, chars_after, bytes_eq}

-- The form of an octet: its fixed bits with every x bit 0, and how many x bits it ends in.
pub data Octet : Type 0 where
  octet : ℕ → ℕ → Octet

-- 10xxxxxx, which every octet after the first has.
abbrev pub more : Octet
more = octet 0x80 6

-- A row of the table: the first and the last character number of its range, and the forms of its octets.
pub data Row : Type 0 where
  row : ℕ → ℕ → List Octet → Row

-- The table: lead octets 0xxxxxxx, 110xxxxx, 1110xxxx and 11110xxx. Each number stands in one range, so its form is the shortest.
abbrev pub table : List Row
table =
    row 0x0 0x7F (octet 0x00 7 ∷ [])
    ∷ row 0x80 0x7FF (octet 0xC0 5 ∷ more ∷ [])
    ∷ row 0x800 0xFFFF (octet 0xE0 4 ∷ more ∷ more ∷ [])
    ∷ row 0x10000 0x10FFFF (octet 0xF0 3 ∷ more ∷ more ∷ more ∷ [])
    ∷ []

-- How many x bits the octets have together.
abbrev pub x_bits : List Octet → ℕ
x_bits [] = 0
x_bits (octet fixed free ∷ os) = free + x_bits os

-- The octets with the bits of c for their x bits, the lowest bit in the last place of the last octet.
abbrev pub filled : List Octet → ℕ → List ℕ
filled [] c = []
filled (octet fixed free ∷ os) c = (fixed + c / 2 ^ x_bits os % 2 ^ free) ∷ filled os c

-- The octets of c by the row in whose range it stands, and none where it stands in no range.
abbrev pub by_row : List Row → ℕ → List ℕ
by_row [] c = []
by_row (row from to form ∷ rows) c = cond (nat_le from c && nat_le c to) (filled form c) (by_row rows c)

-- The octets of one character.
unfoldable pub octets : ℕ → List ℕ
octets c = by_row table c

-- The octets of characters in a row.
abbrev pub all_octets : List ℕ → List ℕ
all_octets [] = []
all_octets (c ∷ cs) = octets c ++ all_octets cs

-- A character number: at most 10FFFF, and none of the surrogates D800 to DFFF.
abbrev pub character : ℕ → Bool
character c = nat_le c 0x10FFFF && not (nat_le 0xD800 c && nat_le c 0xDFFF)

-- Each of the numbers is a character number.
abbrev pub characters : List ℕ → Bool
characters [] = true
characters (c ∷ cs) = character c && characters cs

-- The bytes are the encoding of the characters cs.
pub record Encodes (cs bs : List ℕ) : Type 0 where
  pub valid : characters cs ≡ true
  pub bytes : all_octets cs ≡ bs

-- The bytes are UTF-8: the encoding of some characters.
abbrev pub IsUtf8 : List ℕ → Type 0
IsUtf8 bs = (cs : List ℕ) × Encodes cs bs

-- The code points of a UTF-8 text: the x bits of each lead octet and of those that follow it, put together again.
abbrev pub code_points : List ℕ → List ℕ
code_points [] = []
code_points (b ∷ bs) = chars_after (continuation_len b) (lead_bits b) bs

-- Whether an octet is not of the form 10xxxxxx, which only follows a lead octet.
abbrev pub leads : ℕ → Bool
leads b = not (nat_le 0x80 b && nat_le b 0xBF)

-- UTF-8 as a test: what the bytes read as are characters, and these are written as the same bytes.
unfoldable pub utf8 : List ℕ → Bool
utf8 bs = characters (code_points bs) && bytes_eq (all_octets (code_points bs)) bs

-- cs is the one sequence of characters that the bytes encode.
abbrev pub OnlyReading : List ℕ → List ℕ → Type 0
OnlyReading bs cs = Encodes cs bs × ((ds : List ℕ) → Encodes ds bs → ds ≡ cs)
