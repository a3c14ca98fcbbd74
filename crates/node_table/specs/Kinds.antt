-- The kinds of content.
use Rattle.std.specs.Prelude.{Bool, true, false, ℤ, ◌+ℤ◌, Err}
use Rattle.types.specs.declared.error.Refusal.TheVariants.{BadIncrement, CounterOverflow}
use Rattle.meaning.specs.Results.{Answer, provided}
use Rattle.meaning.specs.Rows.{in64}
use Rattle.node_chains.specs.declared.node.Content.{Content}
use Rattle.node_chains.specs.declared.node.Content.TheVariants.{Map, List as Sequence, Text, Counter, Str, Bytes}

-- Only maps and lists have children.
abbrev pub branches : Content → Bool
branches Map = true
branches Sequence = true
branches _ = false

-- Only texts have units.
abbrev pub is_text : Content → Bool
is_text Text = true
is_text _ = false

-- A counter with n added; what is no counter stays.
abbrev pub raised_content : ℤ → Content → Content
raised_content n (Counter x) = Counter (x +ℤ n)
raised_content n c = c

-- Whether n can be added: only to a counter, which stays within 64 bits.
abbrev pub raising : ℤ → Content → Answer (Unit {0})
raising n (Counter x) = provided (in64 (x +ℤ n)) CounterOverflow tt
raising n _ = Err BadIncrement

-- Lists, whose children have no keys.
abbrev pub is_list : Content → Bool
is_list Sequence = true
is_list _ = false

-- Only strings and byte strings have bytes in a slot.
abbrev pub has_string : Content → Bool
has_string Str = true
has_string Bytes = true
has_string _ = false
