-- Numbers added to counters.
use Rattle.std.proofs.Common.{◌≡◌, ◌^◌, true, ℤ, pos, negsuc, ◌+ℤ◌, Ok, sym, refl, ap, ◌∙◌, arith, w64, SFits}
use Rattle.std.proofs.lemmas.Bool.{lt-ltb}
use Rattle.meaning.specs.Results.{provided}
use Rattle.meaning.specs.Rows.{in64}
use Rattle.types.specs.declared.error.Refusal.TheVariants.{CounterOverflow}
use Rattle.node_table.specs.Kinds.{branches, is_text, raising, raised_content}
use Rattle.node_chains.specs.declared.node.Content.{Content}
use Rattle.node_chains.specs.declared.node.Content.TheVariants.{Map, List as Sequence, Text, Null, Boolean, Int, Uint, Timestamp, Counter, Str, Bytes}

pub fits_in64 : (z : ℤ) → SFits w64 z → in64 z ≡ true
fits_in64 (pos n) h = lt-ltb n (2 ^ 63) (omega arith)
fits_in64 (negsuc n) h = lt-ltb n (2 ^ 63) (omega arith)

pub raising_ok : (c : Content) (x n : ℤ) → c ≡ Counter x → SFits w64 (x +ℤ n) → Ok tt ≡ raising n c
raising_ok c x n e h = sym (ap (raising n) e ∙ ap (λ b. provided b CounterOverflow tt) (fits_in64 (x +ℤ n) h))

pub raises : (c : Content) (x n z : ℤ) → c ≡ Counter x → z ≡ x +ℤ n → Counter z ≡ raised_content n c
raises c x n z e h = ap Counter h ∙ sym (ap (raised_content n) e)

-- the content stays of its sort
pub branches_raised : (n : ℤ) (c : Content) → branches (raised_content n c) ≡ branches c
branches_raised n Map = refl
branches_raised n Sequence = refl
branches_raised n Text = refl
branches_raised n Null = refl
branches_raised n (Boolean b) = refl
branches_raised n (Int x) = refl
branches_raised n (Uint x) = refl
branches_raised n (Timestamp x) = refl
branches_raised n (Counter x) = refl
branches_raised n Str = refl
branches_raised n Bytes = refl

pub text_raised : (n : ℤ) (c : Content) → is_text (raised_content n c) ≡ is_text c
text_raised n Map = refl
text_raised n Sequence = refl
text_raised n Text = refl
text_raised n Null = refl
text_raised n (Boolean b) = refl
text_raised n (Int x) = refl
text_raised n (Uint x) = refl
text_raised n (Timestamp x) = refl
text_raised n (Counter x) = refl
text_raised n Str = refl
text_raised n Bytes = refl
