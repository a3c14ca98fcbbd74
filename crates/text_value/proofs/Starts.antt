-- A text has as many code points as bytes that lead one.
use Rattle.std.proofs.Common.{◌≡◌, ℕ, List, [], ◌∷◌, length, cond, count_by, IsUtf8, sym, refl, ap, ◌∙◌, arith}
use lib.Utf8.{encode, encodes}
use Rattle.std.proofs.lemmas.Bool.Decides.{nat_tests}
use Rattle.std.proofs.lemmas.List.Sums.{sum_by-append}
use Rattle.text_value.specs.Rfc3629.{code_points, leads}
use Rattle.text_value.specs.Rfc.{points_decodes}
use Rattle.std.specs.Str.{chars}
use Rattle.std.proofs.lemmas.Str.{encodes-chars}

leads_encode : (c : ℕ) → count_by leads (encode c) ≡ 1
unfolding encode
leads_encode c = grind (arith, nat_tests)

leads_encodes : (cs : List ℕ) → count_by leads (encodes cs) ≡ length cs
leads_encodes [] = refl
leads_encodes (c ∷ cs) = omega (arith, sum_by-append (λ x. cond (leads x) 1 0) (encode c) (encodes cs), leads_encode c, leads_encodes cs)

pub leads_points : (bs : List ℕ) → IsUtf8 bs → count_by leads bs ≡ length (code_points bs)
leads_points bs u =
    sym (ap (count_by leads) (encodes-chars bs u)) ∙ (leads_encodes (chars bs) ∙ ap length (sym (points_decodes bs)))
