-- The table's encoding is the library's, character by character and text by text.
use Rattle.std.specs.Prelude.{◌≡◌, ℕ, zero, suc, ◌+◌, ◌-◌, ◌*◌, ◌≤◌, Bool, true, false, List, [], ◌∷◌, ◌++◌, length, is_ok, IfOk, Ok, Err, IsUtf8 as Utf8, Decides, Result, MatchResult, refl}
use Rattle.std.proofs.Common.{sym, ◌∙◌, ap, subst, arith, lit≤}
use Rattle.std.proofs.Math.Utf8.{scalar, scalars, encode, encodes}
use Rattle.std.specs.Str.{chars, bytes_eq, chars_after, continuation_len, lead_bits}
use Rattle.std.proofs.lemmas.Str.{chars-append, chars_past_char, encodes-chars, scalars-chars, chars_from_encodes}
use Rattle.std.proofs.lemmas.Bool.Decides.{nat_tests}
use Rattle.std.proofs.lemmas.Bool.{and_parts, and_from}
use Rattle.std.proofs.lemmas.Slice.Eq.{bytes_eq-Decides}
use Rattle.text_value.specs.Rfc3629.{octets, all_octets, character, characters, Encodes, IsUtf8, code_points, utf8, OnlyReading}

character_scalar : (c : ℕ) → character c ≡ scalar c
character_scalar c = grind (arith, nat_tests)

octets_encode : (c : ℕ) → c ≤ 0x10FFFF → octets c ≡ encode c
unfolding octets encode
octets_encode c h = grind (arith, nat_tests)

characters_scalars : (cs : List ℕ) → characters cs ≡ scalars cs
characters_scalars [] = refl
characters_scalars (c ∷ cs) = let e = character_scalar c in let f = characters_scalars cs in cc

character_most : (c : ℕ) → character c ≡ true → c ≤ 0x10FFFF
character_most c h = grind (arith, nat_tests)

all_encodes : (cs : List ℕ) → characters cs ≡ true → all_octets cs ≡ encodes cs
all_encodes [] h = refl
all_encodes (c ∷ cs) h =
    let p = and_parts (character c) (characters cs) h in
    let e = octets_encode c (character_most c p.0) in let f = all_encodes cs p.1 in cc

-- The definition and the library's agree.
pub library_utf8 : (bs : List ℕ) → IsUtf8 bs → Utf8 bs
library_utf8 bs (cs, e) = (cs, (sym (characters_scalars cs) ∙ e.valid, sym (all_encodes cs e.valid) ∙ e.bytes))

encodes_by : (cs bs : List ℕ) → scalars cs ≡ true → encodes cs ≡ bs → Encodes cs bs
encodes_by cs bs s e =
    let v : characters cs ≡ true = characters_scalars cs ∙ s in
    record { valid = v; bytes = all_encodes cs v ∙ e }

-- The code points are the library's characters.
pub points_decodes : (bs : List ℕ) → code_points bs ≡ chars bs
unfolding chars
points_decodes [] = refl
points_decodes (b ∷ bs) = refl

-- Of UTF-8, the code points are what it encodes, and nothing else is.
pub points_encode : (bs : List ℕ) → Utf8 bs → Encodes (code_points bs) bs
points_encode bs u =
    subst (λ cs. Encodes cs bs) (sym (points_decodes bs))
    (encodes_by (chars bs) bs (scalars-chars bs u) (encodes-chars bs u))

pub points_only : (bs cs : List ℕ) → Encodes cs bs → cs ≡ code_points bs
points_only bs cs e =
    let u : Utf8 bs = library_utf8 bs (cs, e) in
    chars_from_encodes cs bs u (sym (all_encodes cs e.valid) ∙ e.bytes) ∙ sym (points_decodes bs)

pub rfc_utf8 : (bs : List ℕ) → Utf8 bs → IsUtf8 bs
rfc_utf8 bs u = (code_points bs, points_encode bs u)

-- The test holds exactly of the library's UTF-8.
pub utf8_true : (bs : List ℕ) → Utf8 bs → utf8 bs ≡ true
unfolding utf8
utf8_true bs u =
    let e = points_encode bs u in
    and_from (characters (code_points bs)) (bytes_eq (all_octets (code_points bs)) bs) e.valid
    ((bytes_eq-Decides (all_octets (code_points bs)) bs).1 e.bytes)

pub true_utf8 : (bs : List ℕ) → utf8 bs ≡ true → Utf8 bs
unfolding utf8
true_utf8 bs h =
    let p = and_parts (characters (code_points bs)) (bytes_eq (all_octets (code_points bs)) bs) h in
    let v = p.0 in
    library_utf8 bs (code_points bs, record { valid = v; bytes = (bytes_eq-Decides (all_octets (code_points bs)) bs).0 p.1 })

pub utf8_false : (bs : List ℕ) → (Utf8 bs → ⊥) → utf8 bs ≡ false
utf8_false bs n = go (utf8 bs) refl
  where
    go : (b : Bool) → utf8 bs ≡ b → b ≡ false
    go true e = absurd (n (true_utf8 bs e))
    go false e = refl

-- ..and so exactly of what the table gives.
pub utf8_decides : (bs : List ℕ) → Decides (utf8 bs) (IsUtf8 bs)
utf8_decides bs = (λ h. rfc_utf8 bs (true_utf8 bs h), λ i. utf8_true bs (library_utf8 bs i))

-- What the library's answer says of the test and of the code points.
module _ {X E : Type 0} (bs : List ℕ) (P : X → Type 0) (Q : E → Type 0) where
  pub tested : (r : Result X E) → MatchResult r (λ s. P s × Utf8 bs) (λ e. (Utf8 bs → ⊥) × Q e) → is_ok r ≡ utf8 bs
  tested (Ok s) h = sym (utf8_true bs h.1)
  tested (Err e) h = sym (utf8_false bs h.0)

  pub only_read : (r : Result X E) → MatchResult r (λ s. P s × Utf8 bs) (λ e. (Utf8 bs → ⊥) × Q e) → IfOk r (λ s. P s × OnlyReading bs (code_points bs))
  only_read (Ok s) h = (h.0, (points_encode bs h.1, λ ds e. points_only bs ds e))
  only_read (Err e) h = tt

-- The code points of two texts in a row are those of the one and then those of the other.
pub points_append : (xs ys : List ℕ) → utf8 xs ≡ true → code_points (xs ++ ys) ≡ code_points xs ++ code_points ys
points_append xs ys h =
    let e = chars-append xs ys (true_utf8 xs h) in
    let p = points_decodes (xs ++ ys) in let q = points_decodes xs in let r = points_decodes ys in cc

-- The code points of a text that begins with the character c.
pub points_past_char : (bs rest : List ℕ) (c : ℕ) → Utf8 bs → bs ≡ encode c ++ rest → code_points bs ≡ c ∷ code_points rest
points_past_char bs rest c u e =
    let d = chars_past_char bs rest c u e in let p = points_decodes bs in let q = points_decodes rest in cc

-- Texts with the same code points are the same.
pub points_same : (xs ys : List ℕ) → utf8 xs ≡ true → utf8 ys ≡ true → code_points xs ≡ code_points ys → xs ≡ ys
points_same xs ys h k e =
    sym (points_encode xs (true_utf8 xs h)).bytes ∙ (ap all_octets e ∙ (points_encode ys (true_utf8 ys k)).bytes)

after_fewer : (n c : ℕ) (bs : List ℕ) → length (chars_after n c bs) ≤ 1 + length bs
after_fewer zero c [] = lit≤ tt
after_fewer zero c (b ∷ bs) = omega (arith, after_fewer (continuation_len b) (lead_bits b) bs)
after_fewer (suc n) c [] = omega arith
after_fewer (suc n) c (b ∷ bs) = omega (arith, after_fewer n (c * 64 + (b - 128)) bs)

-- Any bytes have at most as many code points as there are bytes.
pub points_fewer : (bs : List ℕ) → length (code_points bs) ≤ length bs
points_fewer [] = lit≤ tt
points_fewer (b ∷ bs) = omega (arith, after_fewer (continuation_len b) (lead_bits b) bs)
