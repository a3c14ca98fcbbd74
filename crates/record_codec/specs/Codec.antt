-- Reading from the front of a list of bytes, and writing: numbers, texts, many in a row.
use Rattle.std.specs.Prelude.{ℕ, zero, suc, ◌+◌, ◌*◌, ◌/◌, ◌%◌, ◌<◌, cond, List, [], ◌∷◌, ◌++◌, length, take, drop, Some, None, Option, nat_le}
use Rattle.meaning.specs.Lists.{Every}

-- What a reader gives: the value and the bytes after it, or nothing.
abbrev pub Got : Type 0 → Type 0
Got A = Option (A × List ℕ)

-- One reader after another; where one gives nothing, so do both.
abbrev pub next : {A B : Type 0} → Got A → (A → List ℕ → Got B) → Got B
next None f = None
next (Some x) f = f x.0 x.1

-- A value for which there may be none, the bytes left as they are.
abbrev pub decide : {A B : Type 0} → Option A → (A → Got B) → Got B
decide None f = None
decide (Some x) f = f x

-- Every number is a byte.
abbrev pub Bytes : List ℕ → Type 0
Bytes = Every (λ b. b < 256)

-- A number of 4 bytes, highest first.
abbrev pub get32 : List ℕ → Got ℕ
get32 [] = None
get32 (a ∷ []) = None
get32 (a ∷ (b ∷ [])) = None
get32 (a ∷ (b ∷ (c ∷ []))) = None
get32 (a ∷ (b ∷ (c ∷ (d ∷ r)))) = Some (a * 16777216 + b * 65536 + c * 256 + d, r)

abbrev pub put32 : ℕ → List ℕ
put32 n = n / 16777216 ∷ (n / 65536 % 256 ∷ (n / 256 % 256 ∷ (n % 256 ∷ [])))

-- A number of 8 bytes, highest first.
abbrev pub get64 : List ℕ → Got ℕ
get64 bs = next (get32 bs) (λ h r. next (get32 r) (λ l s. Some (h * 4294967296 + l, s)))

abbrev pub put64 : ℕ → List ℕ
put64 n = put32 (n / 4294967296) ++ put32 (n % 4294967296)

-- That many bytes as they stand.
abbrev pub get_bytes : ℕ → List ℕ → Got (List ℕ)
get_bytes n bs = cond (nat_le n (length bs)) (Some (take n bs, drop n bs)) None

-- A length and that many bytes.
abbrev pub get_text : List ℕ → Got (List ℕ)
get_text bs = next (get32 bs) (λ n r. get_bytes n r)

abbrev pub put_text : List ℕ → List ℕ
put_text t = put32 (length t) ++ t

-- That many in a row.
abbrev pub get_many : {A : Type 0} → (List ℕ → Got A) → ℕ → List ℕ → Got (List A)
get_many g zero bs = Some ([], bs)
get_many g (suc n) bs = next (g bs) (λ a r. next (get_many g n r) (λ more s. Some (a ∷ more, s)))

abbrev pub put_many : {A : Type 0} → (A → List ℕ) → List A → List ℕ
put_many p [] = []
put_many p (a ∷ more) = p a ++ put_many p more

-- A count and that many in a row.
abbrev pub get_list : {A : Type 0} → (List ℕ → Got A) → List ℕ → Got (List A)
get_list g bs = next (get32 bs) (λ n r. get_many g n r)

abbrev pub put_list : {A : Type 0} → (A → List ℕ) → List A → List ℕ
put_list p xs = put32 (length xs) ++ put_many p xs
