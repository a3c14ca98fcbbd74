-- Seeking an object in a row, entry by entry.
use Rattle.std.proofs.Common.{◌≡◌, ℕ, zero, suc, ◌+◌, Bool, true, false, cond, List, [], ◌∷◌, drop, sym, refl, ap, ◌∙◌, add-one, arith}
use mathlib.Core.Option.{Option, none, some}
use Rattle.std.proofs.lemmas.Bool.{cond-true, cond-false}
use Rattle.types.specs.declared.types.OpId.{OpId}
use Rattle.meaning.specs.Entries.{Key, Content, scalar_of, object_of, Entry, Item, placed_as, Ref}
use Rattle.meaning.specs.Patches.{Prop, key, pos}
use Rattle.meaning.specs.Rows.{map_of, list_of, text_of}
use Rattle.meaning.specs.Documents.{DocRow, Obj, placed_pairs, placed_items, seek_l, seek_e, seek_p}
use Rattle.document.specs.Places.{first, nth, unkeyed, pairs, entry_told}
use Rattle.document.specs.Paths.{names_content, names_it, key_at, prop_at, prop_told}
use Rattle.document.proofs.Walks.{drop_next}

-- the search from a place on
abbrev seek_from : ℕ → ℕ → DocRow → Option Prop
seek_from i n (map_of m) = seek_p i (placed_pairs (λ r. r) (drop n m))
seek_from i n (list_of l) = seek_l i n (placed_items (λ r. r) (drop n l))
seek_from i n (text_of t) = none

abbrev pub seek_on : ℕ → ℕ → Option Obj → Option Prop
seek_on i n none = none
seek_on i n (some o) = seek_from i n o.row

one_entry : {X : Type 0} (i : ℕ) (k : Content) (d : OpId) (f : Bool) (x y : X) → seek_e i (placed_as (λ r. r) k d f) x y ≡ cond (names_content i k d) x y
one_entry i (scalar_of s) d f x y = refl
one_entry i (object_of k) d f x y = refl

map_first : (i : ℕ) (m : List (Key × Entry)) (p : Key × Entry) → some p ≡ first m → seek_p i (placed_pairs (λ r. r) m) ≡ cond (names_it i p) (some (key p.0)) (seek_p i (placed_pairs (λ r. r) (drop 1 m)))
map_first i [] p e = let z : ◌≡◌ {A = ℕ} 0 1 = cc in absurd (omega arith)
map_first i (q ∷ m) p e =
    let s : q ≡ p = cc in
    one_entry i q.1.content q.1.ident q.1.flag (some (key q.0)) (seek_p i (placed_pairs (λ r. r) m))
    ∙ ap (λ (t : Key × Entry). cond (names_it i t) (some (key t.0)) (seek_p i (placed_pairs (λ r. r) m))) s

one_cell : (i n : ℕ) (k : Content) (d : OpId) (f : Bool) (xs : List (Item Ref)) → seek_l i n (placed_as (λ r. r) k d f ∷ xs) ≡ cond (names_content i k d) (some (pos n)) (seek_l i (suc n) xs)
one_cell i n (scalar_of s) d f xs = refl
one_cell i n (object_of k) d f xs = refl

list_first : (i n : ℕ) (l : List Entry) (p : Key × Entry) → some p ≡ first (unkeyed l) → seek_l i n (placed_items (λ r. r) l) ≡ cond (names_it i p) (some (pos n)) (seek_l i (suc n) (placed_items (λ r. r) (drop 1 l)))
list_first i n [] p e = let z : ◌≡◌ {A = ℕ} 0 1 = cc in absurd (omega arith)
list_first i n (q ∷ l) p e =
    let s : ◌≡◌ {A = Key × Entry} ([], q) p = cc in
    one_cell i n q.content q.ident q.flag (placed_items (λ r. r) l)
    ∙ ap (λ (t : Key × Entry). cond (names_it i t) (some (pos n)) (seek_l i (suc n) (placed_items (λ r. r) l))) s

unkeyed_drop : (l : List Entry) (n : ℕ) → unkeyed (drop n l) ≡ drop n (unkeyed l)
unkeyed_drop [] zero = refl
unkeyed_drop [] (suc n) = refl
unkeyed_drop (e ∷ l) zero = refl
unkeyed_drop (e ∷ l) (suc n) = unkeyed_drop l n

-- one place and the rest
row_step : (i n : ℕ) (w : DocRow) (p : Key × Entry) → some p ≡ nth (pairs w) n → seek_from i n w ≡ cond (names_it i p) (some (prop_at w n)) (seek_from i (n + 1) w)
row_step i n (map_of m) p e =
    map_first i (drop n m) p e
    ∙ (ap (λ t. cond (names_it i p) (some (key_at n t)) (seek_p i (placed_pairs (λ r. r) (drop 1 (drop n m))))) e
    ∙ ap (λ t. cond (names_it i p) (some (key_at n (nth m n))) (seek_p i (placed_pairs (λ r. r) t))) (sym (drop_next m n)))
row_step i n (list_of l) p e =
    list_first i n (drop n l) p (e ∙ ap first (sym (unkeyed_drop l n)))
    ∙ (ap (λ t. cond (names_it i p) (some (pos n)) (seek_l i (suc n) (placed_items (λ r. r) t))) (sym (drop_next l n))
    ∙ ap (λ k. cond (names_it i p) (some (pos n)) (seek_l i k (placed_items (λ r. r) (drop (n + 1) l)))) (sym (add-one n)))
row_step i n (text_of t) p e = let q = nothing n in let z : ◌≡◌ {A = ℕ} 0 1 = cc in absurd (omega arith)
  where
    nothing : (n : ℕ) → nth {X = Key × Entry} [] n ≡ none
    nothing zero = refl
    nothing (suc n) = refl

map_none : (i : ℕ) (m : List (Key × Entry)) → none ≡ first m → seek_p i (placed_pairs (λ r. r) m) ≡ none
map_none i [] e = refl
map_none i (q ∷ m) e = let z : ◌≡◌ {A = ℕ} 0 1 = cc in absurd (omega arith)

list_none : (i n : ℕ) (l : List Entry) → none ≡ first (unkeyed l) → seek_l i n (placed_items (λ r. r) l) ≡ none
list_none i n [] e = refl
list_none i n (q ∷ l) e = let z : ◌≡◌ {A = ℕ} 0 1 = cc in absurd (omega arith)

row_ends : (i n : ℕ) (w : DocRow) → none ≡ nth (pairs w) n → seek_from i n w ≡ none
row_ends i n (map_of m) e = map_none i (drop n m) e
row_ends i n (list_of l) e = list_none i n (drop n l) (e ∙ ap first (sym (unkeyed_drop l n)))
row_ends i n (text_of t) e = refl

pub seek_ends : (i n : ℕ) (x : Option Obj) → none ≡ entry_told x n → seek_on i n x ≡ none
seek_ends i n none e = refl
seek_ends i n (some o) e = row_ends i n o.row e

step : (i n : ℕ) (x : Option Obj) (p : Key × Entry) → some p ≡ entry_told x n → seek_on i n x ≡ cond (names_it i p) (some (prop_told x n)) (seek_on i (n + 1) x)
step i n none p e = let z : ◌≡◌ {A = ℕ} 0 1 = cc in absurd (omega arith)
step i n (some o) p e = row_step i n o.row p e

pub seek_hit : (i n : ℕ) (x : Option Obj) (p : Key × Entry) → some p ≡ entry_told x n → names_it i p ≡ true → seek_on i n x ≡ some (prop_told x n)
seek_hit i n x p e h = step i n x p e ∙ cond-true (names_it i p) (some (prop_told x n)) (seek_on i (n + 1) x) h

pub seek_on_lem : (i n : ℕ) (x : Option Obj) (p : Key × Entry) → some p ≡ entry_told x n → names_it i p ≡ false → seek_on i n x ≡ seek_on i (n + 1) x
seek_on_lem i n x p e h = step i n x p e ∙ cond-false (names_it i p) (some (prop_told x n)) (seek_on i (n + 1) x) h
