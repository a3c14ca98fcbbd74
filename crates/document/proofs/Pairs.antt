-- Entries of the object at a place, and how its kind tells the shape of its row.
use Rattle.std.proofs.Common.{◌≡◌, ℕ, zero, suc, ◌≤◌, ◌||◌, List, [], ◌∷◌, length, drop, Some, None, Option as Answer, sym, refl, ap, ◌∙◌, arith}
use mathlib.Core.Option.{Option, none, some}
use Rattle.meaning.specs.Entries.{Entry}
use Rattle.meaning.specs.Rows.{map_of, list_of, text_of}
use Rattle.meaning.specs.Lists.{Every}
use Rattle.types.specs.declared.types.ObjType.{ObjType}
use Rattle.types.specs.declared.types.ObjType.TheVariants.{Map, Table, List as Sequence, Text}
use Rattle.types.specs.Kinds.{is_sequence}
use Rattle.meaning.specs.Documents.{DocRow, Obj, FitsKind}
use Rattle.document.specs.declared.view.Head.{Head}
use Rattle.document.specs.Places.{ShapedObj, first, nth, unkeyed, pairs, size_of, head_of, head_told, size_told, entry_told}
use Rattle.document.specs.Laws.{chained, key_before, keys_ok}
use Rattle.document.specs.Steps.{pairs_told, keys_told}

drop_none : {X : Type 0} (n : ℕ) → drop {A = X} n [] ≡ []
drop_none zero = refl
drop_none (suc n) = refl

pub entry_is : (x : Option Obj) (n : ℕ) → entry_told x n ≡ nth (pairs_told x) n
entry_is none n = sym (ap first (drop_none n))
entry_is (some o) n = refl

unkeyed_length : (l : List Entry) → length (unkeyed l) ≡ length l
unkeyed_length [] = refl
unkeyed_length (e ∷ l) = ap suc (unkeyed_length l)

row_size : (w : DocRow) → length (pairs w) ≤ size_of w
row_size (map_of m) = omega arith
row_size (list_of l) = omega (arith, unkeyed_length l)
row_size (text_of t) = omega arith

pub pairs_size : (x : Option Obj) → length (pairs_told x) ≤ size_told x
pairs_size none = omega arith
pairs_size (some o) = row_size o.row

-- what holds of every element holds at a place
abbrev pub At : {X : Type 0} → (X → Type 0) → Option X → Type 0
At P none = Unit {0}
At P (some x) = P x

pub every_at : {X : Type 0} (P : X → Type 0) (xs : List X) (i : ℕ) → Every P xs → At P (nth xs i)
every_at P [] zero h = tt
every_at P [] (suc i) h = tt
every_at P (x ∷ xs) zero h = h.0
every_at P (x ∷ xs) (suc i) h = every_at P xs i h.1

pub head_some : (o : Obj) (h : Head) → Some h ≡ head_told (some o) → h ≡ head_of o
head_some o h e = let q : ◌≡◌ {A = Answer Head} (Some h) (Some (head_of o)) = e in cc

pub head_none : (h : Head) → Some h ≡ head_told none → ⊥
head_none h e = let q : ◌≡◌ {A = Answer Head} (Some h) None = e in let z : ◌≡◌ {A = ℕ} 0 1 = cc in omega arith

-- an object's kind says whether its keys have to rise
kind_keys : (k : ObjType) (w : DocRow) → FitsKind k w → keys_ok w ≡ (is_sequence k || chained key_before (pairs w))
kind_keys Map (map_of m) f = refl
kind_keys Map (list_of l) f = absurd f
kind_keys Map (text_of t) f = absurd f
kind_keys Table (map_of m) f = refl
kind_keys Table (list_of l) f = absurd f
kind_keys Table (text_of t) f = absurd f
kind_keys Sequence (map_of m) f = absurd f
kind_keys Sequence (list_of l) f = refl
kind_keys Sequence (text_of t) f = absurd f
kind_keys Text (map_of m) f = absurd f
kind_keys Text (list_of l) f = absurd f
kind_keys Text (text_of t) f = refl

pub keys_told_lem : (x : Option Obj) (h : Head) → At ShapedObj x → Some h ≡ head_told x → keys_told x ≡ (is_sequence h.kind || chained key_before (pairs_told x))
keys_told_lem none h f e = absurd (head_none h e)
keys_told_lem (some o) h f e =
    kind_keys o.kind o.row f ∙ ap (λ (q : Head). is_sequence q.kind || chained key_before (pairs o.row)) (sym (head_some o h e))
