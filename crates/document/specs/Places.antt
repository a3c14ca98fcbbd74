-- What a document tells: by place, `nth d i`, or by identity, `find d (rank o)`, always of an object or of none.
use Rattle.std.specs.Prelude.{ℕ, List, [], ◌∷◌, length, drop, Some, None, Option as Answer}
use Rattle.std.proofs.Math.Option.{Option, none, some}
use Rattle.meaning.specs.Lists.{Every}
use Rattle.meaning.specs.Entries.{Key, Entry}
use Rattle.meaning.specs.Rows.{map_of, list_of, text_of}
use Rattle.meaning.specs.Documents.{DocRow, Obj, Doc, FitsKind}
use Rattle.document.specs.declared.view.Head.{Head}

abbrev pub first : {X : Type 0} → List X → Option X
first [] = none
first (x ∷ xs) = some x

-- The element at a place; none past the last.
abbrev pub nth : {X : Type 0} → List X → ℕ → Option X
nth xs i = first (drop i xs)

-- A row's entries, each with its key; in a list the key is empty, and a text has none.
abbrev pub unkeyed : List Entry → List (Key × Entry)
unkeyed [] = []
unkeyed (e ∷ es) = ([], e) ∷ unkeyed es

abbrev pub pairs : DocRow → List (Key × Entry)
pairs (map_of m) = m
pairs (list_of l) = unkeyed l
pairs (text_of t) = []

-- How many entries a row has, or how many bytes a text.
abbrev pub size_of : DocRow → ℕ
size_of (map_of m) = length m
size_of (list_of l) = length l
size_of (text_of t) = length t

abbrev pub text_of? : DocRow → Option (List ℕ)
text_of? (map_of m) = none
text_of? (list_of l) = none
text_of? (text_of t) = some t

abbrev pub head_of : Obj → Head
head_of o = record { id = o.ident; parent = o.parent; kind = o.kind }

abbrev pub head_told : Option Obj → Answer Head
head_told none = None
head_told (some o) = Some (head_of o)

abbrev pub size_told : Option Obj → ℕ
size_told none = 0
size_told (some o) = size_of o.row

abbrev pub entry_told : Option Obj → ℕ → Option (Key × Entry)
entry_told none n = none
entry_told (some o) n = nth (pairs o.row) n

abbrev pub text_told : Option Obj → Option (List ℕ)
text_told none = none
text_told (some o) = text_of? o.row

abbrev pub ShapedObj : Obj → Type 0
ShapedObj o = FitsKind o.kind o.row

-- A plain document, before any law but that each row has the shape of its object's kind.
pub record Shaped : Type 0 where
  pub doc : Doc
  pub shapes : Every ShapedObj doc
