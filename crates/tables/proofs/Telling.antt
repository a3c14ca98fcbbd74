-- What tables tell at a place.
use Rattle.std.proofs.Common.{◌≡◌, ℕ, zero, suc, ◌+◌, ◌<◌, ◌≤◌, Bool, true, false, ◌&&◌, Some, None, List, [], ◌∷◌, length, get_or, sym, refl, ap, ◌∙◌, subst, arith, length-drop, length-take, get_or-drop, get_or-take}
use mathlib.Core.Option.{none, some}
use Rattle.std.specs.List.{list_all}
use Rattle.std.proofs.lemmas.Bool.{and_parts, leb-true, le-leb}
use Rattle.types.specs.Identities.{root_id}
use Rattle.types.specs.declared.types.ObjType.{ObjType}
use Rattle.types.specs.declared.types.ObjType.TheVariants.{Map, Table, List as Sequence, Text}
use Rattle.meaning.specs.Entries.{Key, Entry}
use Rattle.document.specs.Places.{nth, unkeyed, pairs, size_of, text_of?, head_told, size_told, entry_told, text_told}
use Rattle.document.specs.Laws.{every}
use Rattle.document.proofs.Walks.{nth_past}
use Rattle.tables.specs.declared.table.Window.{Window}
use Rattle.tables.specs.declared.table.ObjectRow.{ObjectRow}
use Rattle.tables.specs.declared.table.EntryRow.{EntryRow}
use Rattle.types.specs.declared.value.ScalarOf.TheVariants.{Null}
use Rattle.types.specs.declared.value.ValueOf.TheVariants.{Scalar}
use Rattle.tables.specs.Tables.{part, entries_of, pairs_of, row_of, obj_of, doc_of, lies, room_of, object_lies, entry_lies, inside}
use Rattle.tables.specs.Told.{seen_of}

abbrev pub no_row : ObjectRow
no_row = record { id = root_id; parent = root_id; kind = Map; row = record { from = 0; len = 0 } }

abbrev pub no_entry : EntryRow
no_entry = record { key = record { from = 0; len = 0 }; cell = Scalar Null; id = record { counter = 0; actor = 0 }; conflict = false }

-- what `get` says of the item that it lends
abbrev pub Stands : {X : Type 0} → List X → ℕ → X → Type 0
Stands {X} xs i x = (i < length xs) × ((d : X) → x ≡ get_or xs i d)

-- windows
part_length : {X : Type 0} (w : Window) (xs : List X) → w.from + w.len ≤ length xs → length (part w xs) ≡ w.len
part_length w xs h = simp (length-take, length-drop) (omega arith)

part_at : {X : Type 0} (w : Window) (xs : List X) (n : ℕ) (d : X) → n < w.len → get_or (part w xs) n d ≡ get_or xs (w.from + n) d
part_at w xs n d h = simp (get_or-take, get_or-drop)

-- every test holds at a place
all_at : {X : Type 0} (p : X → Bool) (xs : List X) (i : ℕ) (d : X) → every p xs ≡ true → i < length xs → p (get_or xs i d) ≡ true
all_at p [] i d h l = absurd (omega arith)
all_at p (x ∷ xs) zero d h l = (and_parts (p x) (every p xs) h).0
all_at p (x ∷ xs) (suc i) d h l = all_at p xs i d (and_parts (p x) (every p xs) h).1 (omega arith)

module _ (os : List ObjectRow) (es : List EntryRow) (bs : List ℕ) (ok : inside os es bs ≡ true) where
  both : (every (object_lies (length es) (length bs)) os ≡ true) × (every (entry_lies (length bs)) es ≡ true)
  both = and_parts (every (object_lies (length es) (length bs)) os) (every (entry_lies (length bs)) es) ok

  pub object_lies_lem : (i : ℕ) → i < length os → object_lies (length es) (length bs) (get_or os i no_row) ≡ true
  object_lies_lem i l = all_at (object_lies (length es) (length bs)) os i no_row both.0 l

  pub entry_lies_lem : (i : ℕ) → i < length es → entry_lies (length bs) (get_or es i no_entry) ≡ true
  entry_lies_lem i l = all_at (entry_lies (length bs)) es i no_entry both.1 l

  pub object_inside : (i : ℕ) (o : ObjectRow) → Stands os i o → object_lies (length es) (length bs) o ≡ true
  object_inside i o h = subst (λ o. object_lies (length es) (length bs) o ≡ true) (sym (h.1 no_row)) (object_lies_lem i h.0)

  pub entry_inside : (w : Window) (n : ℕ) (e : EntryRow) → w.from + w.len ≤ length es → Stands (part w es) n e → entry_lies (length bs) e ≡ true
  entry_inside w n e f h =
      let l : n < w.len = omega (arith, h.0, part_length w es f) in
      subst (λ e. entry_lies (length bs) e ≡ true) (sym (h.1 no_entry ∙ part_at w es n no_entry l)) (entry_lies_lem (w.from + n) (omega arith))

-- objects
pub docs_length : (os : List ObjectRow) (es : List EntryRow) (bs : List ℕ) → length (doc_of os es bs) ≡ length os
docs_length [] es bs = refl
docs_length (o ∷ os) es bs = ap suc (docs_length os es bs)

docs_at : (os : List ObjectRow) (es : List EntryRow) (bs : List ℕ) (i : ℕ) → i < length os → nth (doc_of os es bs) i ≡ some (obj_of es bs (get_or os i no_row))
docs_at [] es bs i l = absurd (omega arith)
docs_at (o ∷ os) es bs zero l = refl
docs_at (o ∷ os) es bs (suc i) l = docs_at os es bs i (omega arith)

pub docs_here : (os : List ObjectRow) (es : List EntryRow) (bs : List ℕ) (i : ℕ) (o : ObjectRow) → Stands os i o → nth (doc_of os es bs) i ≡ some (obj_of es bs o)
docs_here os es bs i o h = docs_at os es bs i h.0 ∙ ap (λ o. some (obj_of es bs o)) (sym (h.1 no_row))

pub docs_past : (os : List ObjectRow) (es : List EntryRow) (bs : List ℕ) (i : ℕ) → length os ≤ i → nth (doc_of os es bs) i ≡ none
docs_past os es bs i l = nth_past (doc_of os es bs) i (omega (arith, docs_length os es bs))

-- entries
abbrev seen_all : ObjType → List ℕ → List EntryRow → List (Key × Entry)
seen_all k bs [] = []
seen_all k bs (e ∷ es) = seen_of k bs e ∷ seen_all k bs es

seen_length : (k : ObjType) (bs : List ℕ) (es : List EntryRow) → length (seen_all k bs es) ≡ length es
seen_length k bs [] = refl
seen_length k bs (e ∷ es) = ap suc (seen_length k bs es)

seen_at : (k : ObjType) (bs : List ℕ) (es : List EntryRow) (n : ℕ) → n < length es → nth (seen_all k bs es) n ≡ some (seen_of k bs (get_or es n no_entry))
seen_at k bs [] n l = absurd (omega arith)
seen_at k bs (e ∷ es) zero l = refl
seen_at k bs (e ∷ es) (suc n) l = seen_at k bs es n (omega arith)

maps_seen : (bs : List ℕ) (es : List EntryRow) → pairs_of bs es ≡ seen_all Map bs es
maps_seen bs [] = refl
maps_seen bs (e ∷ es) = ap (λ ps. seen_of Map bs e ∷ ps) (maps_seen bs es)

tables_seen : (bs : List ℕ) (es : List EntryRow) → pairs_of bs es ≡ seen_all Table bs es
tables_seen bs [] = refl
tables_seen bs (e ∷ es) = ap (λ ps. seen_of Table bs e ∷ ps) (tables_seen bs es)

lists_seen : (bs : List ℕ) (es : List EntryRow) → unkeyed (entries_of bs es) ≡ seen_all Sequence bs es
lists_seen bs [] = refl
lists_seen bs (e ∷ es) = ap (λ ps. seen_of Sequence bs e ∷ ps) (lists_seen bs es)

row_seen : (k : ObjType) (w : Window) (es : List EntryRow) (bs : List ℕ) → (k ≡ Text → ⊥) → pairs (row_of k w es bs) ≡ seen_all k bs (part w es)
row_seen Map w es bs h = maps_seen bs (part w es)
row_seen Table w es bs h = tables_seen bs (part w es)
row_seen Sequence w es bs h = lists_seen bs (part w es)
row_seen Text w es bs h = absurd (h refl)

room_entries : (k : ObjType) (m n : ℕ) → (k ≡ Text → ⊥) → room_of k m n ≡ m
room_entries Map m n h = refl
room_entries Table m n h = refl
room_entries Sequence m n h = refl
room_entries Text m n h = absurd (h refl)

module _ (es : List EntryRow) (bs : List ℕ) (o : ObjectRow) (ok : object_lies (length es) (length bs) o ≡ true) where
  fits : o.row.from + o.row.len ≤ room_of o.kind (length es) (length bs)
  fits = leb-true _ _ ok

  module _ (other : o.kind ≡ Text → ⊥) where
    pub row_fits : o.row.from + o.row.len ≤ length es
    row_fits = let e = room_entries o.kind (length es) (length bs) other in omega (arith, fits)

    pub row_lies : lies o.row (length es) ≡ true
    row_lies = le-leb _ _ row_fits

    pub entry_at : (n : ℕ) (e : EntryRow) → Stands (part o.row es) n e → entry_told (some (obj_of es bs o)) n ≡ some (seen_of o.kind bs e)
    entry_at n e h =
        ap (λ ps. nth ps n) (row_seen o.kind o.row es bs other)
        ∙ (seen_at o.kind bs (part o.row es) n h.0 ∙ ap (λ e. some (seen_of o.kind bs e)) (sym (h.1 no_entry)))

    pub entry_past : (n : ℕ) → length (part o.row es) ≤ n → entry_told (some (obj_of es bs o)) n ≡ none
    entry_past n l =
        ap (λ ps. nth ps n) (row_seen o.kind o.row es bs other)
        ∙ nth_past (seen_all o.kind bs (part o.row es)) n (omega (arith, seen_length o.kind bs (part o.row es)))

entries_length : (bs : List ℕ) (es : List EntryRow) → length (entries_of bs es) ≡ length es
entries_length bs [] = refl
entries_length bs (e ∷ es) = ap suc (entries_length bs es)

pairs_length : (bs : List ℕ) (es : List EntryRow) → length (pairs_of bs es) ≡ length es
pairs_length bs [] = refl
pairs_length bs (e ∷ es) = ap suc (pairs_length bs es)

row_size : (k : ObjType) (w : Window) (es : List EntryRow) (bs : List ℕ) → w.from + w.len ≤ room_of k (length es) (length bs) → size_of (row_of k w es bs) ≡ w.len
row_size Map w es bs h = pairs_length bs (part w es) ∙ part_length w es h
row_size Table w es bs h = pairs_length bs (part w es) ∙ part_length w es h
row_size Sequence w es bs h = entries_length bs (part w es) ∙ part_length w es h
row_size Text w es bs h = part_length w bs h

pub size_at : (es : List EntryRow) (bs : List ℕ) (o : ObjectRow) → object_lies (length es) (length bs) o ≡ true → size_told (some (obj_of es bs o)) ≡ o.row.len
size_at es bs o ok = row_size o.kind o.row es bs (leb-true _ _ ok)

-- texts
text_row : (k : ObjType) (w : Window) (es : List EntryRow) (bs : List ℕ) → k ≡ Text → text_of? (row_of k w es bs) ≡ some (part w bs)
text_row k w es bs e = ap (λ q. text_of? (row_of q w es bs)) e

pub text_at : (es : List EntryRow) (bs : List ℕ) (o : ObjectRow) → o.kind ≡ Text → text_told (some (obj_of es bs o)) ≡ some (part o.row bs)
text_at es bs o e = text_row o.kind o.row es bs e

other_row : (k : ObjType) (w : Window) (es : List EntryRow) (bs : List ℕ) → (k ≡ Text → ⊥) → text_of? (row_of k w es bs) ≡ none
other_row Map w es bs h = refl
other_row Table w es bs h = refl
other_row Sequence w es bs h = refl
other_row Text w es bs h = absurd (h refl)

pub other_at : (es : List EntryRow) (bs : List ℕ) (o : ObjectRow) → (o.kind ≡ Text → ⊥) → text_told (some (obj_of es bs o)) ≡ none
other_at es bs o h = other_row o.kind o.row es bs h

nothing_at : {X : Type 0} (n : ℕ) → nth {X = X} [] n ≡ none
nothing_at zero = refl
nothing_at (suc n) = refl

pub text_entries : (es : List EntryRow) (bs : List ℕ) (o : ObjectRow) (n : ℕ) → o.kind ≡ Text → entry_told (some (obj_of es bs o)) n ≡ none
text_entries es bs o n e = ap (λ k. nth (pairs (row_of k o.row es bs)) n) e ∙ nothing_at n

pub text_lies : (es : List EntryRow) (bs : List ℕ) (o : ObjectRow) → object_lies (length es) (length bs) o ≡ true → o.kind ≡ Text → lies o.row (length bs) ≡ true
text_lies es bs o ok e = subst (λ k. lies o.row (room_of k (length es) (length bs)) ≡ true) e ok

-- the library's test of all is this one
pub every_is : {X : Type 0} (p : X → Bool) (xs : List X) → list_all p xs ≡ every p xs
every_is p [] = refl
every_is p (x ∷ xs) = ap (λ b. p x && b) (every_is p xs)

-- what is told of the object at a place, by what `get` says of it
get_or_same : {X : Type 0} (xs : List X) (i : ℕ) (d e : X) → i < length xs → get_or xs i d ≡ get_or xs i e
get_or_same [] i d e l = absurd (omega arith)
get_or_same (x ∷ xs) zero d e l = refl
get_or_same (x ∷ xs) (suc i) d e l = get_or_same xs i d e (omega arith)

stands : {X : Type 0} (xs : List X) (i : ℕ) (x : X) → i < length xs → x ≡ get_or xs i x → Stands xs i x
stands xs i x l e = (l, λ d. e ∙ get_or_same xs i x d l)

module _ (os : List ObjectRow) (es : List EntryRow) (bs : List ℕ) (i : ℕ) where
  pub head_past : length os ≤ i → head_told (nth (doc_of os es bs) i) ≡ None
  head_past l = ap head_told (docs_past os es bs i l)

  pub size_past : length os ≤ i → size_told (nth (doc_of os es bs) i) ≡ 0
  size_past l = ap size_told (docs_past os es bs i l)

  pub text_past : length os ≤ i → text_told (nth (doc_of os es bs) i) ≡ none
  text_past l = ap text_told (docs_past os es bs i l)

  pub entry_none : (n : ℕ) → length os ≤ i → entry_told (nth (doc_of os es bs) i) n ≡ none
  entry_none n l = ap (λ x. entry_told x n) (docs_past os es bs i l)

  module _ (o : ObjectRow) where
    pub head_here : i < length os → o ≡ get_or os i o → Some (record { id = o.id; parent = o.parent; kind = o.kind }) ≡ head_told (nth (doc_of os es bs) i)
    head_here l e = sym (ap head_told (docs_here os es bs i o (stands os i o l e)))

    pub size_here : i < length os → o ≡ get_or os i o → inside os es bs ≡ true → size_told (nth (doc_of os es bs) i) ≡ o.row.len
    size_here l e ok = let h = stands os i o l e in ap size_told (docs_here os es bs i o h) ∙ size_at es bs o (object_inside os es bs ok i o h)

    pub text_here : i < length os → o ≡ get_or os i o → o.kind ≡ Text → text_told (nth (doc_of os es bs) i) ≡ some (part o.row bs)
    text_here l e t = ap text_told (docs_here os es bs i o (stands os i o l e)) ∙ text_at es bs o t

    pub text_other : i < length os → o ≡ get_or os i o → (o.kind ≡ Text → ⊥) → text_told (nth (doc_of os es bs) i) ≡ none
    text_other l e t = ap text_told (docs_here os es bs i o (stands os i o l e)) ∙ other_at es bs o t

    pub text_inside : i < length os → o ≡ get_or os i o → inside os es bs ≡ true → o.kind ≡ Text → lies o.row (length bs) ≡ true
    text_inside l e ok t = text_lies es bs o (object_inside os es bs ok i o (stands os i o l e)) t

    module _ (l : i < length os) (e : o ≡ get_or os i o) where
      here : Stands os i o
      here = stands os i o l e

      pub entry_text : (n : ℕ) → o.kind ≡ Text → entry_told (nth (doc_of os es bs) i) n ≡ none
      entry_text n t = ap (λ x. entry_told x n) (docs_here os es bs i o here) ∙ text_entries es bs o n t

      module _ (ok : inside os es bs ≡ true) (other : o.kind ≡ Text → ⊥) where
        pub row_inside : lies o.row (length es) ≡ true
        row_inside = row_lies es bs o (object_inside os es bs ok i o here) other

        module _ (xs : List EntryRow) (n : ℕ) (shown : xs ≡ part o.row es) where
          pub entry_past_row : length xs ≤ n → entry_told (nth (doc_of os es bs) i) n ≡ none
          entry_past_row p =
              ap (λ x. entry_told x n) (docs_here os es bs i o here)
              ∙ entry_past es bs o (object_inside os es bs ok i o here) other n (subst (λ ys. length ys ≤ n) shown p)

          module _ (r : EntryRow) (m : n < length xs) (is : r ≡ get_or xs n r) where
            entry_stands : Stands (part o.row es) n r
            entry_stands = subst (λ ys. Stands ys n r) shown (stands xs n r m is)

            pub entry_here : entry_told (nth (doc_of os es bs) i) n ≡ some (seen_of o.kind bs r)
            entry_here =
                ap (λ x. entry_told x n) (docs_here os es bs i o here)
                ∙ entry_at es bs o (object_inside os es bs ok i o here) other n r entry_stands

            pub entry_lies_here : entry_lies (length bs) r ≡ true
            entry_lies_here = entry_inside os es bs ok o.row n r (row_fits es bs o (object_inside os es bs ok i o here) other) entry_stands

-- what the proofs of the rows' answers need
pub ruleset told_here = (docs_length, head_here, head_past, size_here, size_past, text_here, text_other, text_past, text_inside, entry_none, entry_text, row_inside, entry_past_row, entry_here, entry_lies_here)
