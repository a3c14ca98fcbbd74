-- The definitions at work: cases of joining and making, samples in which the premises of the laws are met, and what goes wrong without each.
use Rattle.std.specs.Prelude.{◌≡◌, ℕ, true, false, List, [], ◌∷◌, length, pos as plain, Ok, Err}
use Rattle.types.specs.Identities.{root_id}
use Rattle.types.specs.declared.types.OpId.{OpId}
use Rattle.types.specs.declared.types.ObjId.{ObjId}
use Rattle.types.specs.declared.types.ObjType.{ObjType}
use Rattle.types.specs.declared.types.ObjType.TheVariants.{Map, List as Sequence, Text}
use Rattle.types.specs.declared.error.Refusal.TheVariants.{InvalidIndex}
use Rattle.text_value.specs.Units.{byte_units, point_units}
use Rattle.meaning.specs.Results.{Answer, on_ok}
use Rattle.meaning.specs.Entries.{Key, int, str, scalar_of, object_of, Entry, Ref, Item}
use Rattle.meaning.specs.Patches.{key, Action, put_map, insert, splice_text, delete_seq, Patch}
use Rattle.meaning.specs.Rows.{Row, map_of, list_of, text_of, map_row}
use Rattle.meaning.specs.Values.{Value, map_v, list_v, text_v, no_entry, value_entry, Cells, no_cell, scalar_cell}
use Rattle.meaning.specs.Application.{apply, apply_all}
use Rattle.meaning.specs.Documents.{Obj, Doc, row_in, Lawful, value}
use Rattle.meaning.specs.Calls.{Call, put_call, insert_call, delete_seq_call, delete_map_call, splice_call}
use Rattle.meaning.specs.Builder.{Input, call, start, joined, run, own_patches, builder_over}
use Rattle.meaning.specs.Joining.{Narrow}
use Rattle.meaning.specs.Log.{LogCall, logged, closing, log_after}
use Rattle.meaning.specs.Making.{make_patches}
use Rattle.meaning.specs.Kept.{untag, replayed, LeadsRows}

-- Identities by counter, all of actor 1.
abbrev pub op : ℕ → OpId
op n = record { counter = n; actor = 1 }

-- The same for an object.
abbrev pub obj : ℕ → ObjId
obj n = record { 0 = op n }

-- Entries with their identity: a string.
abbrev pub text : List ℕ → ℕ → Entry
text s n = record { content = scalar_of (str s); ident = op n; flag = false }

-- A number.
abbrev pub number : ℕ → ℕ → Entry
number x n = record { content = scalar_of (int (plain x)); ident = op n; flag = false }

-- An object.
abbrev pub placing : ObjType → ℕ → Entry
placing k n = record { content = object_of k; ident = op n; flag = false }

-- The string "a".
abbrev pub a : Entry
a = text (97 ∷ []) 8

-- The string "b".
abbrev pub b : Entry
b = text (98 ∷ []) 9

-- The root.
abbrev pub root_with : List (Key × Entry) → Obj
root_with m = record { ident = root_id; kind = Map; parent = root_id; row = map_of m }

-- A list below the root.
abbrev pub list_with : ℕ → List Entry → Obj
list_with n l = record { ident = obj n; kind = Sequence; parent = root_id; row = list_of l }

-- A text below the root.
abbrev pub text_with : ℕ → List ℕ → Obj
text_with n t = record { ident = obj n; kind = Text; parent = root_id; row = text_of t }

-- A list (4, 1) under "l" and a text (5, 1) under "t".
abbrev pub shelf : Doc
shelf = root_with ((108 ∷ [], placing Sequence 4) ∷ (116 ∷ [], placing Text 5) ∷ []) ∷ list_with 4 [] ∷ text_with 5 [] ∷ []

-- Calls for one object.
abbrev pub calls : ObjId → List Call → List Input
calls o [] = []
calls o (c ∷ cs) = call o c ∷ calls o cs

-- What patches do, without where.
abbrev pub actions : {U : Type 0} → List (Patch U) → List (Action U)
actions [] = []
actions (p ∷ ps) = p.action ∷ actions ps

-- What a builder over a document makes of calls for one object.
abbrev pub makes : {U : Type 0} → (List ℕ → List U) → Doc → ObjId → List Call → List (Action U)
makes units d o cs = actions (joined (run (builder_over units d) (calls o cs) start))

-- On the list.
abbrev pub on_list : List Call → List (Action ℕ)
on_list cs = makes byte_units shelf (obj 4) cs

-- "ab" spliced at 0 and "é" at 1.
abbrev pub spliced : List Call
spliced = splice_call 0 (97 ∷ 98 ∷ []) ∷ splice_call 1 (0xC3 ∷ 0xA9 ∷ []) ∷ []

-- A list (4, 1) is put under "k" and exposed, and an insert into it follows; the document's list holds 7.
abbrev pub put_list : List LogCall
put_list = logged root_id (put_call (key (107 ∷ [])) (placing Sequence 4)) true ∷ logged (obj 4) (insert_call 0 (number 6 5)) false ∷ closing ∷ []

-- A root that holds nothing.
abbrev pub empty_doc : Doc
empty_doc = root_with [] ∷ []

-- A list (4, 1) under "k" that holds 7.
abbrev pub listed : Doc
listed = root_with ((107 ∷ [], placing Sequence 4) ∷ []) ∷ list_with 4 (number 7 5 ∷ []) ∷ []

-- The patches that come of it.
abbrev pub put_and_insert : List (Patch ℕ)
put_and_insert =
    record { obj = root_id; path = []; action = put_map (107 ∷ []) (placing Sequence 4) }
    ∷ record { obj = obj 4; path = record { leaves = root_id; prop = key (107 ∷ []) } ∷ []; action = insert 0 (number 7 5 ∷ []) }
    ∷ []

-- The worked cases.
pub record WorkedCases : Type 0 where
  -- insert a at 3, b at 3; b at 4; b at 5; b at 2
  pub same_place : on_list (insert_call 3 a ∷ insert_call 3 b ∷ []) ≡ insert 3 (b ∷ a ∷ []) ∷ []
  pub next_place : on_list (insert_call 3 a ∷ insert_call 4 b ∷ []) ≡ insert 3 (a ∷ b ∷ []) ∷ []
  pub too_far : on_list (insert_call 3 a ∷ insert_call 5 b ∷ []) ≡ insert 3 (a ∷ []) ∷ insert 5 (b ∷ []) ∷ []
  pub before : on_list (insert_call 3 a ∷ insert_call 2 b ∷ []) ≡ insert 3 (a ∷ []) ∷ insert 2 (b ∷ []) ∷ []
  -- insert a at 3, b at 4, delete at 3 length 2; insert a at 3, delete at 3 length 2
  pub emptied : on_list (insert_call 3 a ∷ insert_call 4 b ∷ delete_seq_call 3 2 ∷ []) ≡ []
  pub past_the_end : on_list (insert_call 3 a ∷ delete_seq_call 3 2 ∷ []) ≡ insert 3 (a ∷ []) ∷ delete_seq 3 2 ∷ []
  -- delete at 4 length 1, insert a at 4, delete at 4 length 1, delete at 4 length 2
  pub deletions : on_list (delete_seq_call 4 1 ∷ insert_call 4 a ∷ delete_seq_call 4 1 ∷ delete_seq_call 4 2 ∷ []) ≡ delete_seq 4 3 ∷ []
  -- splice "ab" at 0, "é" at 1, in bytes and in code points
  pub in_bytes : makes byte_units shelf (obj 5) spliced ≡ splice_text 0 (0x61 ∷ 0xC3 ∷ 0xA9 ∷ 0x62 ∷ []) ∷ []
  pub in_points : makes point_units shelf (obj 5) spliced ≡ splice_text 0 (0x61 ∷ 0xE9 ∷ 0x62 ∷ []) ∷ []
  -- put the list (4, 1) exposed, insert into it; the document's (4, 1) holds 7: a put and one Insert of 7
  pub exposed_list : make_patches byte_units (log_after put_list) listed ≡ Ok put_and_insert

-- The joining law at work: two inserts and a deletion become one Insert, and end in the same value.
abbrev pub three_calls : List Input
three_calls = calls (obj 4) (insert_call 0 a ∷ insert_call 1 b ∷ delete_seq_call 0 1 ∷ [])

-- The list holds "b", the text nothing.
abbrev pub holds_b : Value ℕ
holds_b = map_v (value_entry (108 ∷ []) (list_v (scalar_cell (str (98 ∷ [])) false no_cell)) false (value_entry (116 ∷ []) (text_v []) false no_entry))

-- The premises hold, and three patches become one.
pub record JoiningSample : Type 0 where
  pub narrow : Narrow (builder_over byte_units shelf) (apply byte_units) (own_patches (builder_over byte_units shelf) three_calls start) (value byte_units shelf)
  pub own : apply_all (apply byte_units) (own_patches (builder_over byte_units shelf) three_calls start) (value byte_units shelf) ≡ Ok holds_b
  pub three : length (own_patches (builder_over byte_units shelf) three_calls start) ≡ 3
  pub one : on_list (insert_call 0 a ∷ insert_call 1 b ∷ delete_seq_call 0 1 ∷ []) ≡ insert 0 (b ∷ []) ∷ []

-- The carrying law at work: the log above leads the empty document to the one with the list.
pub record CarryingSample : Type 0 where
  pub lawful_a : Lawful empty_doc
  pub lawful_b : Lawful listed
  pub leads : LeadsRows byte_units (log_after put_list) empty_doc listed
  pub made : make_patches byte_units (log_after put_list) listed ≡ Ok put_and_insert

-- Without the premise on widths: where the document has a list and the screen a text, a wide insert joins by values, and the ends differ.
abbrev pub wide_calls : List Input
wide_calls = calls (obj 4) (insert_call 0 (text (97 ∷ 98 ∷ []) 8) ∷ insert_call 1 a ∷ [])

-- A screen that has a text under "l".
abbrev pub screen_with : List ℕ → Value ℕ
screen_with us = map_v (value_entry (108 ∷ []) (text_v us) false no_entry)

-- In the order of the calls, and joined.
pub record WideInsert : Type 0 where
  pub own : apply_all (apply byte_units) (own_patches (builder_over byte_units shelf) wide_calls start) (screen_with []) ≡ Ok (screen_with (97 ∷ 97 ∷ 98 ∷ []))
  pub together : apply_all (apply byte_units) (joined (run (builder_over byte_units shelf) wide_calls start)) (screen_with []) ≡ Ok (screen_with (97 ∷ 98 ∷ 97 ∷ []))

-- Without the premise that the own patches succeed: an insert past the end is refused, and joined with its deletion it is not there.
abbrev pub taken_back : List Input
taken_back = calls (obj 4) (insert_call 3 a ∷ delete_seq_call 3 1 ∷ [])

-- In the order of the calls, and joined.
pub record RefusedOwn : Type 0 where
  pub own : apply_all (apply byte_units) (own_patches (builder_over byte_units shelf) taken_back start) (value byte_units shelf) ≡ Err InvalidIndex
  pub together : apply_all (apply byte_units) (joined (run (builder_over byte_units shelf) taken_back start)) (value byte_units shelf) ≡ Ok (value byte_units shelf)

-- What a log makes of a document's value, against a document.
abbrev pub shows : List LogCall → Doc → Doc → Answer (List (Patch ℕ)) → Answer (Value ℕ)
shows xs da db (Ok ps) = apply_all (apply byte_units) ps (value byte_units da)
shows xs da db (Err r) = Err r

-- What making and applying end in.
abbrev pub ends : List LogCall → Doc → Doc → Answer (Value ℕ)
ends xs da db = shows xs da db (make_patches byte_units (log_after xs) db)

-- What the log makes of a kept row, old and new forgotten.
abbrev pub end_row : List LogCall → Obj → Answer (Row (List ℕ) (Item Ref))
end_row xs o = on_ok (map_row untag) (replayed byte_units (log_after xs) o)

-- The root of a document.
abbrev pub root_of : Doc → Obj
root_of [] = root_with []
root_of (o ∷ os) = o

-- Numbers as the elements of a list.
abbrev pub cells_of : List ℕ → Cells ℕ
cells_of [] = no_cell
cells_of (x ∷ xs) = scalar_cell (int (plain x)) false (cells_of xs)

-- A list of numbers under "k".
abbrev pub under_k : List ℕ → Value ℕ
under_k xs = map_v (value_entry (107 ∷ []) (list_v (cells_of xs)) false no_entry)

-- Without the premise that no old object is exposed: the list is put a second time, exposed and deleted again, and is then written out upon itself.
abbrev pub exposes_old : List LogCall
exposes_old = logged root_id (put_call (key (120 ∷ [])) (placing Sequence 4)) true ∷ logged root_id (delete_map_call (120 ∷ [])) false ∷ closing ∷ []

-- The rows are led, and the list comes out doubled.
pub record OldExposed : Type 0 where
  pub rows : end_row exposes_old (root_of listed) ≡ Ok (row_in byte_units (root_of listed))
  pub ended : ends exposes_old listed listed ≡ Ok (under_k (7 ∷ 7 ∷ []))
  pub wanted : value byte_units listed ≡ under_k (7 ∷ [])

-- Without the premise that every new object is exposed: the list arrives empty.
abbrev pub not_exposed : List LogCall
not_exposed = logged root_id (put_call (key (107 ∷ [])) (placing Sequence 4)) false ∷ closing ∷ []

-- The rows are led, and the list comes out empty.
pub record NewUnexposed : Type 0 where
  pub rows : end_row not_exposed (root_of empty_doc) ≡ Ok (row_in byte_units (root_of listed))
  pub ended : ends not_exposed empty_doc listed ≡ Ok (under_k [])
  pub wanted : value byte_units listed ≡ under_k (7 ∷ [])

-- Without the law that an object stands in its parent's row once: only one of two entries is written out.
abbrev pub twice : Doc
twice = root_with ((106 ∷ [], placing Sequence 4) ∷ (107 ∷ [], placing Sequence 4) ∷ []) ∷ list_with 4 (number 7 5 ∷ []) ∷ []

-- Puts it under both keys, exposed.
abbrev pub put_twice : List LogCall
put_twice = logged root_id (put_call (key (106 ∷ [])) (placing Sequence 4)) true ∷ logged root_id (put_call (key (107 ∷ [])) (placing Sequence 4)) true ∷ closing ∷ []

-- Two lists of numbers, under "j" and "k".
abbrev pub under_j_k : List ℕ → List ℕ → Value ℕ
under_j_k xs ys = map_v (value_entry (106 ∷ []) (list_v (cells_of xs)) false (value_entry (107 ∷ []) (list_v (cells_of ys)) false no_entry))

-- The rows are led, and one of the two comes out empty.
pub record TwoEntries : Type 0 where
  pub rows : end_row put_twice (root_of empty_doc) ≡ Ok (row_in byte_units (root_of twice))
  pub ended : ends put_twice empty_doc twice ≡ Ok (under_j_k (7 ∷ []) [])
  pub wanted : value byte_units twice ≡ under_j_k (7 ∷ []) (7 ∷ [])

-- What stands above, together.
pub record LawsAreNeeded : Type 0 where
  pub joining_sample : JoiningSample
  pub carrying_sample : CarryingSample
  pub wide_insert : WideInsert
  pub refused_own : RefusedOwn
  pub old_exposed : OldExposed
  pub new_unexposed : NewUnexposed
  pub two_entries : TwoEntries
