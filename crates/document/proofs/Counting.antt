-- Counts taken out of room, row by row and entry by entry.
use Rattle.std.proofs.Common.{◌≡◌, ℕ, ◌+◌, ◌-◌, ◌<◌, ◌≤◌, false, leb, List, [], ◌∷◌, length, drop, Some, None, Option as Answer, sym, refl, ap, ◌∙◌, subst, inl, inr, arith}
use mathlib.Core.Option.{Option, none, some}
use Rattle.std.proofs.lemmas.List.{drop_all}
use Rattle.std.proofs.lemmas.Bool.{and_parts, and_from, leb-true, le-leb, lt-leb, cond-true, cond-false, cases_Bool, cases_lt}
use Rattle.meaning.specs.Entries.{Key, Entry}
use Rattle.meaning.specs.Rows.{map_of, list_of, text_of}
use Rattle.meaning.specs.Values.{Counts, plus}
use Rattle.meaning.specs.Documents.{DocRow, Obj, Doc, pairs_counts, list_counts, row_counts, doc_counts}
use Rattle.document.specs.declared.room.Room.{Room}
use Rattle.document.specs.Places.{first, nth, unkeyed, pairs, size_of, text_of?, size_told, text_told}
use Rattle.document.specs.Steps.{pairs_told}
use Rattle.document.specs.Room.{left, pair_bytes, counts_told, suffices, taken_up}
use Rattle.document.proofs.Walks.{drop_next}

-- what is left of one number
pub left_some : (room n m : ℕ) → Some m ≡ left room n → m + n ≡ room
left_some room n m e = elim (cases_lt room n) [
  | inl h ↦ let q : ◌≡◌ {A = Answer ℕ} (Some m) None = e ∙ cond-false (leb n room) (Some (room - n)) None (lt-leb n room h) in let z : ◌≡◌ {A = ℕ} 0 1 = cc in absurd (omega arith)
  | inr h ↦ let q : ◌≡◌ {A = Answer ℕ} (Some m) (Some (room - n)) = e ∙ cond-true (leb n room) (Some (room - n)) None (le-leb n room h) in let p : m ≡ room - n = cc in omega arith
]

pub left_none : (room n : ℕ) → None ≡ left room n → room < n
left_none room n e = elim (cases_lt room n) [
  | inl h ↦ h
  | inr h ↦ let q : ◌≡◌ {A = Answer ℕ} None (Some (room - n)) = e ∙ cond-true (leb n room) (Some (room - n)) None (le-leb n room h) in let z : ◌≡◌ {A = ℕ} 0 1 = cc in absurd (omega arith)
]

pub left_is : (room n m : ℕ) → m + n ≡ room → Some m ≡ left room n
left_is room n m e = ap {B = Answer ℕ} (λ k. Some k) {x = m} {y = room - n} (omega arith) ∙ sym (cond-true (leb n room) (Some (room - n)) None (le-leb n room (omega arith)))

pub left_not : (room n : ℕ) → room < n → None ≡ left room n
left_not room n h = sym (cond-false (leb n room) (Some (room - n)) None (lt-leb n room h))

-- the bytes of entries
bytes_first : (ps : List (Key × Entry)) → (pairs_counts ps).byte_count ≡ pair_bytes (first ps) + (pairs_counts (drop 1 ps)).byte_count
bytes_first [] = refl
bytes_first (p ∷ ps) = refl

pub bytes_step : (ps : List (Key × Entry)) (n : ℕ) → (pairs_counts (drop n ps)).byte_count ≡ pair_bytes (nth ps n) + (pairs_counts (drop (n + 1) ps)).byte_count
bytes_step ps n = bytes_first (drop n ps) ∙ ap (λ qs. pair_bytes (nth ps n) + (pairs_counts qs).byte_count) (sym (drop_next ps n))

pub bytes_end : (ps : List (Key × Entry)) (n : ℕ) → length ps ≤ n → (pairs_counts (drop n ps)).byte_count ≡ 0
bytes_end ps n h = ap (λ qs. (pairs_counts qs).byte_count) (drop_all n ps h)

list_bytes : (l : List Entry) → (list_counts l).byte_count ≡ (pairs_counts (unkeyed l)).byte_count
list_bytes [] = refl
list_bytes (e ∷ l) = let ih = list_bytes l in omega arith

row_bytes : (w : DocRow) → (row_counts w).byte_count ≡ (pairs_counts (pairs w)).byte_count
row_bytes (map_of m) = refl
row_bytes (list_of l) = list_bytes l
row_bytes (text_of t) = refl

pub bytes_told : (x : Option Obj) → (counts_told x).byte_count ≡ (pairs_counts (pairs_told x)).byte_count
bytes_told none = refl
bytes_told (some o) = row_bytes o.row

-- the counts of a row that is no text
pairs_entries : (m : List (Key × Entry)) → ((pairs_counts m).entry_count ≡ length m) × ((pairs_counts m).unit_count ≡ 0)
pairs_entries [] = (refl, refl)
pairs_entries (p ∷ m) = let ih = pairs_entries m in (omega (arith, ih.0), omega (arith, ih.1))

list_entries : (l : List Entry) → ((list_counts l).entry_count ≡ length l) × ((list_counts l).unit_count ≡ 0)
list_entries [] = (refl, refl)
list_entries (e ∷ l) = let ih = list_entries l in (omega (arith, ih.0), omega (arith, ih.1))

row_entries_lem : (w : DocRow) → none ≡ text_of? w → ((row_counts w).entry_count ≡ size_of w) × ((row_counts w).unit_count ≡ 0)
row_entries_lem (map_of m) e = pairs_entries m
row_entries_lem (list_of l) e = list_entries l
row_entries_lem (text_of t) e = let z : ◌≡◌ {A = ℕ} 0 1 = cc in absurd (omega arith)

pub entries_told_lem : (x : Option Obj) → none ≡ text_told x → ((counts_told x).entry_count ≡ size_told x) × ((counts_told x).unit_count ≡ 0)
entries_told_lem none e = (refl, refl)
entries_told_lem (some o) e = row_entries_lem o.row e

-- room for a row
pub taken_not : (room : Room) (k : Counts) → suffices k room ≡ false → None ≡ taken_up room k
taken_not room k h = sym (cond-false (suffices k room) _ None h)

pub taken_is : (room : Room) (k : Counts) (e b : ℕ) → e + k.entry_count ≡ room.entries → k.unit_count ≡ 0 → b + k.byte_count ≡ room.bytes
    → Some (record { entries = e; units = room.units; bytes = b }) ≡ taken_up room k
taken_is room k e b p u q =
    ap {B = Answer Room} (λ n. Some (record { entries = n; units = room.units; bytes = b })) {x = e} {y = room.entries - k.entry_count} (omega arith)
    ∙ (ap {B = Answer Room} (λ n. Some (record { entries = room.entries - k.entry_count; units = n; bytes = b })) {x = room.units} {y = room.units - k.unit_count} (omega arith)
    ∙ (ap {B = Answer Room} (λ n. Some (record { entries = room.entries - k.entry_count; units = room.units - k.unit_count; bytes = n })) {x = b} {y = room.bytes - k.byte_count} (omega arith)
    ∙ sym (cond-true (suffices k room) _ None
    (and_from (leb k.entry_count room.entries) _ (le-leb _ _ (omega arith)) (and_from (leb k.unit_count room.units) (leb k.byte_count room.bytes) (le-leb _ _ (omega arith)) (le-leb _ _ (omega arith)))))))

-- room for all
docs_first : (d : Doc) → doc_counts d ≡ plus (counts_told (first d)) (doc_counts (drop 1 d))
docs_first [] = refl
docs_first (o ∷ os) = refl

docs_step : (d : Doc) (i : ℕ) → doc_counts (drop i d) ≡ plus (counts_told (nth d i)) (doc_counts (drop (i + 1) d))
docs_step d i = docs_first (drop i d) ∙ ap (λ e. plus (counts_told (nth d i)) (doc_counts e)) (sym (drop_next d i))

abbrev pub Going : Room → Counts → Counts → Type 0
Going room left all =
    (4096 + left.entry_count ≡ room.entries + all.entry_count)
    × (32768 + left.unit_count ≡ room.units + all.unit_count)
    × (32768 + left.byte_count ≡ room.bytes + all.byte_count)

module _ (d : Doc) (i : ℕ) (room : Room) (so : Going room (doc_counts (drop i d)) (doc_counts d)) where
  abbrev k : Counts
  k = counts_told (nth d i)

  going : Going room (plus k (doc_counts (drop (i + 1) d))) (doc_counts d)
  going = subst (λ e. Going room e (doc_counts d)) (docs_step d i) so

  pub counts_on : (next : Room) → Some next ≡ taken_up room k → Going next (doc_counts (drop (i + 1) d)) (doc_counts d)
  counts_on next e = elim (cases_Bool (suffices k room)) [
    | inl h ↦
        let a = and_parts (leb k.entry_count room.entries) _ h in
        let b = and_parts (leb k.unit_count room.units) (leb k.byte_count room.bytes) a.1 in
        let q : ◌≡◌ {A = Answer Room} (Some next) (Some (record { entries = room.entries - k.entry_count; units = room.units - k.unit_count; bytes = room.bytes - k.byte_count })) = e ∙ cond-true (suffices k room) _ None h in
        let p : next ≡ record { entries = room.entries - k.entry_count; units = room.units - k.unit_count; bytes = room.bytes - k.byte_count } = cc in
        let x = ap (λ (r : Room). r.entries) p in let y = ap (λ (r : Room). r.units) p in let z = ap (λ (r : Room). r.bytes) p in
        let u = leb-true _ _ a.0 in let v = leb-true _ _ b.0 in let w = leb-true _ _ b.1 in
        (omega (arith, going.0), omega (arith, going.1), omega (arith, going.2))
    | inr h ↦ let q : ◌≡◌ {A = Answer Room} (Some next) None = e ∙ cond-false (suffices k room) _ None h in let z : ◌≡◌ {A = ℕ} 0 1 = cc in absurd (omega arith)
  ]
