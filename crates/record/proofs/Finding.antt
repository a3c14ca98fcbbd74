-- What an index of a record tells: objects and entries by their places.
use Rattle.std.proofs.Common.{◌≡◌, ℕ, zero, suc, ◌+◌, ◌-◌, ◌<◌, ◌≤◌, Bool, true, false, ◌&&◌, eqb, ltb, leb, List, [], ◌∷◌, ◌++◌, length, get_or, take, drop, is_some, Some, None, Option, sym, refl, ap, ◌∙◌, subst, append_assoc, add_assoc, arith, length-append, length-drop, length-take, get_or-take}
use Rattle.std.specs.Borrow.{Bor}
use mathlib.Core.Option.{none, some}
use Rattle.std.proofs.lemmas.List.{append-nil, drop_more, drop_all, get_or_append_left, get_or-append-add}
use Rattle.std.proofs.lemmas.Bool.{le-leb, eq-eqb, ltb-true, and_parts, cond-true}
use Rattle.types.specs.Identities.{root_id}
use Rattle.types.specs.declared.types.ObjType.{ObjType}
use Rattle.types.specs.declared.types.ObjType.TheVariants.{Map, Text}
use Rattle.document.specs.declared.view.Head.{Head}
use Rattle.document.specs.Places.{first, nth, unkeyed, pairs, size_of, text_of?, head_of, size_told, entry_told, text_told}
use Rattle.meaning.specs.Lists.{Every}
use Rattle.meaning.specs.Entries.{null, scalar_of, Entry}
use Rattle.meaning.specs.Rows.{map_of, list_of, text_of}
use Rattle.meaning.specs.Documents.{DocRow, Obj, Doc, FitsKind, is_text_kind}
use Rattle.record_codec.specs.Codec.{Got, next, Bytes, get32, put32, get_text, get_many, put_many, get_list}
use Rattle.record_codec.specs.Layout.{Slot, get_slot, put_slot, has_keys, get_head, put_head, put_row, get_obj, put_obj, ended, parsed, or_empty, doc_of, WritableSlot, WritableRow, WritableObj}
use Rattle.record_codec.specs.Seen.{saw, itself}
use Rattle.record_codec.proofs.Laws.{val_is, rest_is, law32, forth_many, law_text}
use Rattle.record_codec.proofs.Records.{law_slot, law_head, law_obj, OfSlots, of_slots, Whole, parsed_whole, some_is}
use Rattle.record.specs.Index.{offsets, entry_offsets, first_numbers, entry_count}
use Rattle.record.specs.Reading.{RanAll, Found, FoundAt}
use Rattle.record.proofs.Indexing.{offsets_length, stands_at, slot_long}

-- What reading all objects leaves.
module _ (bs : List ℕ) (n : ℕ) (r end starts firsts places : List ℕ) (d : Doc) (B : Bytes bs) (e : get32 bs ≡ Some (n, r)) (ran : RanAll n (length bs) r starts firsts places end d) (fit : length bs ≤ 65536) (z : length end ≡ 0) where
  made : parsed bs ≡ Some d
  made =
      cond-true (leb (length bs) 65536) (ended (get_list get_obj bs)) None (le-leb _ _ fit)
      ∙ (ap (λ x. ended (next x (λ n r. get_many get_obj n r))) e
      ∙ (ap ended ran.is ∙ cond-true (eqb (length end) 0) (Some d) None (eq-eqb _ _ z)))

  doc_is : doc_of bs ≡ d
  doc_is = ap or_empty made

  pub opened : is_some (parsed bs) ≡ true
  opened = ap is_some made

  pub count_is : n ≡ length (doc_of bs)
  count_is =
      let s = law32.forth bs n r B e in
      let t = forth_many get_obj put_obj WritableObj law_obj n r d end s.rest ran.is in
      sym (ap length doc_is ∙ t.sized)

  four : length bs - length r ≡ 4
  four =
      let s = law32.forth bs n r B e in
      let l : length bs ≡ 4 + length r = ap length s.whole ∙ length-append (put32 n) r in
      omega arith

  pub starts_are : take n starts ≡ offsets put_obj 4 (doc_of bs)
  starts_are = ran.started ∙ (ap (λ k. offsets put_obj k d) four ∙ ap (offsets put_obj 4) (sym doc_is))

  pub firsts_are : take n firsts ≡ first_numbers 0 (doc_of bs)
  firsts_are = ran.numbered ∙ ap (first_numbers 0) (sym doc_is)

  pub places_are : take (entry_count (doc_of bs)) places ≡ entry_offsets 4 (doc_of bs)
  places_are = ap (λ x. take (entry_count x) places) doc_is ∙ (ran.indexed ∙ (ap (λ k. entry_offsets k d) four ∙ ap (entry_offsets 4) (sym doc_is)))

-- What stands for an object or an entry past the last.
no_obj : Obj
no_obj = record { ident = root_id; kind = Map; parent = root_id; row = text_of [] }

no_slot : Slot
no_slot = ([], record { content = scalar_of null; ident = root_id.0; flag = false })

every_at : {X : Type 0} (P : X → Type 0) (d : X) (xs : List X) (k : ℕ) → k < length xs → Every P xs → P (get_or xs k d)
every_at P d [] k l h = absurd (omega arith)
every_at P d (x ∷ xs) zero l h = h.0
every_at P d (x ∷ xs) (suc k) l h = every_at P d xs k (omega arith) h.1

obj_long : (o : Obj) → 1 ≤ length (put_obj o)
obj_long o = simp length-append (omega arith)

-- Rows: their count stands first, and entries after it.
unkeyed_length : (l : List Entry) → length (unkeyed l) ≡ length l
unkeyed_length [] = refl
unkeyed_length (e ∷ l) = ap suc (unkeyed_length l)

pub row_count : (w : DocRow) → (tail : List ℕ) × (put_row w ≡ put32 (size_of w) ++ tail)
row_count (map_of m) = (put_many (put_slot true) m, refl)
row_count (list_of l) = (put_many (put_slot false) (unkeyed l), ap (λ n. put32 n ++ put_many (put_slot false) (unkeyed l)) (unkeyed_length l))
row_count (text_of t) = (t, refl)

with_entries : (k : ObjType) (w : DocRow) → FitsKind k w → 0 < length (pairs w) → OfSlots (has_keys k) w
with_entries k w f l = grind (arith, of_slots)

slots_good : (keyed : Bool) (w : DocRow) → OfSlots keyed w → WritableRow w → Every (WritableSlot keyed) (pairs w)
slots_good keyed w o g = (o.able g).1

-- The number of an object's first entry.
abbrev count_to : Doc → ℕ → ℕ
count_to [] i = 0
count_to (o ∷ os) zero = 0
count_to (o ∷ os) (suc i) = length (pairs o.row) + count_to os i

number_is : (m : ℕ) (d : Doc) (i : ℕ) → i < length d → get_or (first_numbers m d) i 0 ≡ m + count_to d i
number_is m [] i l = absurd (omega arith)
number_is m (o ∷ os) zero l = omega arith
number_is m (o ∷ os) (suc i) l = number_is (m + length (pairs o.row)) os i (omega arith) ∙ add_assoc m (length (pairs o.row)) (count_to os i)

firsts_length : (m : ℕ) (d : Doc) → length (first_numbers m d) ≡ length d
firsts_length m [] = refl
firsts_length m (o ∷ os) = ap suc (firsts_length (m + length (pairs o.row)) os)

places_length : (at : ℕ) (d : Doc) → length (entry_offsets at d) ≡ entry_count d
places_length at [] = refl
places_length at (o ∷ os) =
    length-append (offsets (put_slot (has_keys o.kind)) (at + 24) (pairs o.row)) (entry_offsets (at + length (put_obj o)) os)
    ∙ (ap (λ n. n + length (entry_offsets (at + length (put_obj o)) os)) (offsets_length (put_slot (has_keys o.kind)) (at + 24) (pairs o.row))
    ∙ ap (λ n. length (pairs o.row) + n) (places_length (at + length (put_obj o)) os))

count_room : (d : Doc) (i n : ℕ) → i < length d → n < length (pairs (get_or d i no_obj).row) → count_to d i + n < entry_count d
count_room [] i n l h = absurd (omega arith)
count_room (o ∷ os) zero n l h = omega arith
count_room (o ∷ os) (suc i) n l h = grind (arith, count_room os i n)

-- An entry of the first object stands where its offset says.
in_row : (o : Obj) (n at : ℕ) (pre r : List ℕ) → FitsKind o.kind o.row → length pre ≡ at → n < length (pairs o.row)
    → (more : List ℕ) × (drop (get_or (offsets (put_slot (has_keys o.kind)) (at + 24) (pairs o.row)) n 0) (pre ++ (put_obj o ++ r)) ≡ put_slot (has_keys o.kind) (get_or (pairs o.row) n no_slot) ++ more)
in_row o n at pre r f e l =
    let k = has_keys o.kind in
    let es = pairs o.row in
    let a = put_head (head_of o) in let b = put32 (length es) in let m = put_many (put_slot k) es in
    let w : put_row o.row ≡ b ++ m = sym (with_entries o.kind o.row f (omega arith)).writes in
    let p = stands_at (put_slot k) no_slot es n (at + 24) (pre ++ (a ++ b)) r (length-append pre (a ++ b) ∙ ap (λ x. x + 24) e) l in
    let q : pre ++ ((a ++ put_row o.row) ++ r) ≡ (pre ++ (a ++ b)) ++ (m ++ r) =
    ap (λ t. pre ++ ((a ++ t) ++ r)) w ∙ (ap (λ t. pre ++ t) (ap (λ t. t ++ r) (sym (append_assoc a b m)) ∙ append_assoc (a ++ b) m r) ∙ sym (append_assoc pre (a ++ b) (m ++ r))) in
    (p.0, ap (λ t. drop (get_or (offsets (put_slot k) (at + 24) es) n 0) t) q ∙ p.1)

entry_place : (d : Doc) (i n at : ℕ) (pre r : List ℕ) → Every WritableObj d → length pre ≡ at → i < length d → n < length (pairs (get_or d i no_obj).row)
    → (more : List ℕ) × (drop (get_or (entry_offsets at d) (count_to d i + n) 0) (pre ++ (put_many put_obj d ++ r)) ≡ put_slot (has_keys (get_or d i no_obj).kind) (get_or (pairs (get_or d i no_obj).row) n no_slot) ++ more)
entry_place [] i n at pre r g e l h = absurd (omega arith)
entry_place (o ∷ os) zero n at pre r g e l h =
    let p = in_row o n at pre (put_many put_obj os ++ r) g.0.shape e h in
    let x = offsets (put_slot (has_keys o.kind)) (at + 24) (pairs o.row) in
    let j : get_or (x ++ entry_offsets (at + length (put_obj o)) os) (0 + n) 0 ≡ get_or x n 0 =
    ap (λ k. get_or (x ++ entry_offsets (at + length (put_obj o)) os) k 0) {x = 0 + n} {y = n} (omega arith)
    ∙ get_or_append_left x (entry_offsets (at + length (put_obj o)) os) 0 n (let z = offsets_length (put_slot (has_keys o.kind)) (at + 24) (pairs o.row) in omega arith) in
    (p.0, ap (λ k. drop k (pre ++ ((put_obj o ++ put_many put_obj os) ++ r))) j ∙ (ap (λ t. drop (get_or x n 0) (pre ++ t)) (append_assoc (put_obj o) (put_many put_obj os) r) ∙ p.1))
entry_place (o ∷ os) (suc i) n at pre r g e l h =
    let p = entry_place os i n (at + length (put_obj o)) (pre ++ put_obj o) r g.1 (length-append pre (put_obj o) ∙ ap (λ x. x + length (put_obj o)) e) (omega arith) h in
    let x = offsets (put_slot (has_keys o.kind)) (at + 24) (pairs o.row) in
    let y = entry_offsets (at + length (put_obj o)) os in
    let j : get_or (x ++ y) (length (pairs o.row) + count_to os i + n) 0 ≡ get_or y (count_to os i + n) 0 =
    ap (λ k. get_or (x ++ y) k 0) {x = length (pairs o.row) + count_to os i + n} {y = length x + (count_to os i + n)} (let z = offsets_length (put_slot (has_keys o.kind)) (at + 24) (pairs o.row) in omega arith)
    ∙ get_or-append-add x y (count_to os i + n) 0 in (
      p.0,
      ap (λ k. drop k (pre ++ ((put_obj o ++ put_many put_obj os) ++ r))) j
          ∙ (ap (λ t. drop (get_or y (count_to os i + n) 0) t) (ap (λ t. pre ++ t) (append_assoc (put_obj o) (put_many put_obj os) r) ∙ sym (append_assoc pre (put_obj o) (put_many put_obj os ++ r))) ∙ p.1),
    )

-- What drops to a part of known length begins within the bytes.
fits_from : (at : ℕ) (bs x y : List ℕ) → drop at bs ≡ x ++ y → 0 < length x → at ≤ length bs
fits_from at bs x y e l = let z : length bs - at ≡ length x + length y = sym (length-drop at bs) ∙ (ap length e ∙ length-append x y) in omega arith

module _ (bs starts : List ℕ) (objects i : ℕ) (B : Bytes bs) (said : is_some (parsed bs) ≡ true) (counted : objects ≡ length (doc_of bs)) (started : take objects starts ≡ offsets put_obj 4 (doc_of bs)) where
  whole : Whole bs (doc_of bs)
  whole = parsed_whole bs (doc_of bs) B (some_is (parsed bs) said)

  pub none_there : objects ≤ i → nth (doc_of bs) i ≡ none
  none_there h = ap first (drop_all i (doc_of bs) (omega arith))

  pub starts_room : objects ≤ length starts
  starts_room = omega (arith, sym (length-take objects starts) ∙ (ap length started ∙ offsets_length put_obj 4 (doc_of bs)))

  -- The object at a place, and the bytes after its head.
  pub record HeadRead : Type 0 where
    pub object : Obj
    pub more : List ℕ
    pub fits : get_or starts i 0 ≤ length bs
    pub is : nth (doc_of bs) i ≡ some object
    pub got : get_head (drop (get_or starts i 0) bs) ≡ Some (head_of object, put_row object.row ++ more)

  pub head_there : i < objects → HeadRead
  head_there h =
      let d = doc_of bs in
      let l : i < length d = omega arith in
      let o = get_or d i no_obj in
      let p = stands_at put_obj no_obj d i 4 (put32 (length d)) [] refl l in
      let a : get_or starts i 0 ≡ get_or (offsets put_obj 4 d) i 0 = sym (get_or-take objects starts i 0 h) ∙ ap (λ t. get_or t i 0) started in
      let e : drop (get_or starts i 0) bs ≡ put_obj o ++ p.0 =
      ap (λ k. drop k bs) a ∙ (ap (λ t. drop (get_or (offsets put_obj 4 d) i 0) t) (whole.whole ∙ ap (λ t. put32 (length d) ++ t) (sym (append-nil (put_many put_obj d)))) ∙ p.1) in
      let g = every_at WritableObj no_obj d i l whole.writable.1 in
      let m = obj_long o in
      record {
        object = o;
        more = p.0;
        fits = fits_from (get_or starts i 0) bs (put_obj o) p.0 e (omega arith);
        is = ap first (drop_more d i no_obj l);
        got = ap get_head (e ∙ append_assoc (put_head (head_of o)) (put_row o.row) p.0) ∙ law_head.back (head_of o) (put_row o.row ++ p.0) g.head_good;
      }

  -- What the reader of heads gives there.
  pub found_at : (r : Option (Head × Bor (List ℕ))) (x : List ℕ) → x ≡ drop (get_or starts i 0) bs → saw itself r ≡ get_head x → i < objects → FoundAt (doc_of bs) i r
  found_at None x q e h =
      let f = head_there h in
      let k : ◌≡◌ {A = Got Head} None (Some (head_of f.object, put_row f.object.row ++ f.more)) = e ∙ (ap get_head q ∙ f.got) in
      absurd cc
  found_at (Some p) x q e h =
      let f = head_there h in
      let k : ◌≡◌ {A = Got Head} (Some (p.0, p.1.now)) (Some (head_of f.object, put_row f.object.row ++ f.more)) = e ∙ (ap get_head q ∙ f.got) in
      record { object = f.object; more = f.more; there = f.is; heads = val_is p.0 (head_of f.object) p.1.now _ k; follows = rest_is p.0 (head_of f.object) p.1.now _ k }

-- What is at a place, as a member of the list.
nth_at : {X : Type 0} (d : X) (xs : List X) (i : ℕ) (x : X) → nth xs i ≡ some x → (i < length xs) × (get_or xs i d ≡ x)
nth_at d [] zero x e = absurd cc
nth_at d [] (suc i) x e = absurd cc
nth_at d (y ∷ xs) zero x e = (omega arith, cc)
nth_at d (y ∷ xs) (suc i) x e = let h = nth_at d xs i x e in (let l = h.0 in omega arith, h.1)

module _ (bs firsts places : List ℕ) (objects i : ℕ) (B : Bytes bs) (said : is_some (parsed bs) ≡ true) (counted : objects ≡ length (doc_of bs))
    (numbered : take objects firsts ≡ first_numbers 0 (doc_of bs)) (indexed : take (entry_count (doc_of bs)) places ≡ entry_offsets 4 (doc_of bs)) (o : Obj) (n : ℕ) (is : nth (doc_of bs) i ≡ some o) where
  abbrev at : ℕ
  at = get_or firsts i 0 + n

  -- The n-th entry of the object at that place.
  pub record SlotRead : Type 0 where
    pub slot : Slot
    pub more : List ℕ
    pub firsts_room : i < length firsts
    pub places_room : at < length places
    pub fits : get_or places at 0 ≤ length bs
    pub told : nth (pairs o.row) n ≡ some slot
    pub got : get_slot (has_keys o.kind) (drop (get_or places at 0) bs) ≡ Some (slot, more)

  module _ (h : n < length (pairs o.row)) where
    pub slot_there : SlotRead
    slot_there =
        let d = doc_of bs in
        let w = parsed_whole bs d B (some_is (parsed bs) said) in
        let here = nth_at no_obj d i o is in
        let l : i < length d = here.0 in
        let same = here.1 in
        let k = has_keys o.kind in
        let x = get_or (pairs o.row) n no_slot in
        let h' : n < length (pairs (get_or d i no_obj).row) = subst (λ (q : Obj). n < length (pairs q.row)) (sym same) h in
        let p = subst (λ (q : Obj). (more : List ℕ) × (drop (get_or (entry_offsets 4 d) (count_to d i + n) 0) (put32 (length d) ++ (put_many put_obj d ++ [])) ≡ put_slot (has_keys q.kind) (get_or (pairs q.row) n no_slot) ++ more)) same
        (entry_place d i n 4 (put32 (length d)) [] w.writable.1 refl l h') in
        let lo : i < objects = omega arith in
        let f : get_or firsts i 0 ≡ count_to d i = let a = sym (get_or-take objects firsts i 0 lo) ∙ (ap (λ t. get_or t i 0) numbered ∙ number_is 0 d i l) in omega arith in
        let c = count_room d i n l h' in
        let ca : at < entry_count d = omega arith in
        let rn : objects ≤ length firsts = omega (arith, sym (length-take objects firsts) ∙ (ap length numbered ∙ firsts_length 0 d)) in
        let ra : entry_count d ≤ length places = omega (arith, sym (length-take (entry_count d) places) ∙ (ap length indexed ∙ places_length 4 d)) in
        let a : get_or places at 0 ≡ get_or (entry_offsets 4 d) (count_to d i + n) 0 =
        sym (get_or-take (entry_count d) places at 0 ca) ∙ (ap (λ t. get_or t at 0) indexed ∙ ap (λ m. get_or (entry_offsets 4 d) (m + n) 0) f) in
        let e : drop (get_or places at 0) bs ≡ put_slot k x ++ p.0 =
        ap (λ m. drop m bs) a ∙ (ap (λ t. drop (get_or (entry_offsets 4 d) (count_to d i + n) 0) t) (w.whole ∙ ap (λ t. put32 (length d) ++ t) (sym (append-nil (put_many put_obj d)))) ∙ p.1) in
        let m = slot_long k x in
        let og = subst WritableObj same (every_at WritableObj no_obj d i l w.writable.1) in
        let good = every_at (WritableSlot k) no_slot (pairs o.row) n h (slots_good k o.row (with_entries o.kind o.row og.shape (omega arith)) og.row_good) in
        record {
          slot = x;
          more = p.0;
          firsts_room = omega arith;
          places_room = omega arith;
          fits = fits_from (get_or places at 0) bs (put_slot k x) p.0 e (omega arith);
          told = ap first (drop_more (pairs o.row) n no_slot h);
          got = ap (get_slot k) e ∙ (law_slot k).back x p.0 good;
        }

-- Rows by their kinds.
no_words : (k : ObjType) (t : List ℕ) → FitsKind k {W = List ℕ} {E = Entry} (text_of t) → is_text_kind k ≡ false → ⊥
no_words k t f e = grind arith

plain_row : (k : ObjType) (w : DocRow) → FitsKind k w → is_text_kind k ≡ false → text_of? w ≡ none
plain_row k w f e = grind (arith, no_words)

pairs_size : (k : ObjType) (w : DocRow) → FitsKind k w → is_text_kind k ≡ false → length (pairs w) ≡ size_of w
pairs_size k w f e = grind (arith, no_words, unkeyed_length)

words : (w : DocRow) → FitsKind Text w → (t : List ℕ) × (w ≡ text_of t)
words (map_of m) f = absurd f
words (list_of l) f = absurd f
words (text_of t) f = (t, refl)

text_row : (k : ObjType) (w : DocRow) → FitsKind k w → is_text_kind k ≡ true → (t : List ℕ) × (w ≡ text_of t)
text_row k w f e = grind arith

row_small : (w : DocRow) → WritableRow w → size_of w < 4294967296
row_small w g = grind (arith, unkeyed_length)

-- What follows the head of an object that was found.
module _ (bs : List ℕ) (i : ℕ) (B : Bytes bs) (said : is_some (parsed bs) ≡ true) (h : Head) (rest : List ℕ) (f : Found (doc_of bs) i h rest) where
  good : WritableObj f.object
  good =
      let here = nth_at no_obj (doc_of bs) i f.object f.there in
      subst WritableObj here.1 (every_at WritableObj no_obj (doc_of bs) i here.0 (parsed_whole bs (doc_of bs) B (some_is (parsed bs) said)).writable.1)

  pub kind_is : h.kind ≡ f.object.kind
  kind_is = ap (λ (x : Head). x.kind) f.heads

  size_read : get32 rest ≡ Some (size_of f.object.row, (row_count f.object.row).0 ++ f.more)
  size_read =
      let p = row_count f.object.row in
      ap get32 (f.follows ∙ (ap (λ t. t ++ f.more) p.1 ∙ append_assoc (put32 (size_of f.object.row)) p.0 f.more))
      ∙ law32.back (size_of f.object.row) (p.0 ++ f.more) (row_small f.object.row good.row_good)

  pub size_is : (v : ℕ) (r : List ℕ) → ◌≡◌ {A = Got ℕ} (Some (v, r)) (get32 rest) → v ≡ size_of f.object.row
  size_is v r e = val_is v (size_of f.object.row) r ((row_count f.object.row).0 ++ f.more) (e ∙ size_read)

  pub no_size : ◌≡◌ {A = Got ℕ} None (get32 rest) → ⊥
  no_size e = let q = e ∙ size_read in absurd cc

  pub size_told_lem : (v : ℕ) (r : List ℕ) → ◌≡◌ {A = Got ℕ} (Some (v, r)) (get32 rest) → v ≡ size_told (nth (doc_of bs) i)
  size_told_lem v r e = size_is v r e ∙ ap size_told (sym f.there)

  pub no_text : is_text_kind h.kind ≡ false → text_told (nth (doc_of bs) i) ≡ none
  no_text e = ap text_told f.there ∙ plain_row f.object.kind f.object.row good.shape (ap is_text_kind (sym kind_is) ∙ e)

  pub record TextRead : Type 0 where
    pub bytes : List ℕ
    pub told : text_told (nth (doc_of bs) i) ≡ some bytes
    pub got : get_text rest ≡ Some (bytes, f.more)

  pub text_there : is_text_kind h.kind ≡ true → TextRead
  text_there e =
      let t = text_row f.object.kind f.object.row good.shape (ap is_text_kind (sym kind_is) ∙ e) in
      record {
        bytes = t.0;
        told = ap text_told f.there ∙ ap text_of? t.1;
        got = ap get_text (f.follows ∙ ap (λ w. put_row w ++ f.more) t.1) ∙ law_text.back t.0 f.more (subst WritableRow t.1 good.row_good);
      }

  pub text_entries : (n : ℕ) → is_text_kind h.kind ≡ true → entry_told (nth (doc_of bs) i) n ≡ none
  text_entries n e =
      let t = text_row f.object.kind f.object.row good.shape (ap is_text_kind (sym kind_is) ∙ e) in
      ap (λ o. entry_told o n) f.there ∙ (ap (λ w. nth (pairs w) n) t.1 ∙ ap first (drop_all n [] (omega arith)))

  module _ (e : is_text_kind h.kind ≡ false) where
    pub entries_are : length (pairs f.object.row) ≡ size_of f.object.row
    entries_are = pairs_size f.object.kind f.object.row good.shape (ap is_text_kind (sym kind_is) ∙ e)

    pub no_entry_lem : (n : ℕ) → size_of f.object.row ≤ n → entry_told (nth (doc_of bs) i) n ≡ none
    no_entry_lem n l = ap (λ o. entry_told o n) f.there ∙ ap first (drop_all n (pairs f.object.row) (let z = entries_are in omega arith))

-- Bytes that pass a test one by one.
abbrev below256 : List ℕ → Bool
below256 [] = true
below256 (b ∷ bs) = ltb b 256 && below256 bs

pub each_below : (bs : List ℕ) → below256 bs ≡ true → (k : ℕ) → get_or bs k 0 < 256
each_below [] h k = omega arith
each_below (b ∷ bs) h zero = ltb-true b 256 (and_parts (ltb b 256) (below256 bs) h).0
each_below (b ∷ bs) h (suc k) = each_below bs (and_parts (ltb b 256) (below256 bs) h).1 k
