-- A row that was read, and one object after another, with the index so far.
use Rattle.std.proofs.Common.{◌≡◌, ℕ, ◌+◌, ◌-◌, ◌*◌, ◌<◌, ◌≤◌, Bool, true, false, not, List, [], ◌∷◌, ◌++◌, length, take, set, Some, None, Option, sym, refl, ap, ◌∙◌, subst, append_assoc, add_assoc, arith, length-append}
use Rattle.std.proofs.lemmas.List.{append-nil, take_more_set}
use Rattle.std.proofs.lemmas.Bool.{cond-true, cond-false}
use denote.Enum.Bare.{sameb}
use Rattle.types.specs.contracts.types.ObjType.{the_type}
use Rattle.types.specs.Kinds.{is_sequence}
use Rattle.types.specs.declared.types.ObjType.{ObjType}
use Rattle.types.specs.declared.types.ObjType.TheVariants.{Map, Table, List as Sequence, Text}
use Rattle.document.specs.declared.view.Head.{Head}
use Rattle.document.specs.Places.{pairs}
use Rattle.meaning.specs.Rows.{text_of}
use Rattle.meaning.specs.Documents.{DocRow, Obj, Doc, is_text_kind}
use Rattle.record_codec.specs.Codec.{next, Bytes, get32, put32, get_text, get_many, put_many}
use Rattle.record_codec.specs.Layout.{Slot, get_slot, put_slot, row_of, has_keys, get_words, get_entries, get_row, put_row, get_head, put_head, object_as, get_obj, put_obj, WritableSlot, WritableObj}
use Rattle.record_codec.proofs.Laws.{law32, forth_many}
use Rattle.record_codec.proofs.Records.{all_bytes, law_slot, law_slots, slots_again, law_head, law_row, law_obj}
use Rattle.record.specs.Index.{offsets, entry_offsets, first_numbers, entry_count}
use Rattle.record.specs.declared.cursor.Cursor.{Cursor}
use Rattle.record.specs.Reading.{Ran, RanRow, IndexesEntries, IndexesRow, RanAll}
use Rattle.record.proofs.Indexing.{Going, halted, finished, goes_on, slot_long}

pub text_row : (k : ObjType) (total from : ℕ) (bs old t r : List ℕ) → is_text_kind k ≡ true → get_text bs ≡ Some (t, r) → RanRow k total from bs old old from r
text_row k total from bs old t r h e = record {
  row = text_of t;
  is = cond-true (is_text_kind k) (get_words bs) (get_entries (has_keys k) bs) h ∙ ap (λ x. next x (λ t r. Some (text_of t, r))) e;
  next = omega arith;
  indexed = sym (append-nil (take from old));
}

pub entries_row : (k : ObjType) (total from : ℕ) (bs old new : List ℕ) (keyed : Bool) (n : ℕ) (r end : List ℕ) (es : List Slot) → Bytes bs → length bs ≤ total → is_text_kind k ≡ false → keyed ≡ has_keys k → get32 bs ≡ Some (n, r)
    → Ran (get_slot keyed) (put_slot keyed) n total from r old new end es → RanRow k total from bs old new (from + n) end
entries_row k total from bs old new keyed n r end es B fit h q e ran' =
    let ran = subst (λ y. Ran (get_slot y) (put_slot y) n total from r old new end es) q ran' in
    let s = law32.forth bs n r B e in
    let l : length bs ≡ 4 + length r = ap length s.whole ∙ length-append (put32 n) r in
    let t = (law_slots (has_keys k)).forth bs es end B (ap (λ x. next x (λ n r. get_many (get_slot (has_keys k)) n r)) e ∙ ran.is) in
    let a = slots_again (has_keys k) es t.good in
    record {
      row = row_of (has_keys k) es;
      is = cond-false (is_text_kind k) (get_words bs) (get_entries (has_keys k) bs) h
          ∙ (ap (λ x. next (next x (λ n r. get_many (get_slot (has_keys k)) n r)) (λ m r. Some (row_of (has_keys k) m, r))) e
          ∙ ap (λ x. next x (λ m r. Some (row_of (has_keys k) m, r))) ran.is);
      next = ap (λ m. from + m) (sym (forth_many (get_slot (has_keys k)) (put_slot (has_keys k)) (WritableSlot (has_keys k)) (law_slot (has_keys k)) n r es end s.rest ran.is).sized ∙ ap length (sym a));
      indexed = ran.indexed ∙ (ap (λ m. take from old ++ offsets (put_slot (has_keys k)) m es) {x = total - length r} {y = (total - length bs) + 4} (omega arith)
          ∙ ap (λ m. take from old ++ offsets (put_slot (has_keys k)) (total - length bs + 4) m) (sym a));
    }

-- The kind of a row, as the code tests it.
pub text_is : (k : ObjType) (b : Bool) → b ≡ sameb the_type k Text → is_text_kind k ≡ b
text_is Map b e = sym e
text_is Table b e = sym e
text_is Sequence b e = sym e
text_is Text b e = sym e

pub not_text : (k : ObjType) (b : Bool) → b ≡ not (sameb the_type k Text) → b ≡ true → is_text_kind k ≡ false
not_text k b e t = text_is k _ refl ∙ not_true _ (sym e ∙ t)
  where
    not_true : (b : Bool) → not b ≡ true → b ≡ false
    not_true b e = grind arith

pub is_text : (k : ObjType) (b : Bool) → b ≡ not (sameb the_type k Text) → b ≡ false → is_text_kind k ≡ true
is_text k b e t = text_is k _ refl ∙ not_false _ (sym e ∙ t)
  where
    not_false : (b : Bool) → not b ≡ false → b ≡ true
    not_false b e = grind arith

pub keys_are : (k : ObjType) (b : Bool) → b ≡ is_sequence k → not b ≡ has_keys k
keys_are k b e = grind arith

-- The entries of a row, read behind its count.
pub row_indexed : (k : ObjType) (from mid : Cursor) (old new : List ℕ) {keyed : Bool} {n : ℕ} {r : List ℕ} (res : Option Cursor) → is_text_kind k ≡ false → keyed ≡ has_keys k → Some (n, r) ≡ get32 from.rest.now
    → mid.total ≡ from.total → mid.rest.now ≡ r → mid.entries ≡ from.entries → IndexesEntries keyed n mid old new res → IndexesRow k from old new res
row_indexed k from mid old new res h q e t m z f = grind (arith, entries_row, all_bytes)

-- One more object at the end.
entry_offsets_push : (at : ℕ) (d : Doc) (o : Obj) → entry_offsets at (d ++ o ∷ []) ≡ entry_offsets at d ++ offsets (put_slot (has_keys o.kind)) ((at + length (put_many put_obj d)) + 24) (pairs o.row)
entry_offsets_push at [] o = append-nil (offsets (put_slot (has_keys o.kind)) (at + 24) (pairs o.row)) ∙ ap (λ n. offsets (put_slot (has_keys o.kind)) (n + 24) (pairs o.row)) {x = at} {y = at + 0} (omega arith)
entry_offsets_push at (q ∷ d) o =
    ap (λ t. offsets (put_slot (has_keys q.kind)) (at + 24) (pairs q.row) ++ t)
    (entry_offsets_push (at + length (put_obj q)) d o
    ∙ ap (λ n. entry_offsets (at + length (put_obj q)) d ++ offsets (put_slot (has_keys o.kind)) (n + 24) (pairs o.row)) (add_assoc at (length (put_obj q)) (length (put_many put_obj d)) ∙ ap (λ n. at + n) (sym (length-append (put_obj q) (put_many put_obj d)))))
    ∙ sym (append_assoc (offsets (put_slot (has_keys q.kind)) (at + 24) (pairs q.row)) (entry_offsets (at + length (put_obj q)) d) (offsets (put_slot (has_keys o.kind)) ((at + length (put_many put_obj (q ∷ d))) + 24) (pairs o.row)))

first_numbers_push : (n : ℕ) (d : Doc) (o : Obj) → first_numbers n (d ++ o ∷ []) ≡ first_numbers n d ++ (n + entry_count d) ∷ []
first_numbers_push n [] o = ap (λ m. m ∷ []) {x = n} {y = n + 0} (omega arith)
first_numbers_push n (q ∷ d) o = ap (λ t. n ∷ t) (first_numbers_push (n + length (pairs q.row)) d o ∙ ap (λ m. first_numbers (n + length (pairs q.row)) d ++ m ∷ []) (add_assoc n (length (pairs q.row)) (entry_count d)))

entry_count_push : (d : Doc) (o : Obj) → entry_count (d ++ o ∷ []) ≡ entry_count d + length (pairs o.row)
entry_count_push [] o = omega arith
entry_count_push (q ∷ d) o = ap (λ n. length (pairs q.row) + n) (entry_count_push d o) ∙ sym (add_assoc (length (pairs q.row)) (entry_count d) (length (pairs o.row)))

many_long : (keyed : Bool) (es : List Slot) → 16 * length es ≤ length (put_many (put_slot keyed) es)
many_long keyed [] = omega arith
many_long keyed (e ∷ es) = grind (arith, length-append, many_long keyed es, slot_long)

-- A row has a count and at least 16 bytes for each entry.
row_long : (w : DocRow) → 4 + 16 * length (pairs w) ≤ length (put_row w)
row_long w = grind (arith, many_long, length-append)

-- In the midst of the objects: i are done with n entries, r is left.
pub record Filling (i n total : ℕ) (bs starts firsts places r : List ℕ) (done : Doc) : Type 0 where
  pub going : Going put_obj WritableObj i total 0 bs [] starts r done
  pub numbered : take i firsts ≡ first_numbers 0 done
  pub counted : n ≡ entry_count done
  pub indexed : take n places ≡ entry_offsets (total - length bs) done
  pub entries_room : 16 * n + length r ≤ total
  pub objects_room : 24 * i + length r ≤ total

pub filling_starts : (total : ℕ) (bs starts firsts places : List ℕ) → Bytes bs → length bs ≤ total → Filling 0 0 total bs starts firsts places bs []
filling_starts total bs starts firsts places B fit = record {
  going = record { whole = refl; good = tt; sized = refl; rest = B; indexed = refl };
  numbered = refl;
  counted = refl;
  indexed = refl;
  entries_room = omega arith;
  objects_room = omega arith;
}

module _ {i n total : ℕ} {bs starts firsts places r : List ℕ} {done : Doc} (now : Filling i n total bs starts firsts places r done) where
  pub no_head : (count : ℕ) → i < count → get_head r ≡ None → get_many get_obj count bs ≡ None
  no_head count l e = halted law_obj now.going count l (ap (λ x. next x (λ h t. next (get_row h.kind t) (λ w u. Some (object_as h w, u)))) e)

  pub filling_ends : (count : ℕ) → i ≡ count → RanAll count total bs starts firsts places r done
  filling_ends count e =
      let ran = finished law_obj now.going count e in
      record {
        is = ran.is;
        started = ap (λ k. take k starts) {x = count} {y = 0 + count} (omega arith) ∙ ran.indexed;
        numbered = ap (λ k. take k firsts) (sym e) ∙ now.numbered;
        indexed = ap (λ k. take k places) (sym now.counted) ∙ now.indexed;
      }

  module _ {h : Head} {more : List ℕ} (e : get_head r ≡ Some (h, more)) where
    after_head : length r ≡ 20 + length more
    after_head = ap length (law_head.forth r h more now.going.rest e).whole ∙ length-append (put_head h) more

    pub row_room : length more ≤ length r
    row_room = let l = after_head in omega arith

    pub no_row : (count : ℕ) → i < count → get_row h.kind more ≡ None → get_many get_obj count bs ≡ None
    no_row count l f = halted law_obj now.going count l
        (ap (λ x. next x (λ h t. next (get_row h.kind t) (λ w u. Some (object_as h w, u)))) e
        ∙ ap (λ x. next x (λ w u. Some (object_as h w, u))) f)

    pub filling_on : (places' : List ℕ) (n' : ℕ) (end : List ℕ) → (ran : RanRow h.kind total n more places places' n' end) → length bs ≤ total → i < length starts → i < length firsts
        → Filling (i + 1) n' total bs (set starts i (total - length r)) (set firsts i n) places' end (done ++ object_as h ran.row ∷ [])
    filling_on places' n' end ran fit ls lf =
        let o : Obj = object_as h ran.row in
        let g = now.going in
        let q : get_obj r ≡ Some (o, end) =
        ap (λ x. next x (λ h t. next (get_row h.kind t) (λ w u. Some (object_as h w, u)))) e
        ∙ ap (λ x. next x (λ w u. Some (object_as h w, u))) ran.is in
        let z : 0 + i ≡ i = omega arith in
        let g' = subst (λ k. Going put_obj WritableObj (i + 1) total 0 bs [] (set starts k (total - length r)) end (done ++ o ∷ [])) z
        (goes_on law_obj g o end fit (omega arith) q) in
        let a = after_head in
        let B = (law_head.forth r h more g.rest e).rest in
        let b : length more ≡ length (put_row ran.row) + length end = ap length ((law_row h.kind).forth more ran.row end B ran.is).whole ∙ length-append (put_row ran.row) end in
        let c = row_long ran.row in
        let l : length bs ≡ length (put_many put_obj done) + length r = ap length g.whole ∙ length-append (put_many put_obj done) r in
        let er = now.entries_room in let or = now.objects_room in let nx = ran.next in
        record {
          going = g';
          numbered = take_more_set firsts i n lf ∙ (ap (λ t. t ++ n ∷ []) now.numbered ∙ (ap (λ m. first_numbers 0 done ++ m ∷ []) (now.counted ∙ zero_plus (entry_count done)) ∙ sym (first_numbers_push 0 done o)));
          counted = ran.next ∙ (ap (λ m. m + length (pairs ran.row)) now.counted ∙ sym (entry_count_push done o));
          indexed = ran.indexed ∙ (ap (λ t. t ++ offsets (put_slot (has_keys h.kind)) (total - length more + 4) (pairs ran.row)) now.indexed
              ∙ (ap (λ m. entry_offsets (total - length bs) done ++ offsets (put_slot (has_keys h.kind)) m (pairs ran.row)) {x = total - length more + 4} {y = ((total - length bs) + length (put_many put_obj done)) + 24} (omega arith)
              ∙ sym (entry_offsets_push (total - length bs) done o)));
          entries_room = omega arith;
          objects_room = omega arith;
        }
      where
        zero_plus : (m : ℕ) → m ≡ 0 + m
        zero_plus m = omega arith
