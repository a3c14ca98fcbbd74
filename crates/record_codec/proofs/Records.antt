-- The laws of identities, entries, rows and objects, and of whole records.
use Rattle.std.proofs.Common.{◌≡◌, ℕ, suc, ◌^◌, ◌<◌, ◌≤◌, Bool, true, false, cond, eqb, leb, List, [], ◌∷◌, ◌++◌, length, get_or, is_some, Some, None, Option, sym, refl, ap, ◌∙◌, subst, arith}
use Rattle.std.proofs.lemmas.List.{append-nil, nil_from_length}
use Rattle.std.proofs.lemmas.Bool.{le-leb, leb-true, eqb-true, cond-true}
use Rattle.types.specs.declared.types.OpId.{OpId}
use Rattle.types.specs.declared.types.ObjType.{ObjType}
use Rattle.types.specs.declared.types.ObjType.TheVariants.{Map, Table, List as Sequence, Text}
use Rattle.document.specs.declared.view.Head.{Head}
use Rattle.document.specs.Places.{unkeyed, pairs, head_of, ShapedObj}
use Rattle.document.specs.Laws.{rises}
use Rattle.meaning.specs.Lists.{Every}
use Rattle.meaning.specs.Entries.{Key, Content, Entry}
use Rattle.meaning.specs.Rows.{map_of, list_of, text_of}
use Rattle.meaning.specs.Documents.{DocRow, Doc, FitsKind, of_pairs, is_text_kind}
use Rattle.record_codec.specs.Codec.{Got, next, Bytes, get32, put32, get_text, put_text, get_list, put_list}
use Rattle.record_codec.specs.Layout.{get_content, put_content, get_id, put_id, get_flag, put_flag, get_key, put_key, Slot, get_slot, put_slot, has_keys, row_of, get_words, get_entries, get_row, put_row, get_kind, kind_code, get_head, put_head, object_as, get_obj, put_obj, ended, parsed, or_empty, doc_of, in_order, says, print, WritableText, WritableId, WritableContent, WritableKey, WritableSlot, WritableSlots, WritableRow, WritableHead, WritableObj, Writable}
use Rattle.record_codec.specs.Theorems.{Printed}
use Rattle.record_codec.proofs.Laws.{Law, Split, val_is, rest_is, law32, law_text, law_list, law_bind, law_last, law_good}
use Rattle.record_codec.proofs.Codes.{law_kind, law_flag}
use Rattle.record_codec.proofs.Contents.{law_content}

abbrev Small : ℕ → Type 0
Small n = n < 2 ^ 32

abbrev mk_id : ℕ → ℕ → OpId
mk_id c a = record { counter = c; actor = a }

pub law_id : Law get_id put_id WritableId
law_id =
    law_good get_id put_id put_id (λ x. Small x.counter × (Small x.actor × (mk_id x.counter x.actor ≡ x))) WritableId
    (law_bind get32 put32 Small (λ c r. next (get32 r) (λ a s. Some (mk_id c a, s))) (λ x. put32 x.actor) (λ c x. Small x.actor × (mk_id c x.actor ≡ x)) (λ x. x.counter)
    law32
    (λ c. law_last get32 put32 Small (mk_id c) (λ x. x.actor) law32 (λ a _. refl))
    (λ c x k. ap (λ (y : OpId). y.counter) (sym k.1)))
    (λ x k. (k.0, k.1.0)) (λ x k. (k.0, (k.1, refl))) (λ x k. refl)

back_key : (keyed : Bool) (k r : List ℕ) → WritableKey keyed k → get_key keyed (put_key keyed k ++ r) ≡ Some (k, r)
back_key keyed k r g = grind (arith, law_text.back)

forth_key : (keyed : Bool) (bs k r : List ℕ) → Bytes bs → get_key keyed bs ≡ Some (k, r) → Split (put_key keyed) (WritableKey keyed) bs k r
forth_key true bs k r B e = let s = law_text.forth bs k r B e in record { whole = s.whole; good = s.good; rest = s.rest }
forth_key false bs k r B e = record { whole = rest_is [] k bs r e; good = sym (val_is [] k bs r e); rest = subst Bytes (rest_is [] k bs r e) B }

law_key : (keyed : Bool) → Law (get_key keyed) (put_key keyed) (WritableKey keyed)
law_key keyed = record { back = back_key keyed; forth = forth_key keyed }

abbrev mk_slot : Key → Content → OpId → Bool → Slot
mk_slot k h i f = (k, record { content = h; ident = i; flag = f })

pub law_slot : (keyed : Bool) → Law (get_slot keyed) (put_slot keyed) (WritableSlot keyed)
law_slot keyed =
    law_good (get_slot keyed) (put_slot keyed) (put_slot keyed) (λ e. WritableKey keyed e.0 × (WritableContent e.1.content × (WritableId e.1.ident × (Unit {0} × (mk_slot e.0 e.1.content e.1.ident e.1.flag ≡ e))))) (WritableSlot keyed)
    (law_bind (get_key keyed) (put_key keyed) (WritableKey keyed) (λ k r. next (get_content r) (λ h s. next (get_id s) (λ i t. next (get_flag t) (λ f u. Some (mk_slot k h i f, u)))))
    (λ e. put_content e.1.content ++ (put_id e.1.ident ++ put_flag e.1.flag)) (λ k e. WritableContent e.1.content × (WritableId e.1.ident × (Unit {0} × (mk_slot k e.1.content e.1.ident e.1.flag ≡ e)))) (λ e. e.0)
    (law_key keyed)
    (λ k. law_bind get_content put_content WritableContent (λ h s. next (get_id s) (λ i t. next (get_flag t) (λ f u. Some (mk_slot k h i f, u))))
    (λ e. put_id e.1.ident ++ put_flag e.1.flag) (λ h e. WritableId e.1.ident × (Unit {0} × (mk_slot k h e.1.ident e.1.flag ≡ e))) (λ e. e.1.content)
    law_content
    (λ h. law_bind get_id put_id WritableId (λ i t. next (get_flag t) (λ f u. Some (mk_slot k h i f, u)))
    (λ e. put_flag e.1.flag) (λ i e. Unit {0} × (mk_slot k h i e.1.flag ≡ e)) (λ e. e.1.ident)
    law_id
    (λ i. law_last get_flag put_flag (λ b. Unit {0}) (mk_slot k h i) (λ e. e.1.flag) law_flag (λ f _. refl))
    (λ i e q. ap (λ (y : Slot). y.1.ident) (sym q.1)))
    (λ h e q. ap (λ (y : Slot). y.1.content) (sym q.1.1)))
    (λ k e q. ap (λ (y : Slot). y.0) (sym q.1.1.1)))
    (λ e k. record { key_good = k.0; content_good = k.1.0; ident_good = k.1.1.0 })
    (λ e k. (k.key_good, (k.content_good, (k.ident_good, (tt, refl)))))
    (λ e k. refl)

pub law_slots : (keyed : Bool) → Law (get_list (get_slot keyed)) (put_list (put_slot keyed)) (WritableSlots keyed)
law_slots keyed = law_list (get_slot keyed) (put_slot keyed) (WritableSlot keyed) (law_slot keyed)

-- Rows: what stands in a list has no keys, and nothing is lost by that.
unkeyed_again : (m : List Slot) → Every (WritableSlot false) m → unkeyed (of_pairs m) ≡ m
unkeyed_again [] g = refl
unkeyed_again (x ∷ m) g = ap (λ (k : Key). (k, x.1) ∷ unkeyed (of_pairs m)) (sym g.0.key_good) ∙ ap (λ t. x ∷ t) (unkeyed_again m g.1)

pub pairs_again : (l : List Entry) → of_pairs (unkeyed l) ≡ l
pairs_again [] = refl
pairs_again (e ∷ l) = ap (λ t. e ∷ t) (pairs_again l)

pub slots_again : (keyed : Bool) (m : List Slot) → WritableSlots keyed m → pairs (row_of keyed m) ≡ m
slots_again keyed m g = grind (arith, unkeyed_again)

row_shape : (k : ObjType) (m : List Slot) → is_text_kind k ≡ false → FitsKind k (row_of (has_keys k) m)
row_shape k m e = grind arith

row_writable : (keyed : Bool) (m : List Slot) → WritableSlots keyed m → WritableRow (row_of keyed m)
row_writable keyed m g = grind (arith, unkeyed_again)

-- A row of entries, told by its entries.
pub record OfSlots (keyed : Bool) (w : DocRow) : Type 0 where
  pub again : row_of keyed (pairs w) ≡ w
  pub writes : put_list (put_slot keyed) (pairs w) ≡ put_row w
  pub able : WritableRow w → WritableSlots keyed (pairs w)

of_map : (m : List Slot) → OfSlots true (map_of m)
of_map m = record { again = refl; writes = refl; able = λ g. g }

of_list : (l : List Entry) → OfSlots false (list_of l)
of_list l = record { again = ap list_of (pairs_again l); writes = refl; able = λ g. g }

pub of_slots : (k : ObjType) (w : DocRow) → is_text_kind k ≡ false → FitsKind k w → OfSlots (has_keys k) w
of_slots k w e f = grind (arith, of_map, of_list)

abbrev RowGood : ObjType → DocRow → Type 0
RowGood k w = FitsKind k w × WritableRow w

law_entries : (k : ObjType) → is_text_kind k ≡ false → Law (get_entries (has_keys k)) put_row (RowGood k)
law_entries k e =
    law_good (get_entries (has_keys k)) (λ w. put_list (put_slot (has_keys k)) (pairs w)) put_row (λ w. WritableSlots (has_keys k) (pairs w) × (row_of (has_keys k) (pairs w) ≡ w)) (RowGood k)
    (law_last (get_list (get_slot (has_keys k))) (put_list (put_slot (has_keys k))) (WritableSlots (has_keys k)) (row_of (has_keys k)) pairs (law_slots (has_keys k)) (slots_again (has_keys k)))
    (λ w g. (subst (FitsKind k) g.1 (row_shape k (pairs w) e), subst WritableRow g.1 (row_writable (has_keys k) (pairs w) g.0)))
    (λ w g. ((of_slots k w e g.0).able g.1, (of_slots k w e g.0).again))
    (λ w g. (of_slots k w e g.0).writes)

abbrev text_in : DocRow → List ℕ
text_in (map_of m) = []
text_in (list_of l) = []
text_in (text_of t) = t

law_words : Law get_words put_row (RowGood Text)
law_words =
    law_good get_words (λ w. put_text (text_in w)) put_row (λ w. WritableText (text_in w) × (text_of (text_in w) ≡ w)) (RowGood Text)
    (law_last get_text put_text WritableText text_of text_in law_text same) to from puts
  where
    same : (t : List ℕ) → WritableText t → text_in (text_of t) ≡ t
    same t g = refl

    to : (w : DocRow) → WritableText (text_in w) × (text_of (text_in w) ≡ w) → RowGood Text w
    to w g = subst (RowGood Text) g.1 (tt, g.0)

    from : (w : DocRow) → RowGood Text w → WritableText (text_in w) × (text_of (text_in w) ≡ w)
    from (map_of m) g = absurd g.0
    from (list_of l) g = absurd g.0
    from (text_of t) g = (g.1, refl)

    puts : (w : DocRow) → RowGood Text w → put_text (text_in w) ≡ put_row w
    puts (map_of m) g = absurd g.0
    puts (list_of l) g = absurd g.0
    puts (text_of t) g = refl

pub law_row : (k : ObjType) → Law (get_row k) put_row (RowGood k)
law_row Map = law_entries Map refl
law_row Table = law_entries Table refl
law_row Sequence = law_entries Sequence refl
law_row Text = law_words

abbrev mk_head : OpId → OpId → ObjType → Head
mk_head i p k = record { id = record { 0 = i }; parent = record { 0 = p }; kind = k }

pub law_head : Law get_head put_head WritableHead
law_head =
    law_good get_head put_head put_head (λ h. WritableId h.id.0 × (WritableId h.parent.0 × (Unit {0} × (mk_head h.id.0 h.parent.0 h.kind ≡ h)))) WritableHead
    (law_bind get_id put_id WritableId (λ i r. next (get_id r) (λ p s. next (get_kind s) (λ k t. Some (mk_head i p k, t))))
    (λ h. put_id h.parent.0 ++ put32 (kind_code h.kind)) (λ i h. WritableId h.parent.0 × (Unit {0} × (mk_head i h.parent.0 h.kind ≡ h))) (λ h. h.id.0)
    law_id
    (λ i. law_bind get_id put_id WritableId (λ p s. next (get_kind s) (λ k t. Some (mk_head i p k, t)))
    (λ h. put32 (kind_code h.kind)) (λ p h. Unit {0} × (mk_head i p h.kind ≡ h)) (λ h. h.parent.0)
    law_id
    (λ p. law_last get_kind (λ k. put32 (kind_code k)) (λ k. Unit {0}) (mk_head i p) (λ h. h.kind) law_kind (λ k _. refl))
    (λ p h q. ap (λ (y : Head). y.parent.0) (sym q.1)))
    (λ i h q. ap (λ (y : Head). y.id.0) (sym q.1.1)))
    (λ h k. (k.0, k.1.0)) (λ h k. (k.0, (k.1, (tt, refl)))) (λ h k. refl)

pub law_obj : Law get_obj put_obj WritableObj
law_obj =
    law_good get_obj put_obj put_obj (λ o. WritableHead (head_of o) × (RowGood o.kind o.row × (object_as (head_of o) o.row ≡ o))) WritableObj
    (law_bind get_head put_head WritableHead (λ h t. next (get_row h.kind t) (λ w u. Some (object_as h w, u)))
    (λ o. put_row o.row) (λ h o. RowGood h.kind o.row × (object_as h o.row ≡ o)) head_of
    law_head
    (λ h. law_last (get_row h.kind) put_row (RowGood h.kind) (object_as h) (λ o. o.row) (law_row h.kind) (λ w _. refl))
    (λ h o q. ap head_of (sym q.1)))
    (λ o k. record { head_good = k.0; row_good = k.1.0.1; shape = k.1.0.0 })
    (λ o k. (k.head_good, ((k.shape, k.row_good), refl)))
    (λ o k. refl)

pub law_doc : Law (get_list get_obj) print Writable
law_doc = law_list get_obj put_obj WritableObj law_obj

-- Whole records.
kept : {A : Type 0} (b : Bool) (x : Option A) (d : A) → cond b x None ≡ Some d → (b ≡ true) × (x ≡ Some d)
kept b x d e = grind arith

-- What was read of all the bytes.
pub record Whole (bs : List ℕ) (d : Doc) : Type 0 where
  pub whole : bs ≡ print d
  pub writable : Writable d
  pub short : length bs ≤ 65536

whole_of : (bs : List ℕ) (d : Doc) (x : Got Doc) → get_list get_obj bs ≡ x → Bytes bs → length bs ≤ 65536 → ended x ≡ Some d → Whole bs d
whole_of bs d None q B l e = absurd cc
whole_of bs d (Some x) q B l e =
    let t = kept (eqb (length x.1) 0) (Some x.0) d e in
    let i : x.0 ≡ d = cc t.1 in
    let s = law_doc.forth bs x.0 x.1 B q in
    let n : x.1 ≡ [] = nil_from_length x.1 (eqb-true (length x.1) 0 t.0) in
    record { whole = s.whole ∙ (ap (λ r. print x.0 ++ r) n ∙ (append-nil (print x.0) ∙ ap print i)); writable = subst Writable i s.good; short = l }

pub parsed_whole : (bs : List ℕ) (d : Doc) → Bytes bs → parsed bs ≡ Some d → Whole bs d
parsed_whole bs d B e = let t : (leb (length bs) 65536 ≡ true) × (ended (get_list get_obj bs) ≡ Some d) = grind arith in whole_of bs d (get_list get_obj bs) refl B (leb-true (length bs) 65536 t.0) t.1

pub record Ordered (bs : List ℕ) (d : Doc) : Type 0 where
  pub parses : parsed bs ≡ Some d
  pub rising : rises d ≡ true

pub said_parses : (bs : List ℕ) (d : Doc) → says bs ≡ Some d → Ordered bs d
said_parses bs d e = grind arith

-- The three theorems.
pub written_is_read : (d : Doc) → Writable d → rises d ≡ true → length (print d) ≤ 65536 → says (print d) ≡ Some d
written_is_read d g u l =
    ap in_order
    (cond-true (leb (length (print d)) 65536) (ended (get_list get_obj (print d))) None (le-leb (length (print d)) 65536 l)
    ∙ (ap (λ bs. ended (get_list get_obj bs)) (sym (append-nil (print d)))
    ∙ ap ended (law_doc.back d [] g)))
    ∙ cond-true (rises d) (Some d) None u

pub read_was_written : (bs : List ℕ) (d : Doc) → Bytes bs → says bs ≡ Some d → Printed bs d
read_was_written bs d B e =
    let o = said_parses bs d e in
    let w = parsed_whole bs d B o.parses in
    record { whole = w.whole; writable = w.writable; rising = o.rising; short = w.short }

pub one_document : (d e : Doc) → Writable d → Writable e → print d ≡ print e → d ≡ e
one_document d e g h q = val_is d e [] [] (sym (law_doc.back d [] g) ∙ (ap (λ bs. get_list get_obj (bs ++ [])) q ∙ law_doc.back e [] h))

-- Bytes that are told one by one.
pub all_bytes : (bs : List ℕ) → ((k : ℕ) → get_or bs k 0 < 256) → Bytes bs
all_bytes [] f = tt
all_bytes (b ∷ bs) f = (f 0, all_bytes bs (λ k. f (suc k)))

-- The rows of a record have their kinds' shapes.
shapes_of : (d : Doc) → Every WritableObj d → Every ShapedObj d
shapes_of [] g = tt
shapes_of (o ∷ os) g = (g.0.shape, shapes_of os g.1)

pub some_is : (x : Option Doc) → is_some x ≡ true → x ≡ Some (or_empty x)
some_is x h = grind arith

pub parsed_shapes : (bs : List ℕ) → ((k : ℕ) → get_or bs k 0 < 256) → is_some (parsed bs) ≡ true → Every ShapedObj (doc_of bs)
parsed_shapes bs typed said = shapes_of (doc_of bs) (parsed_whole bs (doc_of bs) (all_bytes bs typed) (some_is (parsed bs) said)).writable.1
