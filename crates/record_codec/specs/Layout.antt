-- The layout of a shelf record: what each part says, and how it is written.
use Rattle.std.specs.Prelude.{◌≡◌, ℕ, ◌^◌, ◌<◌, Bool, true, false, cond, List, [], ◌++◌, length, Some, None, Option, FitsSigned, ◌==◌, nat_le}
use Rattle.std.proofs.Common.{to_z, of_z}
use Rattle.std.specs.Int.{w64}
use Rattle.types.specs.Limits.{limits}
use Rattle.types.specs.declared.types.OpId.{OpId}
use Rattle.types.specs.declared.types.ObjType.{ObjType}
use Rattle.types.specs.declared.types.ObjType.TheVariants.{Map, Table, List as Sequence, Text}
use Rattle.document.specs.declared.view.Head.{Head}
use Rattle.document.specs.Places.{unkeyed, head_of}
use Rattle.document.specs.Laws.{rises}
use Rattle.meaning.specs.Lists.{Every}
use Rattle.meaning.specs.Entries.{Key, null, boolean, int, uint, timestamp, counter, str, bytes, Content, scalar_of, object_of, Entry}
use Rattle.meaning.specs.Rows.{map_of, list_of, text_of}
use Rattle.meaning.specs.Documents.{DocRow, Obj, Doc, FitsKind, of_pairs, is_text_kind}
use Rattle.record_codec.specs.declared.entry_type.EntryType.{EntryType}
use Rattle.record_codec.specs.declared.entry_type.EntryType.TheVariants as ty
use Rattle.record_codec.specs.Codec.{Got, next, decide, Bytes, get32, put32, get64, put64, get_text, put_text, get_list, put_list}

-- What a code stands for: an entry's type, an object's kind, a conflict flag.
abbrev pub type_at : ℕ → Option EntryType
type_at n = cond (n == 0) (Some ty.Null) (cond (n == 1) (Some ty.False) (cond (n == 2) (Some ty.True) (cond (n == 3) (Some ty.Int) (cond (n == 4) (Some ty.Uint) (cond (n == 5) (Some ty.Timestamp) (cond (n == 6) (Some ty.Counter) (cond (n == 7) (Some ty.Str) (cond (n == 8) (Some ty.Bytes) (cond (n == 9) (Some (ty.Object Map)) (cond (n == 10) (Some (ty.Object Table)) (cond (n == 11) (Some (ty.Object Sequence)) (cond (n == 12) (Some (ty.Object Text)) None))))))))))))

abbrev pub kind_at : ℕ → Option ObjType
kind_at n = cond (n == 0) (Some Map) (cond (n == 1) (Some Table) (cond (n == 2) (Some Sequence) (cond (n == 3) (Some Text) None)))

abbrev pub flag_at : ℕ → Option Bool
flag_at n = cond (n == 0) (Some false) (cond (n == 1) (Some true) None)

-- The content that follows each type; signed numbers are in two's complement.
abbrev pub get_content_of : EntryType → List ℕ → Got Content
get_content_of ty.Null bs = Some (scalar_of null, bs)
get_content_of ty.False bs = Some (scalar_of (boolean false), bs)
get_content_of ty.True bs = Some (scalar_of (boolean true), bs)
get_content_of ty.Int bs = next (get64 bs) (λ n r. Some (scalar_of (int (to_z w64 n)), r))
get_content_of ty.Uint bs = next (get64 bs) (λ n r. Some (scalar_of (uint n), r))
get_content_of ty.Timestamp bs = next (get64 bs) (λ n r. Some (scalar_of (timestamp (to_z w64 n)), r))
get_content_of ty.Counter bs = next (get64 bs) (λ n r. Some (scalar_of (counter (to_z w64 n)), r))
get_content_of ty.Str bs = next (get_text bs) (λ t r. Some (scalar_of (str t), r))
get_content_of ty.Bytes bs = next (get_text bs) (λ t r. Some (scalar_of (bytes t), r))
get_content_of (ty.Object k) bs = Some (object_of k, bs)

-- A type's code and then its content.
abbrev pub get_content : List ℕ → Got Content
get_content bs = next (get32 bs) (λ n r. decide (type_at n) (λ t. get_content_of t r))

-- An identity: counter and actor.
abbrev pub get_id : List ℕ → Got OpId
get_id bs = next (get32 bs) (λ c r. next (get32 r) (λ a s. Some (record { counter = c; actor = a }, s)))

abbrev pub get_flag : List ℕ → Got Bool
get_flag bs = next (get32 bs) (λ n r. decide (flag_at n) (λ b. Some (b, r)))

-- A key where the row has keys; elsewhere the empty one, which takes no bytes.
abbrev pub get_key : Bool → List ℕ → Got Key
get_key true bs = get_text bs
get_key false bs = Some ([], bs)

-- An entry with its key.
abbrev pub Slot : Type 0
Slot = Key × Entry

-- An entry: its key, then type, content, identity and flag.
abbrev pub get_slot : Bool → List ℕ → Got Slot
get_slot keyed bs = next (get_key keyed bs) (λ k r. next (get_content r) (λ h s. next (get_id s) (λ i t. next (get_flag t) (λ f u. Some ((k, record { content = h; ident = i; flag = f }), u)))))

-- Maps and tables have keys.
abbrev pub has_keys : ObjType → Bool
has_keys Map = true
has_keys Table = true
has_keys Sequence = false
has_keys Text = false

-- The row that its entries make.
abbrev pub row_of : Bool → List Slot → DocRow
row_of true m = map_of m
row_of false m = list_of (of_pairs m)

-- A row of that kind: a text's bytes, or the entries.
abbrev pub get_words : List ℕ → Got DocRow
get_words bs = next (get_text bs) (λ t r. Some (text_of t, r))

abbrev pub get_entries : Bool → List ℕ → Got DocRow
get_entries keyed bs = next (get_list (get_slot keyed) bs) (λ m r. Some (row_of keyed m, r))

abbrev pub get_row : ObjType → List ℕ → Got DocRow
get_row k bs = cond (is_text_kind k) (get_words bs) (get_entries (has_keys k) bs)

abbrev pub get_kind : List ℕ → Got ObjType
get_kind bs = next (get32 bs) (λ n r. decide (kind_at n) (λ k. Some (k, r)))

-- What stands before a row: the object's identity, its parent's, its kind.
abbrev pub get_head : List ℕ → Got Head
get_head bs = next (get_id bs) (λ i r. next (get_id r) (λ p s. next (get_kind s) (λ k t. Some (record { id = record { 0 = i }; parent = record { 0 = p }; kind = k }, t))))

abbrev pub object_as : Head → DocRow → Obj
object_as h w = record { ident = h.id; kind = h.kind; parent = h.parent; row = w }

abbrev pub get_obj : List ℕ → Got Obj
get_obj bs = next (get_head bs) (λ h t. next (get_row h.kind t) (λ w u. Some (object_as h w, u)))

-- Nothing stands after the objects.
abbrev pub ended : Got Doc → Option Doc
ended None = None
ended (Some x) = cond (length x.1 == 0) (Some x.0) None

-- The objects of a record, in whatever order.
abbrev pub parsed : List ℕ → Option Doc
parsed bs = cond (nat_le (length bs) limits.record_bytes) (ended (get_list get_obj bs)) None

-- The document of the bytes; the empty one where they are no record.
abbrev pub or_empty : Option Doc → Doc
or_empty None = []
or_empty (Some d) = d

abbrev pub doc_of : List ℕ → Doc
doc_of bs = or_empty (parsed bs)

-- Only objects in rising order make a record.
abbrev pub in_order : Option Doc → Option Doc
in_order None = None
in_order (Some d) = cond (rises d) (Some d) None

-- What a record says; nothing where the bytes do not follow the layout.
abbrev pub says : List ℕ → Option Doc
says bs = in_order (parsed bs)

-- Writing: the code of each type, kind and flag.
abbrev pub type_of : Content → EntryType
type_of (scalar_of null) = ty.Null
type_of (scalar_of (boolean true)) = ty.True
type_of (scalar_of (boolean false)) = ty.False
type_of (scalar_of (int z)) = ty.Int
type_of (scalar_of (uint n)) = ty.Uint
type_of (scalar_of (timestamp z)) = ty.Timestamp
type_of (scalar_of (counter z)) = ty.Counter
type_of (scalar_of (str t)) = ty.Str
type_of (scalar_of (bytes t)) = ty.Bytes
type_of (object_of k) = ty.Object k

abbrev pub type_code : EntryType → ℕ
type_code ty.Null = 0
type_code ty.False = 1
type_code ty.True = 2
type_code ty.Int = 3
type_code ty.Uint = 4
type_code ty.Timestamp = 5
type_code ty.Counter = 6
type_code ty.Str = 7
type_code ty.Bytes = 8
type_code (ty.Object Map) = 9
type_code (ty.Object Table) = 10
type_code (ty.Object Sequence) = 11
type_code (ty.Object Text) = 12

abbrev pub kind_code : ObjType → ℕ
kind_code Map = 0
kind_code Table = 1
kind_code Sequence = 2
kind_code Text = 3

abbrev pub flag_code : Bool → ℕ
flag_code false = 0
flag_code true = 1

-- A content's bytes, without its type and with it.
abbrev pub put_content_of : Content → List ℕ
put_content_of (scalar_of null) = []
put_content_of (scalar_of (boolean b)) = []
put_content_of (scalar_of (int z)) = put64 (of_z w64 z)
put_content_of (scalar_of (uint n)) = put64 n
put_content_of (scalar_of (timestamp z)) = put64 (of_z w64 z)
put_content_of (scalar_of (counter z)) = put64 (of_z w64 z)
put_content_of (scalar_of (str t)) = put_text t
put_content_of (scalar_of (bytes t)) = put_text t
put_content_of (object_of k) = []

abbrev pub put_content : Content → List ℕ
put_content h = put32 (type_code (type_of h)) ++ put_content_of h

abbrev pub put_id : OpId → List ℕ
put_id x = put32 x.counter ++ put32 x.actor

abbrev pub put_flag : Bool → List ℕ
put_flag b = put32 (flag_code b)

abbrev pub put_key : Bool → Key → List ℕ
put_key true k = put_text k
put_key false k = []

abbrev pub put_slot : Bool → Slot → List ℕ
put_slot keyed x = put_key keyed x.0 ++ (put_content x.1.content ++ (put_id x.1.ident ++ put_flag x.1.flag))

abbrev pub put_row : DocRow → List ℕ
put_row (map_of m) = put_list (put_slot true) m
put_row (list_of l) = put_list (put_slot false) (unkeyed l)
put_row (text_of t) = put_text t

abbrev pub put_head : Head → List ℕ
put_head h = put_id h.id.0 ++ (put_id h.parent.0 ++ put32 (kind_code h.kind))

abbrev pub put_obj : Obj → List ℕ
put_obj o = put_head (head_of o) ++ put_row o.row

-- The record of a document.
abbrev pub print : Doc → List ℕ
print d = put_list put_obj d

-- What can be written: numbers in range, texts of bytes, sizes within 4 bytes, rows of their kind's shape.
abbrev pub WritableText : List ℕ → Type 0
WritableText t = (length t < 2 ^ 32) × Bytes t

abbrev pub WritableId : OpId → Type 0
WritableId x = (x.counter < 2 ^ 32) × (x.actor < 2 ^ 32)

abbrev pub WritableContent : Content → Type 0
WritableContent (scalar_of null) = Unit {0}
WritableContent (scalar_of (boolean b)) = Unit {0}
WritableContent (scalar_of (int z)) = FitsSigned w64 z
WritableContent (scalar_of (uint n)) = n < 2 ^ 64
WritableContent (scalar_of (timestamp z)) = FitsSigned w64 z
WritableContent (scalar_of (counter z)) = FitsSigned w64 z
WritableContent (scalar_of (str t)) = WritableText t
WritableContent (scalar_of (bytes t)) = WritableText t
WritableContent (object_of k) = Unit {0}

-- Where a row has no keys, the empty one stands for them.
abbrev pub WritableKey : Bool → Key → Type 0
WritableKey true k = WritableText k
WritableKey false k = k ≡ []

pub record WritableSlot (keyed : Bool) (x : Slot) : Type 0 where
  pub key_good : WritableKey keyed x.0
  pub content_good : WritableContent x.1.content
  pub ident_good : WritableId x.1.ident

abbrev pub WritableSlots : Bool → List Slot → Type 0
WritableSlots keyed m = (length m < 2 ^ 32) × Every (WritableSlot keyed) m

abbrev pub WritableRow : DocRow → Type 0
WritableRow (map_of m) = WritableSlots true m
WritableRow (list_of l) = WritableSlots false (unkeyed l)
WritableRow (text_of t) = WritableText t

abbrev pub WritableHead : Head → Type 0
WritableHead h = WritableId h.id.0 × WritableId h.parent.0

pub record WritableObj (o : Obj) : Type 0 where
  pub head_good : WritableHead (head_of o)
  pub row_good : WritableRow o.row
  pub shape : FitsKind o.kind o.row

abbrev pub Writable : Doc → Type 0
Writable d = (length d < 2 ^ 32) × Every WritableObj d
