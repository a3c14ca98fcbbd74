-- The same at what an index holds.
use Rattle.std.proofs.Common.{◌≡◌, ℕ, ◌+◌, ◌<◌, ◌≤◌, length, Bool, true, false, List, get_or, drop, Some, None, Option, Bor, sym, ap, ◌∙◌, arith}
use mathlib.Core.Option as maybe
use Rattle.document.specs.declared.view.Head.{Head}
use Rattle.document.specs.Places.{nth, size_told, entry_told, text_told}
use Rattle.meaning.specs.Documents.{is_text_kind}
use Rattle.record_codec.specs.Codec.{Got, Bytes, get32, get_text}
use Rattle.record_codec.specs.Layout.{has_keys, doc_of, get_slot, get_head}
use Rattle.record_codec.specs.Seen.{saw, itself}
use Rattle.record_codec.proofs.Laws.{val_is}
use Rattle.record_codec.proofs.Records.{all_bytes}
use Rattle.record.specs.declared.index.RecordIndex.{RecordIndex}
use Rattle.record.specs.Reading.{Found, FoundAt, EntryFollows}
use Rattle.record.proofs.Finding.{starts_room, none_there, head_there, found_at, no_text, text_there, text_entries, no_entry_lem, no_size, size_told_lem, SlotRead, slot_there, size_is, entries_are, kind_is}

module _ (s : RecordIndex) where
  pub bytes_are : Bytes s.bytes.now
  bytes_are = all_bytes s.bytes.now s.typed

  -- The object at a place.
  pub starts_fit : s.objects ≤ length s.places.starts
  starts_fit = starts_room s.bytes.now s.places.starts s.objects 0 bytes_are s.said s.counted s.started

  pub past_last : (i : ℕ) → s.objects ≤ i → nth (doc_of s.bytes.now) i ≡ maybe.none
  past_last i = none_there s.bytes.now s.places.starts s.objects i bytes_are s.said s.counted s.started

  pub head_fits : (i : ℕ) → i < s.objects → get_or s.places.starts i 0 ≤ length s.bytes.now
  head_fits i l = (head_there s.bytes.now s.places.starts s.objects i bytes_are s.said s.counted s.started l).fits

  pub head_found : (i : ℕ) (r : Option (Head × Bor (List ℕ))) (x : List ℕ) → x ≡ drop (get_or s.places.starts i 0) s.bytes.now → saw itself r ≡ get_head x → i < s.objects → FoundAt (doc_of s.bytes.now) i r
  head_found i = found_at s.bytes.now s.places.starts s.objects i bytes_are s.said s.counted s.started

  -- Its text, and its entries from the count on.
  module _ {i : ℕ} {h : Head} {rest : List ℕ} (f : Found (doc_of s.bytes.now) i h rest) where
    pub text_none : is_text_kind h.kind ≡ false → ◌≡◌ {A = maybe.Option (List ℕ)} maybe.none (text_told (nth (doc_of s.bytes.now) i))
    text_none e = sym (no_text s.bytes.now i bytes_are s.said h rest f e)

    pub text_some : is_text_kind h.kind ≡ true → (t r : List ℕ) → ◌≡◌ {A = Got (List ℕ)} (Some (t, r)) (get_text rest) → ◌≡◌ {A = maybe.Option (List ℕ)} (maybe.some t) (text_told (nth (doc_of s.bytes.now) i))
    text_some e t r q =
        let x = text_there s.bytes.now i bytes_are s.said h rest f e in
        ap {B = maybe.Option (List ℕ)} (λ y. maybe.some y) (val_is t x.bytes r f.more (q ∙ x.got)) ∙ sym x.told

    pub text_unread : is_text_kind h.kind ≡ true → ◌≡◌ {A = Got (List ℕ)} None (get_text rest) → ⊥
    text_unread e q = let w = q ∙ (text_there s.bytes.now i bytes_are s.said h rest f e).got in absurd cc

    pub text_entry : (n : ℕ) → is_text_kind h.kind ≡ true → entry_told (nth (doc_of s.bytes.now) i) n ≡ maybe.none
    text_entry n = text_entries s.bytes.now i bytes_are s.said h rest f n

    pub past_count : (n : ℕ) → is_text_kind h.kind ≡ false → {v : ℕ} {r : List ℕ} → ◌≡◌ {A = Got ℕ} (Some (v, r)) (get32 rest) → v ≤ n → entry_told (nth (doc_of s.bytes.now) i) n ≡ maybe.none
    past_count n e {v = v} {r = r} q l = no_entry_lem s.bytes.now i bytes_are s.said h rest f e n (let z = size_is s.bytes.now i bytes_are s.said h rest f v r q in omega arith)

  -- An entry of an object that was found, below the count that was read.
  module _ {i : ℕ} (n : ℕ) {h : Head} {rest : List ℕ} (f : Found (doc_of s.bytes.now) i h rest) (e : is_text_kind h.kind ≡ false) {v : ℕ} {r : List ℕ} (q : ◌≡◌ {A = Got ℕ} (Some (v, r)) (get32 rest)) (l : n < v) where
    pub there : SlotRead s.bytes.now s.places.firsts s.places.entries s.objects i bytes_are s.said s.counted s.numbered s.indexed f.object n f.there
    there =
        slot_there s.bytes.now s.places.firsts s.places.entries s.objects i bytes_are s.said s.counted s.numbered s.indexed f.object n f.there
        (let a = size_is s.bytes.now i bytes_are s.said h rest f v r q in let b = entries_are s.bytes.now i bytes_are s.said h rest f e in omega arith)

    abbrev at : ℕ
    at = get_or s.places.entries (get_or s.places.firsts i 0 + n) 0

    -- What the reader of entries sees there.
    reads : (keyed : Bool) (x : List ℕ) → keyed ≡ has_keys h.kind → x ≡ drop at s.bytes.now → get_slot keyed x ≡ Some (there.slot, there.more)
    reads keyed x k d = ap (λ b. get_slot b x) (k ∙ ap has_keys (kind_is s.bytes.now i bytes_are s.said h rest f)) ∙ (ap (get_slot (has_keys f.object.kind)) d ∙ there.got)

    pub entry_follows : (keyed : Bool) (x : List ℕ) → keyed ≡ has_keys h.kind → x ≡ drop at s.bytes.now → EntryFollows (doc_of s.bytes.now) i n keyed x
    entry_follows keyed x k d = record { slot = there.slot; more = there.more; told = ap (λ o. entry_told o n) f.there ∙ there.told; got = reads keyed x k d }

  -- The size of a row.
  module _ {i : ℕ} {h : Head} {rest : List ℕ} (f : Found (doc_of s.bytes.now) i h rest) where
    pub size_unread : ◌≡◌ {A = Got ℕ} None (get32 rest) → ⊥
    size_unread e = no_size s.bytes.now i bytes_are s.said h rest f e

    pub size_read : {n : ℕ} {r : List ℕ} → ◌≡◌ {A = Got ℕ} (Some (n, r)) (get32 rest) → n ≡ size_told (nth (doc_of s.bytes.now) i)
    size_read {n = n} {r = r} e = size_told_lem s.bytes.now i bytes_are s.said h rest f n r e
