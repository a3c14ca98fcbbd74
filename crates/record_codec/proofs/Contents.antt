-- The law of an entry's content.
use Rattle.std.proofs.Common.{◌≡◌, ℕ, ◌^◌, ◌<◌, true, false, List, [], ◌++◌, ℤ, Some, sym, refl, ap, ◌∙◌, subst, append_assoc, to_z-of_z, w64, SFits, to_z, of_z}
use mir.Facts.{sfits_to_z, Fits-of_z, of_z-to_z}
use Rattle.meaning.specs.Entries.{null, boolean, int, uint, timestamp, counter, str, bytes, Content, scalar_of, object_of}
use Rattle.record_codec.specs.declared.entry_type.EntryType.{EntryType}
use Rattle.record_codec.specs.declared.entry_type.EntryType.TheVariants as ty
use Rattle.record_codec.specs.Codec.{Got, next, decide, Bytes, get32, put32, get64, put64, get_text, put_text}
use Rattle.record_codec.specs.Layout.{type_at, type_of, type_code, get_content_of, get_content, put_content_of, put_content, WritableText, WritableContent}
use Rattle.record_codec.proofs.Laws.{Law, step, choice, val_is, rest_is, law32, law64, law_text}
use Rattle.record_codec.proofs.Codes.{type_back, type_forth, type_small}

signed : (n : ℕ) → n < 2 ^ 64 → SFits w64 (to_z w64 n)
signed n h = sfits_to_z (record { fits = h })

-- A signed number is read from its bits again.
back_signed : (to : ℤ → Content) (z : ℤ) (r : List ℕ) → SFits w64 z → next (get64 (put64 (of_z w64 z) ++ r)) (λ n s. Some (to (to_z w64 n), s)) ≡ Some (to z, r)
back_signed to z r g = ap (λ t. next t (λ n s. Some (to (to_z w64 n), s))) (law64.back (of_z w64 z) r (Fits-of_z g).fits) ∙ ap {B = Got Content} (λ y. Some (to y, r)) (to_z-of_z g)

back_content_of : (h : Content) (r : List ℕ) → WritableContent h → get_content_of (type_of h) (put_content_of h ++ r) ≡ Some (h, r)
back_content_of (scalar_of null) r g = refl
back_content_of (scalar_of (boolean true)) r g = refl
back_content_of (scalar_of (boolean false)) r g = refl
back_content_of (scalar_of (int z)) r g = back_signed (λ y. scalar_of (int y)) z r g
back_content_of (scalar_of (uint n)) r g = ap (λ t. next t (λ n s. Some (scalar_of (uint n), s))) (law64.back n r g)
back_content_of (scalar_of (timestamp z)) r g = back_signed (λ y. scalar_of (timestamp y)) z r g
back_content_of (scalar_of (counter z)) r g = back_signed (λ y. scalar_of (counter y)) z r g
back_content_of (scalar_of (str t)) r g = ap (λ x. next x (λ n s. Some (scalar_of (str n), s))) (law_text.back t r g)
back_content_of (scalar_of (bytes t)) r g = ap (λ x. next x (λ n s. Some (scalar_of (bytes n), s))) (law_text.back t r g)
back_content_of (object_of k) r g = refl

pub record ContentSplit (t : EntryType) (bs : List ℕ) (h : Content) (r : List ℕ) : Type 0 where
  pub type_is : t ≡ type_of h
  pub whole : bs ≡ put_content_of h ++ r
  pub good : WritableContent h
  pub rest : Bytes r

-- A type without content.
plain : (t : EntryType) (h' h : Content) (bs r : List ℕ) → t ≡ type_of h' → put_content_of h' ≡ [] → WritableContent h' → Bytes bs → ◌≡◌ {A = Got Content} (Some (h', bs)) (Some (h, r)) → ContentSplit t bs h r
plain t h' h bs r e n g B q =
    let w : bs ≡ r = rest_is h' h bs r q in
    subst (λ h. ContentSplit t bs h r) (val_is h' h bs r q)
    (record { type_is = e; whole = w ∙ ap (λ x. x ++ r) (sym n); good = g; rest = subst Bytes w B })

-- A type whose content is what a reader gives, a number or a text.
module _ {A : Type 0} (get : List ℕ → Got A) (put : A → List ℕ) (Good : A → Type 0) (law : Law get put Good) where
  made : (t : EntryType) (to : A → Content) (bs : List ℕ) (h : Content) (r : List ℕ) → ((a : A) → t ≡ type_of (to a)) → ((a : A) → Good a → put a ≡ put_content_of (to a)) → ((a : A) → Good a → WritableContent (to a))
      → Bytes bs → next (get bs) (λ a s. Some (to a, s)) ≡ Some (h, r) → ContentSplit t bs h r
  made t to bs h r te pe ge B e =
      let s = step (get bs) (λ a s. Some (to a, s)) h r e in
      let p = law.forth bs s.val s.mid B s.first in
      let w : s.mid ≡ r = rest_is (to s.val) h s.mid r s.second in
      subst (λ h. ContentSplit t bs h r) (val_is (to s.val) h s.mid r s.second)
      (record { type_is = te s.val; whole = p.whole ∙ (ap (λ x. x ++ s.mid) (pe s.val p.good) ∙ ap (λ x. put_content_of (to s.val) ++ x) w); good = ge s.val p.good; rest = subst Bytes w p.rest })

same64 : (n : ℕ) → n < 2 ^ 64 → put64 n ≡ put64 (of_z w64 (to_z w64 n))
same64 n h = ap put64 (sym (of_z-to_z {w = w64} {n = n} (record { fits = h })))

made64 : (t : EntryType) (to : ℕ → Content) (bs : List ℕ) (h : Content) (r : List ℕ) → ((n : ℕ) → t ≡ type_of (to n)) → ((n : ℕ) → n < 2 ^ 64 → put64 n ≡ put_content_of (to n)) → ((n : ℕ) → n < 2 ^ 64 → WritableContent (to n))
    → Bytes bs → next (get64 bs) (λ n s. Some (to n, s)) ≡ Some (h, r) → ContentSplit t bs h r
made64 = made get64 put64 (λ n. n < 2 ^ 64) law64

made_text : (t : EntryType) (to : List ℕ → Content) (bs : List ℕ) (h : Content) (r : List ℕ) → ((a : List ℕ) → t ≡ type_of (to a)) → ((a : List ℕ) → WritableText a → put_text a ≡ put_content_of (to a)) → ((a : List ℕ) → WritableText a → WritableContent (to a))
    → Bytes bs → next (get_text bs) (λ a s. Some (to a, s)) ≡ Some (h, r) → ContentSplit t bs h r
made_text = made get_text put_text WritableText law_text

forth_content_of : (t : EntryType) (bs : List ℕ) (h : Content) (r : List ℕ) → Bytes bs → get_content_of t bs ≡ Some (h, r) → ContentSplit t bs h r
forth_content_of ty.Null bs h r B e = plain ty.Null (scalar_of null) h bs r refl refl tt B e
forth_content_of ty.False bs h r B e = plain ty.False (scalar_of (boolean false)) h bs r refl refl tt B e
forth_content_of ty.True bs h r B e = plain ty.True (scalar_of (boolean true)) h bs r refl refl tt B e
forth_content_of ty.Int bs h r B e = made64 ty.Int (λ n. scalar_of (int (to_z w64 n))) bs h r (λ n. refl) same64 signed B e
forth_content_of ty.Uint bs h r B e = made64 ty.Uint (λ n. scalar_of (uint n)) bs h r (λ n. refl) (λ n g. refl) (λ n g. g) B e
forth_content_of ty.Timestamp bs h r B e = made64 ty.Timestamp (λ n. scalar_of (timestamp (to_z w64 n))) bs h r (λ n. refl) same64 signed B e
forth_content_of ty.Counter bs h r B e = made64 ty.Counter (λ n. scalar_of (counter (to_z w64 n))) bs h r (λ n. refl) same64 signed B e
forth_content_of ty.Str bs h r B e = made_text ty.Str (λ t. scalar_of (str t)) bs h r (λ t. refl) (λ t g. refl) (λ t g. g) B e
forth_content_of ty.Bytes bs h r B e = made_text ty.Bytes (λ t. scalar_of (bytes t)) bs h r (λ t. refl) (λ t g. refl) (λ t g. g) B e
forth_content_of (ty.Object k) bs h r B e = plain (ty.Object k) (object_of k) h bs r refl refl tt B e

pub law_content : Law get_content put_content WritableContent
law_content = record {
  back = λ h r g.
      ap get_content (append_assoc (put32 (type_code (type_of h))) (put_content_of h) r)
      ∙ (ap (λ x. next x (λ n r. decide (type_at n) (λ t. get_content_of t r))) (law32.back (type_code (type_of h)) (put_content_of h ++ r) (type_small (type_of h)))
      ∙ (ap (λ x. decide x (λ t. get_content_of t (put_content_of h ++ r))) (type_back (type_of h))
      ∙ back_content_of h r g));
  forth = λ bs h r B e.
      let s1 = step (get32 bs) (λ n r. decide (type_at n) (λ t. get_content_of t r)) h r e in
      let s2 = choice (type_at s1.val) (λ t. get_content_of t s1.mid) h r s1.second in
      let p = law32.forth bs s1.val s1.mid B s1.first in
      let q = forth_content_of s2.val s1.mid h r p.rest s2.second in
      record {
        whole = p.whole ∙ (ap (λ k. put32 k ++ s1.mid) (type_forth s1.val s2.val s2.first ∙ ap type_code q.type_is) ∙ (ap (λ t. put32 (type_code (type_of h)) ++ t) q.whole ∙ sym (append_assoc (put32 (type_code (type_of h))) (put_content_of h) r)));
        good = q.good;
        rest = q.rest;
      };
}
