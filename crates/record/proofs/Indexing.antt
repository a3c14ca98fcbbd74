-- Values read one after another, with an index of where they begin.
use Rattle.std.proofs.Common.{◌≡◌, ℕ, zero, suc, ◌+◌, ◌-◌, ◌<◌, ◌≤◌, Bool, List, [], ◌∷◌, ◌++◌, length, get_or, take, drop, set, Some, None, sym, refl, ap, ◌∙◌, append_assoc, add_assoc, arith, length-append, w8, Fits}
use Rattle.std.proofs.lemmas.List.{append-nil, take_more_set, length_push, drop_at}
use Rattle.meaning.specs.Lists.{Every}
use Rattle.record_codec.specs.Codec.{Got, Bytes, get_many, put_many}
use Rattle.record_codec.specs.Layout.{Slot, put_slot}
use Rattle.record_codec.proofs.Laws.{Law, back_many}
use Rattle.record_codec.proofs.Records.{all_bytes}
use Rattle.record.specs.Index.{offsets}
use Rattle.record.specs.Reading.{Ran}

-- In the midst of reading: i values are done, r is left.
pub record Going {A : Type 0} (put : A → List ℕ) (Good : A → Type 0) (i total from : ℕ) (bs old new r : List ℕ) (done : List A) : Type 0 where
  pub whole : bs ≡ put_many put done ++ r
  pub good : Every Good done
  pub sized : length done ≡ i
  pub rest : Bytes r
  pub indexed : take (from + i) new ≡ take from old ++ offsets put (total - length bs) done

module _ {A : Type 0} (put : A → List ℕ) where
  put_many_push : (xs : List A) (x : A) → put_many put (xs ++ x ∷ []) ≡ put_many put xs ++ put x
  put_many_push [] x = append-nil (put x)
  put_many_push (y ∷ xs) x = ap (λ t. put y ++ t) (put_many_push xs x) ∙ sym (append_assoc (put y) (put_many put xs) (put x))

  offsets_push : (at : ℕ) (xs : List A) (x : A) → offsets put at (xs ++ x ∷ []) ≡ offsets put at xs ++ (at + length (put_many put xs)) ∷ []
  offsets_push at [] x = ap (λ n. n ∷ []) {x = at} {y = at + 0} (omega arith)
  offsets_push at (y ∷ xs) x =
      ap (λ t. at ∷ t) (offsets_push (at + length (put y)) xs x
      ∙ ap (λ n. offsets put (at + length (put y)) xs ++ n ∷ []) (add_assoc at (length (put y)) (length (put_many put xs)) ∙ ap (λ n. at + n) (sym (length-append (put y) (put_many put xs)))))

  pub offsets_length : (at : ℕ) (xs : List A) → length (offsets put at xs) ≡ length xs
  offsets_length at [] = refl
  offsets_length at (x ∷ xs) = ap suc (offsets_length (at + length (put x)) xs)

  -- Each of the many stands where its offset says.
  pub stands_at : (d : A) (xs : List A) (k at : ℕ) (pre r : List ℕ) → length pre ≡ at → k < length xs
      → (more : List ℕ) × (drop (get_or (offsets put at xs) k 0) (pre ++ (put_many put xs ++ r)) ≡ put (get_or xs k d) ++ more)
  stands_at d [] k at pre r e h = absurd (omega arith)
  stands_at d (x ∷ xs) zero at pre r e h = (put_many put xs ++ r, drop_at pre (put_many put (x ∷ xs) ++ r) at e ∙ append_assoc (put x) (put_many put xs) r)
  stands_at d (x ∷ xs) (suc k) at pre r e h =
      let i = stands_at d xs k (at + length (put x)) (pre ++ put x) r (length-append pre (put x) ∙ ap (λ n. n + length (put x)) e) (omega arith) in
      (i.0, ap (λ t. drop (get_or (offsets put (at + length (put x)) xs) k 0) t) (ap (λ t. pre ++ t) (append_assoc (put x) (put_many put xs) r) ∙ sym (append_assoc pre (put x) (put_many put xs ++ r))) ∙ i.1)

every_push : {X : Type 0} (P : X → Type 0) (xs : List X) (x : X) → Every P xs → P x → Every P (xs ++ x ∷ [])
every_push P [] x h p = (p, tt)
every_push P (y ∷ xs) x h p = (h.0, every_push P xs x h.1 p)

module _ {A : Type 0} {get : List ℕ → Got A} {put : A → List ℕ} {Good : A → Type 0} (law : Law get put Good) where
  stops : (xs : List A) (n : ℕ) (r : List ℕ) → Every Good xs → length xs < n → get r ≡ None → get_many get n (put_many put xs ++ r) ≡ None
  stops xs zero r g h e = absurd (omega arith)
  stops [] (suc n) r g h e = grind arith
  stops (x ∷ xs) (suc n) r g h e = grind (arith, append_assoc, law.back, stops xs n r)

  module _ {i total from : ℕ} {bs old new r : List ℕ} {done : List A} (now : Going put Good i total from bs old new r done) where
    pub halted : (n : ℕ) → i < n → get r ≡ None → get_many get n bs ≡ None
    halted n h e = ap (get_many get n) now.whole ∙ stops done n r now.good (let z = now.sized in omega arith) e

    pub finished : (n : ℕ) → i ≡ n → Ran get put n total from bs old new r done
    finished n e = record {
      is = ap (λ k. get_many get k bs) (sym e ∙ sym now.sized) ∙ (ap (get_many get (length done)) now.whole ∙ back_many get put Good law done r now.good);
      indexed = ap (λ k. take (from + k) new) (sym e) ∙ now.indexed;
    }

    pub goes_on : (a : A) (more : List ℕ) → length bs ≤ total → from + i < length new → get r ≡ Some (a, more) → Going put Good (i + 1) total from bs old (set new (from + i) (total - length r)) more (done ++ a ∷ [])
    goes_on a more fit lt e =
        let s = law.forth r a more now.rest e in
        let w : bs ≡ put_many put (done ++ a ∷ []) ++ more =
        now.whole ∙ (ap (λ t. put_many put done ++ t) s.whole ∙ (sym (append_assoc (put_many put done) (put a) more) ∙ ap (λ t. t ++ more) (sym (put_many_push put done a)))) in
        let l : length bs ≡ length (put_many put done) + length r = ap length now.whole ∙ length-append (put_many put done) r in
        let v : total - length r ≡ (total - length bs) + length (put_many put done) = omega arith in
        let z = now.sized in
        record {
          whole = w;
          good = every_push Good done a now.good s.good;
          sized = length_push done a ∙ ap (λ n. n + 1) z;
          rest = s.rest;
          indexed =
              ap (λ k. take k (set new (from + i) (total - length r))) {x = from + (i + 1)} {y = (from + i) + 1} (omega arith)
              ∙ (take_more_set new (from + i) (total - length r) lt
              ∙ (ap (λ t. t ++ (total - length r) ∷ []) now.indexed
              ∙ (append_assoc (take from old) (offsets put (total - length bs) done) ((total - length r) ∷ [])
              ∙ ap (λ t. take from old ++ t) (ap (λ n. offsets put (total - length bs) done ++ n ∷ []) v ∙ sym (offsets_push put (total - length bs) done a)))));
        }

    pub shorter : (a : A) (more : List ℕ) → get r ≡ Some (a, more) → length r ≡ length (put a) + length more
    shorter a more e = ap length (law.forth r a more now.rest e).whole ∙ length-append (put a) more

pub slot_long : (keyed : Bool) (x : Slot) → 16 ≤ length (put_slot keyed x)
slot_long keyed x = simp length-append (omega arith)

-- What a slice of bytes holds is bytes.
pub typed_bytes : (bs : List ℕ) → ((i : ℕ) → Fits w8 (get_or bs i 0)) → Bytes bs
typed_bytes bs f = all_bytes bs (λ i. (f i).fits)

pub each_byte : (bs : List ℕ) → Bytes bs → (k : ℕ) → get_or bs k 0 < 256
each_byte [] h k = omega arith
each_byte (b ∷ bs) h zero = h.0
each_byte (b ∷ bs) h (suc k) = each_byte bs h.1 k

pub starts_out : {A : Type 0} (put : A → List ℕ) (Good : A → Type 0) (total from : ℕ) (bs old : List ℕ) → Bytes bs → Going put Good 0 total from bs old old bs []
starts_out put Good total from bs old B = record {
  whole = refl;
  good = tt;
  sized = refl;
  rest = B;
  indexed = ap (λ k. take k old) {x = from + 0} {y = from} (omega arith) ∙ sym (append-nil (take from old));
}
