-- Joining one-wide values leaves one-wide values.
use Rattle.std.proofs.Common.{◌≡◌, ℕ, zero, suc, ◌+◌, ◌-◌, Bool, true, false, cond, ◌&&◌, eqb, leb, List, [], ◌∷◌, ◌++◌, length, take, drop, refl}
use Rattle.std.specs.Ordering.{is_eq}
use Rattle.meaning.specs.Lists.{splice}
use Rattle.meaning.specs.Entries.{compare_keys, Entry}
use Rattle.meaning.specs.Patches.{Prop, key, pos, Action, put_map, put_seq, insert, splice_text, increment, conflict, delete_map, delete_seq}
use Rattle.meaning.specs.Rows.{units_in}
use Rattle.meaning.specs.Calls.{Call, put_call, insert_call, delete_seq_call, delete_map_call, increment_call, flag_call, splice_call, own_action}
use Rattle.meaning.specs.Builder.{Joined, apart, into, gone, remains, flag_entry, all_one, allowed, join_insert, join_delete, join_flag, join_splice, join}
use Rattle.meaning.specs.Joining.{OneWide}
use Rattle.meaning.proofs.Tests.{both}

module _ {U : Type 0} (units : List ℕ → List U) where
  and_true : (a b : Bool) → a ≡ true → b ≡ true → a && b ≡ true
  and_true a b p q = rw (p, q)

  all_take : (k : ℕ) (vs : List Entry) → all_one units vs ≡ true → all_one units (take k vs) ≡ true
  all_take zero vs e = refl
  all_take (suc k) [] e = refl
  all_take (suc k) (v ∷ vs) e =
      let b = both (eqb (length (units_in units v)) 1) (all_one units vs) e in
      and_true (eqb (length (units_in units v)) 1) (all_one units (take k vs)) b.0 (all_take k vs b.1)

  all_drop : (k : ℕ) (vs : List Entry) → all_one units vs ≡ true → all_one units (drop k vs) ≡ true
  all_drop zero vs e = e
  all_drop (suc k) [] e = refl
  all_drop (suc k) (v ∷ vs) e = all_drop k vs (both (eqb (length (units_in units v)) 1) (all_one units vs) e).1

  all_append : (vs ws : List Entry) → all_one units vs ≡ true → all_one units ws ≡ true → all_one units (vs ++ ws) ≡ true
  all_append [] ws e f = f
  all_append (v ∷ vs) ws e f =
      let b = both (eqb (length (units_in units v)) 1) (all_one units vs) e in
      and_true (eqb (length (units_in units v)) 1) (all_one units (vs ++ ws)) b.0 (all_append vs ws b.1 f)

  all_splice : (i n : ℕ) (ws vs : List Entry) → all_one units ws ≡ true → all_one units vs ≡ true → all_one units (splice i n ws vs) ≡ true
  all_splice i n ws vs e f =
      all_append (take i vs) (ws ++ drop (i + n) vs) (all_take i vs f) (all_append ws (drop (i + n) vs) e (all_drop (i + n) vs f))

  abbrev pub Kept : Joined U → Type 0
  Kept apart = Unit {0}
  Kept (into h) = OneWide units h
  Kept gone = Unit {0}

  kept_if : (t : Bool) (j : Joined U) → Kept j → Kept (cond t j apart)
  kept_if true j h = h
  kept_if false j h = tt

  kept_remains : {A : Type 0} (f : List A → Action U) (ys : List A) → OneWide units (f ys) → Kept (remains f ys)
  kept_remains f [] h = tt
  kept_remains f (y ∷ ys) h = h

  keep_insert : (txt : Bool) (i : ℕ) (v : Entry) (a : Action U) → OneWide units a → all_one units (v ∷ []) ≡ true → Kept (join_insert units txt i v a)
  keep_insert txt i v (put_map k x) e g = tt
  keep_insert txt i v (put_seq t x) e g = tt
  keep_insert txt i v (insert t vs) e g =
      kept_if (leb t i && (leb i (t + length vs) && allowed units txt (v ∷ vs))) (into (insert t (splice (i - t) 0 (v ∷ []) vs))) (all_splice (i - t) 0 (v ∷ []) vs g e)
  keep_insert txt i v (splice_text t us) e g = tt
  keep_insert txt i v (increment p n) e g = tt
  keep_insert txt i v (conflict p) e g = tt
  keep_insert txt i v (delete_map k) e g = tt
  keep_insert txt i v (delete_seq t n) e g = tt

  keep_delete : (txt : Bool) (i m : ℕ) (a : Action U) → OneWide units a → Kept (join_delete units txt i m a)
  keep_delete txt i m (put_map k x) e = tt
  keep_delete txt i m (put_seq t x) e = tt
  keep_delete txt i m (insert t vs) e =
      kept_if (leb t i && (leb (i + m) (t + length vs) && allowed units txt vs)) (remains (insert t) (splice (i - t) m [] vs))
      (kept_remains (insert t) (splice (i - t) m [] vs) (all_splice (i - t) m [] vs refl e))
  keep_delete txt i m (splice_text t us) e =
      kept_if (leb t i && leb (i + m) (t + length us)) (remains (splice_text t) (splice (i - t) m [] us)) (kept_remains (splice_text t) (splice (i - t) m [] us) tt)
  keep_delete txt i m (increment p n) e = tt
  keep_delete txt i m (conflict p) e = tt
  keep_delete txt i m (delete_map k) e = tt
  keep_delete txt i m (delete_seq t n) e = kept_if (eqb t i) (into (delete_seq t (n + m))) tt

  keep_flag : (p : Prop) (a : Action U) → Kept (join_flag p a)
  keep_flag (key k) (put_map j x) = kept_if (is_eq (compare_keys k j)) (into (put_map j (flag_entry x))) tt
  keep_flag (pos i) (put_map j x) = tt
  keep_flag (key k) (put_seq t x) = tt
  keep_flag (pos i) (put_seq t x) = kept_if (eqb i t) (into (put_seq t (flag_entry x))) tt
  keep_flag p (insert t vs) = tt
  keep_flag p (splice_text t us) = tt
  keep_flag p (increment q n) = tt
  keep_flag p (conflict q) = tt
  keep_flag p (delete_map k) = tt
  keep_flag p (delete_seq t n) = tt

  keep_splice : (i : ℕ) (bs : List ℕ) (a : Action U) → Kept (join_splice units i bs a)
  keep_splice i bs (put_map k x) = tt
  keep_splice i bs (put_seq t x) = tt
  keep_splice i bs (insert t vs) = tt
  keep_splice i bs (splice_text t us) = kept_if (leb t i && leb i (t + length us)) (into (splice_text t (splice (i - t) 0 (units bs) us))) tt
  keep_splice i bs (increment p n) = tt
  keep_splice i bs (conflict p) = tt
  keep_splice i bs (delete_map k) = tt
  keep_splice i bs (delete_seq t n) = tt

  pub keeps : (txt : Bool) (c : Call) (a : Action U) → OneWide units a → OneWide units (own_action units c) → Kept (join units txt c a)
  keeps txt (put_call p c) a e g = tt
  keeps txt (insert_call i v) a e g = keep_insert txt i v a e g
  keeps txt (delete_seq_call i n) a e g = keep_delete txt i n a e
  keeps txt (delete_map_call k) a e g = tt
  keeps txt (increment_call p n d) a e g = tt
  keeps txt (flag_call p) a e g = keep_flag p a
  keeps txt (splice_call i bs) a e g = keep_splice i bs a
