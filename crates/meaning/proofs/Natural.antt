-- What happens in a row does not look into its objects.
use Rattle.std.proofs.Common.{◌≡◌, ℕ, zero, suc, ◌+◌, Bool, true, false, leb, List, [], ◌∷◌, ◌++◌, map, length, take, drop, ℤ, Ok, Err, Ordering, Less, Equal, Greater, sym, refl, ap, ◌∙◌, ap₂}
use Rattle.types.specs.declared.types.OpId.{OpId}
use Rattle.types.specs.declared.error.Refusal.{Refusal}
use Rattle.types.specs.declared.error.Refusal.TheVariants.{InvalidIndex, InvalidKey}
use Rattle.meaning.specs.Results.{Answer, provided, on_ok, and_then}
use Rattle.meaning.specs.Lists.{splice, edit}
use Rattle.meaning.specs.Entries.{Key, compare_keys, by3, Scalar, Content, scalar_of, object_of, Entry, Ref, Item, scalar, object, placed_as, placed}
use Rattle.meaning.specs.Patches.{key, pos, Action, put_map, put_seq, insert, splice_text, increment, conflict, delete_map, delete_seq}
use Rattle.meaning.specs.Rows.{Row, map_of, list_of, text_of, map_item, map_pairs, map_items, map_row, mod_in, mod_at, put_in, del_in, raised_scalar, raised, flagged, in_map, in_list, in_text, in_row}
use Rattle.meaning.specs.Calls.{own_action}
use Rattle.meaning.specs.Log.{Event}
use Rattle.meaning.specs.Kept.{replay}

pub over : {A B C D : Type 0} (a : A → B) (b : C → D) (p : A → C) (q : B → D) → ((x : A) → q (a x) ≡ b (p x)) → (o : Answer A) → on_ok q (on_ok a o) ≡ on_ok b (on_ok p o)
over a b p q h (Err r) = refl
over {D = D} a b p q h (Ok x) = ap {B = Answer D} (λ y. Ok y) (h x)

module _ {X Y : Type 0} (f : X → Y) where
  length_items : (l : List (Item X)) → length (map_items f l) ≡ length l
  length_items [] = refl
  length_items (x ∷ xs) = ap suc (length_items xs)

  take_items : (i : ℕ) (l : List (Item X)) → map_items f (take i l) ≡ take i (map_items f l)
  take_items zero l = refl
  take_items (suc i) [] = refl
  take_items (suc i) (x ∷ xs) = ap (λ t. map_item f x ∷ t) (take_items i xs)

  drop_items : (i : ℕ) (l : List (Item X)) → map_items f (drop i l) ≡ drop i (map_items f l)
  drop_items zero l = refl
  drop_items (suc i) [] = refl
  drop_items (suc i) (x ∷ xs) = drop_items i xs

  append_items : (a b : List (Item X)) → map_items f (a ++ b) ≡ map_items f a ++ map_items f b
  append_items [] b = refl
  append_items (x ∷ xs) b = ap (λ t. map_item f x ∷ t) (append_items xs b)

  splice_items : (i n : ℕ) (ys l : List (Item X)) → map_items f (splice i n ys l) ≡ splice i n (map_items f ys) (map_items f l)
  splice_items i n ys l =
      append_items (take i l) (ys ++ drop (i + n) l)
      ∙ ap₂ (λ a b. a ++ b) (take_items i l) (append_items ys (drop (i + n) l) ∙ ap (λ t. map_items f ys ++ t) (drop_items (i + n) l))

  provided_nat : (b : Bool) (l : List (Item X)) → provided b InvalidIndex (map_items f l) ≡ on_ok (map_items f) (provided b InvalidIndex l)
  provided_nat true l = refl
  provided_nat false l = refl

  edit_nat : (i n : ℕ) (ys l : List (Item X)) → edit i n (map_items f ys) (map_items f l) ≡ on_ok (map_items f) (edit i n ys l)
  edit_nat i n ys l =
      ap₂ (λ k r. provided (leb (i + n) k) InvalidIndex r) (length_items l) (sym (splice_items i n ys l)) ∙ provided_nat (leb (i + n) (length l)) (splice i n ys l)

  flagged_nat : (e : Item X) → flagged (map_item f e) ≡ on_ok (map_item f) (flagged e)
  flagged_nat (scalar s b) = refl
  flagged_nat (object x b) = refl

  raised_nat : (n : ℤ) (e : Item X) → raised n (map_item f e) ≡ on_ok (map_item f) (raised n e)
  raised_nat n (scalar s b) = go (raised_scalar n s)
    where
      go : (o : Answer Scalar) → ◌≡◌ {A = Answer (Item Y)} (on_ok (λ t. scalar t b) o) (on_ok (map_item f) (on_ok (λ t. scalar t b) o))
      go (Err r) = refl
      go (Ok t) = refl
  raised_nat n (object x b) = refl

  module _ (r : Refusal) (g : Item X → Answer (Item X)) (h : Item Y → Answer (Item Y)) (nat : (e : Item X) → h (map_item f e) ≡ on_ok (map_item f) (g e)) where
    mod_at_nat : (i : ℕ) (l : List (Item X)) → mod_at r i h (map_items f l) ≡ on_ok (map_items f) (mod_at r i g l)
    mod_at_nat i [] = refl
    mod_at_nat zero (x ∷ xs) = ap (on_ok (λ y. y ∷ map_items f xs)) (nat x) ∙ over (map_item f) (map_items f) (λ y. y ∷ xs) (λ y. y ∷ map_items f xs) (λ _. refl) (g x)
    mod_at_nat (suc i) (x ∷ xs) = ap (on_ok (λ t. map_item f x ∷ t)) (mod_at_nat i xs) ∙ over (map_items f) (map_items f) (λ t. x ∷ t) (λ t. map_item f x ∷ t) (λ _. refl) (mod_at r i g xs)

    mod_in_nat : (k : Key) (m : List (Key × Item X)) → mod_in r k h (map_pairs f m) ≡ on_ok (map_pairs f) (mod_in r k g m)
    mod_in_nat k [] = refl
    mod_in_nat k (x ∷ xs) = go (mod_in_nat k xs) (compare_keys k x.0)
      where
        on : mod_in r k h (map_pairs f xs) ≡ on_ok (map_pairs f) (mod_in r k g xs) → on_ok (λ t. (x.0, map_item f x.1) ∷ t) (mod_in r k h (map_pairs f xs)) ≡ on_ok (map_pairs f) (on_ok (λ t. x ∷ t) (mod_in r k g xs))
        on ih = ap (on_ok (λ t. (x.0, map_item f x.1) ∷ t)) ih ∙ over (map_pairs f) (map_pairs f) (λ t. x ∷ t) (λ t. (x.0, map_item f x.1) ∷ t) (λ _. refl) (mod_in r k g xs)

        hit : on_ok (λ y. (x.0, y) ∷ map_pairs f xs) (h (map_item f x.1)) ≡ on_ok (map_pairs f) (on_ok (λ y. (x.0, y) ∷ xs) (g x.1))
        hit = ap (on_ok (λ y. (x.0, y) ∷ map_pairs f xs)) (nat x.1) ∙ over (map_item f) (map_pairs f) (λ y. (x.0, y) ∷ xs) (λ y. (x.0, y) ∷ map_pairs f xs) (λ _. refl) (g x.1)

        go : mod_in r k h (map_pairs f xs) ≡ on_ok (map_pairs f) (mod_in r k g xs) → (c : Ordering)
            → by3 c (on_ok (λ t. (x.0, map_item f x.1) ∷ t) (mod_in r k h (map_pairs f xs))) (on_ok (λ y. (x.0, y) ∷ map_pairs f xs) (h (map_item f x.1))) (on_ok (λ t. (x.0, map_item f x.1) ∷ t) (mod_in r k h (map_pairs f xs)))
            ≡ on_ok (map_pairs f) (by3 c (on_ok (λ t. x ∷ t) (mod_in r k g xs)) (on_ok (λ y. (x.0, y) ∷ xs) (g x.1)) (on_ok (λ t. x ∷ t) (mod_in r k g xs)))
        go ih Less = on ih
        go ih Equal = hit
        go ih Greater = on ih

  put_in_nat : (k : Key) (e : Item X) (m : List (Key × Item X)) → put_in k (map_item f e) (map_pairs f m) ≡ map_pairs f (put_in k e m)
  put_in_nat k e [] = refl
  put_in_nat k e (x ∷ xs) = go (put_in_nat k e xs) (compare_keys k x.0)
    where
      go : put_in k (map_item f e) (map_pairs f xs) ≡ map_pairs f (put_in k e xs) → (c : Ordering)
          → by3 c ((k, map_item f e) ∷ (x.0, map_item f x.1) ∷ map_pairs f xs) ((k, map_item f e) ∷ map_pairs f xs) ((x.0, map_item f x.1) ∷ put_in k (map_item f e) (map_pairs f xs))
          ≡ map_pairs f (by3 c ((k, e) ∷ x ∷ xs) ((k, e) ∷ xs) (x ∷ put_in k e xs))
      go ih Less = refl
      go ih Equal = refl
      go ih Greater = ap (λ t. (x.0, map_item f x.1) ∷ t) ih

  del_in_nat : (k : Key) (m : List (Key × Item X)) → del_in k (map_pairs f m) ≡ map_pairs f (del_in k m)
  del_in_nat k [] = refl
  del_in_nat k (x ∷ xs) = go (del_in_nat k xs) (compare_keys k x.0)
    where
      go : del_in k (map_pairs f xs) ≡ map_pairs f (del_in k xs) → (c : Ordering)
          → by3 c ((x.0, map_item f x.1) ∷ del_in k (map_pairs f xs)) (map_pairs f xs) ((x.0, map_item f x.1) ∷ del_in k (map_pairs f xs))
          ≡ map_pairs f (by3 c (x ∷ del_in k xs) xs (x ∷ del_in k xs))
      go ih Less = ap (λ t. (x.0, map_item f x.1) ∷ t) ih
      go ih Equal = refl
      go ih Greater = ap (λ t. (x.0, map_item f x.1) ∷ t) ih

  module _ (g : Ref → X) where
    placed_as_nat : (c : Content) (d : OpId) (b : Bool) → placed_as (λ r. f (g r)) c d b ≡ map_item f (placed_as g c d b)
    placed_as_nat (scalar_of s) d b = refl
    placed_as_nat (object_of k) d b = refl

    pub placed_nat : (e : Entry) → placed (λ r. f (g r)) e ≡ map_item f (placed g e)
    placed_nat e = placed_as_nat e.content e.ident e.flag

    all_placed_nat : (es : List Entry) → map (placed (λ r. f (g r))) es ≡ map_items f (map (placed g) es)
    all_placed_nat [] = refl
    all_placed_nat (e ∷ es) = ap₂ (λ a b. a ∷ b) (placed_nat e) (all_placed_nat es)

    module _ {U : Type 0} (units : List ℕ → List U) where
      in_map_nat : (a : Action U) (m : List (Key × Item X)) → in_map units (λ r. f (g r)) a (map_pairs f m) ≡ on_ok (map_pairs f) (in_map units g a m)
      in_map_nat (put_map k e) m = ap {B = Answer (List (Key × Item Y))} (λ t. Ok t) (ap (λ t. put_in k t (map_pairs f m)) (placed_nat e) ∙ put_in_nat k (placed g e) m)
      in_map_nat (put_seq i e) m = refl
      in_map_nat (insert i es) m = refl
      in_map_nat (splice_text i ys) m = refl
      in_map_nat (increment (key k) n) m = mod_in_nat InvalidKey (raised n) (raised n) (raised_nat n) k m
      in_map_nat (increment (pos i) n) m = refl
      in_map_nat (conflict (key k)) m = mod_in_nat InvalidKey flagged flagged flagged_nat k m
      in_map_nat (conflict (pos i)) m = refl
      in_map_nat (delete_map k) m = ap {B = Answer (List (Key × Item Y))} (λ t. Ok t) (del_in_nat k m)
      in_map_nat (delete_seq i n) m = refl

      in_list_nat : (a : Action U) (l : List (Item X)) → in_list units (λ r. f (g r)) a (map_items f l) ≡ on_ok (map_items f) (in_list units g a l)
      in_list_nat (put_map k e) l = refl
      in_list_nat (put_seq i e) l = mod_at_nat InvalidIndex (λ _. Ok (placed g e)) (λ _. Ok (placed (λ r. f (g r)) e)) (λ _. ap {B = Answer (Item Y)} (λ t. Ok t) (placed_nat e)) i l
      in_list_nat (insert i es) l = ap (λ t. edit i 0 t (map_items f l)) (all_placed_nat es) ∙ edit_nat i 0 (map (placed g) es) l
      in_list_nat (splice_text i ys) l = refl
      in_list_nat (increment (key k) n) l = refl
      in_list_nat (increment (pos i) n) l = mod_at_nat InvalidIndex (raised n) (raised n) (raised_nat n) i l
      in_list_nat (conflict (key k)) l = refl
      in_list_nat (conflict (pos i)) l = mod_at_nat InvalidIndex flagged flagged flagged_nat i l
      in_list_nat (delete_map k) l = refl
      in_list_nat (delete_seq i n) l = edit_nat i n [] l

      pub in_row_nat : (a : Action U) (ρ : Row (List U) (Item X)) → in_row units (λ r. f (g r)) a (map_row f ρ) ≡ on_ok (map_row f) (in_row units g a ρ)
      in_row_nat a (map_of m) = ap (on_ok map_of) (in_map_nat a m) ∙ over (map_pairs f) (map_row f) map_of map_of (λ _. refl) (in_map units g a m)
      in_row_nat a (list_of l) = ap (on_ok list_of) (in_list_nat a l) ∙ over (map_items f) (map_row f) list_of list_of (λ _. refl) (in_list units g a l)
      in_row_nat a (text_of u) = go (in_text units a u)
        where
          go : (t : Answer (List U)) → ◌≡◌ {A = Answer (Row (List U) (Item Y))} (on_ok text_of t) (on_ok (map_row f) (on_ok {B = Row (List U) (Item X)} text_of t))
          go (Err r) = refl
          go (Ok x) = refl

      pub replay_nat : (es : List Event) (ρ : Row (List U) (Item X)) → replay units (λ r. f (g r)) es (map_row f ρ) ≡ on_ok (map_row f) (replay units g es ρ)
      replay_nat [] ρ = refl
      replay_nat (e ∷ es) ρ = ap (λ t. and_then t (replay units (λ r. f (g r)) es)) (in_row_nat (own_action units e.does) ρ) ∙ go (replay_nat es) (in_row units g (own_action units e.does) ρ)
        where
          go : ((ρ : Row (List U) (Item X)) → replay units (λ r. f (g r)) es (map_row f ρ) ≡ on_ok (map_row f) (replay units g es ρ)) → (t : Answer (Row (List U) (Item X)))
              → and_then (on_ok (map_row f) t) (replay units (λ r. f (g r)) es) ≡ on_ok (map_row f) (and_then t (replay units g es))
          go ih (Err r) = refl
          go ih (Ok ρ) = ih ρ
