-- The turn of a kept object, and of one that is written out.
use Rattle.std.proofs.Common.{◌≡◌, ℕ, suc, List, [], ◌∷◌, ◌++◌, length, take, drop, Ok, Greater, sym, refl, ap, ◌∙◌, subst, ap₂, append_assoc, append-nil, add-zero, arith}
use Rattle.types.specs.declared.types.ObjId.{ObjId}
use Rattle.types.specs.declared.types.ObjType.{ObjType}
use Rattle.types.specs.declared.types.ObjType.TheVariants.{Map, Table, List as Sequence, Text}
use Rattle.meaning.specs.Results.{on_ok, and_then}
use Rattle.meaning.specs.Lists.{In, Every, edit}
use Rattle.meaning.specs.Entries.{ranks, Key, compare_keys, by3, Entry, Ref, ref_rank, Item, scalar, object, placed}
use Rattle.meaning.specs.Rows.{Row, map_of, list_of, text_of, map_item, map_pairs, map_items, map_row, refs_e, refs_p, refs_l, refs, put_in}
use Rattle.meaning.specs.Values.{Value, built, bare}
use Rattle.meaning.specs.Application.{on_screen}
use Rattle.meaning.specs.Documents.{DocRow, Obj, name, placed_pairs, placed_items, row_placed, items, in_units, row_in, FitsKind, After, KeysRise, RowRises}
use Rattle.meaning.specs.Log.{Log}
use Rattle.meaning.specs.Making.{events_of, inserts, puts, written}
use Rattle.meaning.specs.Kept.{Tag, old, new, untag, replay, Told, LeadsRow}
use Rattle.meaning.proofs.Tests.{okay}
use Rattle.meaning.proofs.Members.{every_map, every_map₂, every_append, map_row_cong}
use Rattle.meaning.proofs.Splice.{edit_ok}
use Rattle.meaning.proofs.Natural.{placed_nat, replay_nat}
use Rattle.meaning.proofs.Tree.{refs_units}
use Rattle.meaning.proofs.Turn.{all_here, all_here_row}

-- carrying along twice
module _ {X Y Z : Type 0} (f : X → Y) (g : Y → Z) where
  map_item_comp : (e : Item X) → map_item g (map_item f e) ≡ map_item (λ x. g (f x)) e
  map_item_comp (scalar s b) = refl
  map_item_comp (object x b) = refl

  map_pairs_comp : (m : List (Key × Item X)) → map_pairs g (map_pairs f m) ≡ map_pairs (λ x. g (f x)) m
  map_pairs_comp [] = refl
  map_pairs_comp (x ∷ xs) = ap₂ (λ e l. (x.0, e) ∷ l) (map_item_comp x.1) (map_pairs_comp xs)

  map_items_comp : (m : List (Item X)) → map_items g (map_items f m) ≡ map_items (λ x. g (f x)) m
  map_items_comp [] = refl
  map_items_comp (x ∷ xs) = ap₂ (λ e l. e ∷ l) (map_item_comp x) (map_items_comp xs)

  pub map_row_comp : {W : Type 0} (ρ : Row W (Item X)) → map_row g (map_row f ρ) ≡ map_row (λ x. g (f x)) ρ
  map_row_comp (map_of m) = ap map_of (map_pairs_comp m)
  map_row_comp (list_of l) = ap list_of (map_items_comp l)
  map_row_comp (text_of t) = refl

module _ {X Y : Type 0} (f : X → Y) (P : Y → Type 0) where
  every_pairs_lem : (m : List (Key × Item X)) → Every P (refs_p (map_pairs f m)) → Every (λ x. P (f x)) (refs_p m)
  every_pairs_lem [] h = tt
  every_pairs_lem (x ∷ xs) h = go x.1 (every_pairs_lem xs) h
    where
      go : (e : Item X) → (Every P (refs_p (map_pairs f xs)) → Every (λ x. P (f x)) (refs_p xs)) → Every P (refs_e (map_item f e) ++ refs_p (map_pairs f xs)) → Every (λ x. P (f x)) (refs_e e ++ refs_p xs)
      go (scalar s b) ih h = ih h
      go (object r b) ih h = (h.0, ih h.1)

  every_items : (m : List (Item X)) → Every P (refs_l (map_items f m)) → Every (λ x. P (f x)) (refs_l m)
  every_items [] h = tt
  every_items (scalar s b ∷ xs) h = every_items xs h
  every_items (object r b ∷ xs) h = (h.0, every_items xs h.1)

  pub every_row : {W : Type 0} (ρ : Row W (Item X)) → Every P (refs (map_row f ρ)) → Every (λ x. P (f x)) (refs ρ)
  every_row (map_of m) h = every_pairs_lem m h
  every_row (list_of l) h = every_items l h
  every_row (text_of t) h = tt

-- a row's entries, carried along
module _ {Y : Type 0} (f : Ref → Y) where
  placed_pairs_lem : (m : List (Key × Entry)) → placed_pairs f m ≡ map_pairs f (placed_pairs (λ r. r) m)
  placed_pairs_lem [] = refl
  placed_pairs_lem (x ∷ xs) = ap₂ (λ e l. (x.0, e) ∷ l) (placed_nat f (λ r. r) x.1) (placed_pairs_lem xs)

  placed_items_lem : (l : List Entry) → placed_items f l ≡ map_items f (placed_items (λ r. r) l)
  placed_items_lem [] = refl
  placed_items_lem (x ∷ xs) = ap₂ (λ e l. e ∷ l) (placed_nat f (λ r. r) x) (placed_items_lem xs)

  placed_row : {U : Type 0} (units : List ℕ → List U) (r : DocRow) → in_units units (row_placed f r) ≡ map_row f (in_units units (row_placed (λ r. r) r))
  placed_row units (map_of m) = ap map_of (placed_pairs_lem m)
  placed_row units (list_of l) = ap list_of (placed_items_lem l)
  placed_row units (text_of t) = refl

-- an entry put at the end
put_end : {E : Type 0} (k : Key) (e : E) (m : List (Key × E)) → Every (λ (x : Key × E). compare_keys k x.0 ≡ Greater) m → put_in k e m ≡ m ++ ((k, e) ∷ [])
put_end k e [] h = refl
put_end k e (x ∷ xs) h =
    ap (λ c. by3 c ((k, e) ∷ x ∷ xs) ((k, e) ∷ xs) (x ∷ put_in k e xs)) h.0 ∙ ap (λ t. x ∷ t) (put_end k e xs h.1)

take_len : {A : Type 0} (xs : List A) → take (length xs) xs ≡ xs
take_len [] = refl
take_len (x ∷ xs) = ap (λ t. x ∷ t) (take_len xs)

drop_len : {A : Type 0} (xs : List A) → drop (length xs) xs ≡ []
drop_len [] = refl
drop_len (x ∷ xs) = drop_len xs

edit_end : {A : Type 0} (y : A) (xs : List A) → edit (length xs) 0 (y ∷ []) xs ≡ Ok (xs ++ (y ∷ []))
edit_end y xs =
    edit_ok (length xs) 0 (y ∷ []) xs (omega arith)
    ∙ okay (ap₂ (λ a b. a ++ (y ∷ b)) (take_len xs) (ap (λ n. drop n xs) (add-zero (length xs)) ∙ drop_len xs))

length_end : {A : Type 0} (y : A) (xs : List A) → length (xs ++ (y ∷ [])) ≡ suc (length xs)
length_end y [] = refl
length_end y (x ∷ xs) = ap suc (length_end y xs)

module _ {U : Type 0} (units : List ℕ → List U) where
  -- a kept object's turn
  module _ (l : Log) (va base : ℕ → Value U) where
    abbrev shows : Tag → Value U
    shows (old r) = va (ref_rank r)
    shows (new r) = bare r.kind

    abbrev pub Holds : Ref → Type 0
    Holds r = ((In (ref_rank r) (ranks l.exposed) → ⊥) → base (ref_rank r) ≡ va (ref_rank r)) × (In (ref_rank r) (ranks l.exposed) → base (ref_rank r) ≡ bare r.kind)

    shows_base : (t : Tag) → Told l t → Holds (untag t) → shows t ≡ base (ref_rank (untag t))
    shows_base (old r) a h = sym (h.0 a)
    shows_base (new r) a h = sym (h.1 a)

    pub kept_turn : (a b : Obj) → LeadsRow units l a b → Every Holds (refs (items b))
        → all_here units (events_of l.events (name a)) (built (map_row (λ (r : Ref). va (ref_rank r)) (row_in units a))) ≡ Ok (built (map_row (λ (r : Ref). base (ref_rank r)) (row_in units b)))
    kept_turn a b (ρ, e, u, told) h =
        let es = events_of l.events (name a) in
        let h' : Every Holds (refs (row_in units b)) = subst (Every Holds) (sym (refs_units units (items b))) h in
        let good : Every (λ t. shows t ≡ base (ref_rank (untag t))) (refs ρ) =
        every_map₂ (Told l) (λ t. Holds (untag t)) (λ t. shows t ≡ base (ref_rank (untag t))) (refs ρ) shows_base told
        (every_row untag Holds ρ (subst (λ x. Every Holds (refs x)) (sym u) h')) in
        ap (λ y. all_here units es (built y)) (sym (map_row_comp old shows (row_in units a)))
        ∙ all_here_row units es (map_row shows (map_row old (row_in units a)))
        ∙ ap (on_ok built) (replay_nat shows new units es (map_row old (row_in units a)) ∙ ap (on_ok (map_row shows)) e)
        ∙ okay (ap built (map_row_cong shows (λ t. base (ref_rank (untag t))) ρ good ∙ sym (map_row_comp untag (λ (r : Ref). base (ref_rank r)) ρ) ∙ ap (map_row (λ (r : Ref). base (ref_rank r))) u))

  -- a written-out object's turn
  module _ {X : Type 0} (g : Ref → X) (o : ObjId) where
    replay_puts : (m : List (Key × Entry)) (acc : List (Key × Item X)) → Every (λ (x : Key × Item X). After x.0 m) acc → KeysRise m → replay units g (puts o m) (map_of acc) ≡ Ok (map_of (acc ++ placed_pairs g m))
    replay_puts [] acc h k = okay (ap map_of (sym (append-nil acc)))
    replay_puts (y ∷ ys) acc h k =
        let front : Every (λ (x : Key × Item X). compare_keys y.0 x.0 ≡ Greater) acc = every_map _ _ acc (λ x _ a. a.0) h in
        let back : Every (λ (x : Key × Item X). After x.0 ys) acc = every_map _ _ acc (λ x _ a. a.1) h in
        let one : Key × Item X = (y.0, placed g y.1) in
        ap (λ t. replay units g (puts o ys) (map_of t)) (put_end y.0 (placed g y.1) acc front)
        ∙ replay_puts ys (acc ++ (one ∷ [])) (every_append (λ (x : Key × Item X). After x.0 ys) acc (one ∷ []) back (k.0, tt)) k.1
        ∙ okay (ap map_of (append_assoc acc (one ∷ []) (placed_pairs g ys)))

    replay_inserts : (l : List Entry) (acc : List (Item X)) → replay units g (inserts o (length acc) l) (list_of acc) ≡ Ok (list_of (acc ++ placed_items g l))
    replay_inserts [] acc = okay (ap list_of (sym (append-nil acc)))
    replay_inserts (e ∷ l) acc =
        ap (λ t. and_then (on_ok list_of t) (replay units g (inserts o (suc (length acc)) l))) (edit_end (placed g e) acc)
        ∙ ap (λ n. replay units g (inserts o n l) (list_of (acc ++ (placed g e ∷ [])))) (sym (length_end (placed g e) acc))
        ∙ replay_inserts l (acc ++ (placed g e ∷ []))
        ∙ okay (ap list_of (append_assoc acc (placed g e ∷ []) (placed_items g l)))

    abbrev bare_row : ObjType → Row (List U) (Item X)
    bare_row Map = map_of []
    bare_row Table = map_of []
    bare_row Sequence = list_of []
    bare_row Text = text_of []

    replay_written : (k : ObjType) (w : DocRow) → FitsKind k w → RowRises w → replay units g (written o w) (bare_row k) ≡ Ok (in_units units (row_placed g w))
    replay_written Map (map_of m) f r = replay_puts m [] tt r
    replay_written Map (list_of m) f r = absurd f
    replay_written Map (text_of m) f r = absurd f
    replay_written Table (map_of m) f r = replay_puts m [] tt r
    replay_written Table (list_of m) f r = absurd f
    replay_written Table (text_of m) f r = absurd f
    replay_written Sequence (map_of m) f r = absurd f
    replay_written Sequence (list_of l) f r = replay_inserts l []
    replay_written Sequence (text_of m) f r = absurd f
    replay_written Text (map_of m) f r = absurd f
    replay_written Text (list_of m) f r = absurd f
    replay_written Text (text_of t) f r = okay (ap text_of (append-nil (units t)))

  bare_row_lem : (o : ObjId) (k : ObjType) → bare k ≡ built (bare_row on_screen o k)
  bare_row_lem o Map = refl
  bare_row_lem o Table = refl
  bare_row_lem o Sequence = refl
  bare_row_lem o Text = refl

  pub written_turn : (b : Obj) → FitsKind b.kind b.row → RowRises b.row → all_here units (written b.ident b.row) (bare b.kind) ≡ Ok (built (map_row on_screen (row_in units b)))
  written_turn b f r =
      ap (all_here units (written b.ident b.row)) (bare_row_lem b.ident b.kind)
      ∙ all_here_row units (written b.ident b.row) (bare_row on_screen b.ident b.kind)
      ∙ ap (on_ok built) (replay_written on_screen b.ident b.kind b.row f r)
      ∙ okay (ap built (placed_row on_screen units b.row))
