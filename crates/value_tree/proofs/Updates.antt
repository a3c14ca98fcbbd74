-- Changes of trees, one after another.
use Rattle.std.proofs.Common.{◌≡◌, ℕ, zero, suc, ◌+◌, ◌<◌, ◌≤◌, List, [], ◌∷◌, ◌++◌, length, get_or, take, drop, sym, refl, ap, ◌∙◌, arith}
use Rattle.std.proofs.lemmas.List.{append_assoc, length-append, length-take-le, take-append-drop, take_at, drop_at, drop-drop}
use Rattle.sequence_tree.specs.Lists.{spliced}
use Rattle.meaning.specs.Patches.{Prop, key, pos}
use Rattle.node_chains.specs.Tree.{Tree, Forest, node, none, forest, trees, change, update, splice_kids, relabel}
use Rattle.node_chains.proofs.Frames.{trees_forest}
use Rattle.node_chains.proofs.Weights.{part, Leads, forest_trees}
use Rattle.node_table.specs.Held.{Datum, respelled}
use Rattle.node_table.specs.Values.{Follows, part_at}

-- one element changed
pub change_change : {X : Type 0} (xs : List X) (p : ℕ) (g h : X → X) → change (change xs p g) p h ≡ change xs p (λ x. h (g x))
change_change [] p g h = refl
change_change (x ∷ xs) zero g h = refl
change_change (x ∷ xs) (suc p) g h = ap (λ ys. x ∷ ys) (change_change xs p g h)

pub length_change : {X : Type 0} (xs : List X) (p : ℕ) (g : X → X) → length (change xs p g) ≡ length xs
length_change [] p g = refl
length_change (x ∷ xs) zero g = refl
length_change (x ∷ xs) (suc p) g = ap suc (length_change xs p g)

pub get_or_change : {X : Type 0} (xs : List X) (p : ℕ) (g : X → X) (d : X) → p < length xs → get_or (change xs p g) p d ≡ g (get_or xs p d)
get_or_change [] p g d l = absurd (omega arith)
get_or_change (x ∷ xs) zero g d l = refl
get_or_change (x ∷ xs) (suc p) g d l = get_or_change xs p g d (omega arith)

pub get_or_change_other : {X : Type 0} (xs : List X) (p q : ℕ) (g : X → X) (d : X) → (q ≡ p → ⊥) → get_or (change xs p g) q d ≡ get_or xs q d
get_or_change_other [] p q g d ne = refl
get_or_change_other (x ∷ xs) zero zero g d ne = absurd (ne refl)
get_or_change_other (x ∷ xs) zero (suc q) g d ne = refl
get_or_change_other (x ∷ xs) (suc p) zero g d ne = refl
get_or_change_other (x ∷ xs) (suc p) (suc q) g d ne = get_or_change_other xs p q g d (λ e. ne (ap suc e))

-- a change at a path
module _ {D : Type 0} where
  pub update_then : (ps : List ℕ) (g h : Tree D → Tree D) (t : Tree D) → update ps h (update ps g t) ≡ update ps (λ x. h (g x)) t
  update_then [] g h t = refl
  update_then (p ∷ ps) g h (node x ts) =
      ap (λ us. node x (forest (change us p (update ps h)))) (trees_forest (change (trees ts) p (update ps g)))
      ∙ ap (λ us. node x (forest us)) (change_change (trees ts) p (update ps g) (update ps h))
      ∙ ap (λ f. node x (forest (change (trees ts) p f))) (λ i. λ y. update_then ps g h y i)

  -- the child that a change is for, and the number of children
  pub child_changed : (ts : List (Tree D)) (p : ℕ) (g : Tree D → Tree D) (d : Tree D) → p < length ts → get_or (trees (forest (change ts p g))) p d ≡ g (get_or ts p d)
  child_changed ts p g d l = ap (λ us. get_or us p d) (trees_forest (change ts p g)) ∙ get_or_change ts p g d l

  pub kids_kept : (ts : List (Tree D)) (p : ℕ) (g : Tree D → Tree D) → length (trees (forest (change ts p g))) ≡ length ts
  kids_kept ts p g = ap length (trees_forest (change ts p g)) ∙ length_change ts p g

  pub leads_update : (ps : List ℕ) (g : Tree D → Tree D) (t : Tree D) → Leads ps t → Leads ps (update ps g t)
  leads_update [] g t h = tt
  leads_update (p ∷ ps) g (node x ts) h =
      let n = kids_kept (trees ts) p (update ps g) in
      let e = child_changed (trees ts) p (update ps g) (node x none) h.0 in
      (omega (arith, h.0), rw e (leads_update ps g (get_or (trees ts) p (node x none)) h.1))

  pub part_update : (ps : List ℕ) (g : Tree D → Tree D) (t : Tree D) → Leads ps t → part ps (update ps g t) ≡ g (part ps t)
  part_update [] g t h = refl
  part_update (p ∷ ps) g (node x ts) h =
      ap (part ps) (child_changed (trees ts) p (update ps g) (node x none) h.0) ∙ part_update ps g (get_or (trees ts) p (node x none)) h.1

  pub update_child : (ps : List ℕ) (p : ℕ) (g : Tree D → Tree D) (t : Tree D) → update (ps ++ (p ∷ [])) g t ≡ update ps (update (p ∷ []) g) t
  update_child [] p g t = refl
  update_child (q ∷ ps) p g (node x ts) = ap (λ f. node x (forest (change (trees ts) q f))) (λ i. λ y. update_child ps p g y i)

-- the part at a path, by either name, and where keys and positions lead
module _ {U : Type 0} where
  pub part_is : (ps : List ℕ) (t : Tree (Datum U)) → part ps t ≡ part_at ps t
  part_is [] t = refl
  part_is (p ∷ ps) (node x ts) = part_is ps (get_or (trees ts) p (node x none))

  pub follows_leads : (path : List Prop) (ps : List ℕ) (t : Tree (Datum U)) → Follows path ps t → Leads ps t
  follows_leads [] [] t h = tt
  follows_leads [] (p ∷ ps) t h = absurd h
  follows_leads (s ∷ path) [] t h = tt
  follows_leads (key k ∷ path) (p ∷ ps) (node x ts) h = (h.1.inside, follows_leads path ps (get_or (trees ts) p (node x none)) h.2)
  follows_leads (pos i ∷ path) (p ∷ ps) (node x ts) h = (h.1.1, follows_leads path ps (get_or (trees ts) p (node x none)) h.2)

  pub follows_length : (path : List Prop) (ps : List ℕ) (t : Tree (Datum U)) → Follows path ps t → length ps ≡ length path
  follows_length [] [] t h = refl
  follows_length [] (p ∷ ps) t h = absurd h
  follows_length (s ∷ path) [] t h = absurd h
  follows_length (key k ∷ path) (p ∷ ps) (node x ts) h = ap suc (follows_length path ps (get_or (trees ts) p (node x none)) h.2)
  follows_length (pos i ∷ path) (p ∷ ps) (node x ts) h = ap suc (follows_length path ps (get_or (trees ts) p (node x none)) h.2)

-- two parts replaced, the second right after what the first put in
pub spliced_twice : {X : Type 0} (zs : List X) (i n k : ℕ) (xs ys : List X) → i ≤ length zs → spliced (spliced zs i n xs) (i + length xs) k ys ≡ spliced zs i (n + k) (xs ++ ys)
spliced_twice zs i n k xs ys l =
    let m : length (take i zs ++ xs) ≡ i + length xs = length-append (take i zs) xs ∙ ap (λ j. j + length xs) (length-take-le i zs l) in
    let a = append_assoc (take i zs) xs (drop (i + n) zs) in
    let b : take (i + length xs) (spliced zs i n xs) ≡ take i zs ++ xs = ap (take (i + length xs)) (sym a) ∙ take_at (take i zs ++ xs) (drop (i + n) zs) (i + length xs) m in
    let c : drop (i + length xs) (spliced zs i n xs) ≡ drop (i + n) zs = ap (drop (i + length xs)) (sym a) ∙ drop_at (take i zs ++ xs) (drop (i + n) zs) (i + length xs) m in
    let d : drop (i + length xs + k) (spliced zs i n xs) ≡ drop (i + (n + k)) zs =
    sym (drop-drop k (i + length xs) (spliced zs i n xs)) ∙ ap (drop k) c ∙ drop-drop k (i + n) zs ∙ ap (λ j. drop j zs) (let e : i + n + k ≡ i + (n + k) = omega arith in e) in
    let f = append_assoc (take i zs) xs (ys ++ drop (i + (n + k)) zs) in
    let g = append_assoc xs ys (drop (i + (n + k)) zs) in
    cc

pub spliced_none : {X : Type 0} (zs : List X) (i : ℕ) → spliced zs i 0 [] ≡ zs
spliced_none zs i = ap (λ j. take i zs ++ drop j zs) (let e : i + 0 ≡ i = omega arith in e) ∙ take-append-drop i zs

-- children put in and taken out, one after another
module _ {D : Type 0} (x : D) (ts : Forest D) where
  pub kids_twice : (i n k : ℕ) (xs ys : List (Tree D)) → i ≤ length (trees ts) → splice_kids (i + length xs) k ys (splice_kids i n xs (node x ts)) ≡ splice_kids i (n + k) (xs ++ ys) (node x ts)
  kids_twice i n k xs ys l =
      ap (λ us. node x (forest (spliced us (i + length xs) k ys))) (trees_forest (spliced (trees ts) i n xs))
      ∙ ap (λ us. node x (forest us)) (spliced_twice (trees ts) i n k xs ys l)

  pub kids_insert : (i : ℕ) (xs : List (Tree D)) (y : Tree D) → i ≤ length (trees ts)
      → splice_kids (i + length xs) 0 (y ∷ []) (splice_kids i 0 xs (node x ts)) ≡ splice_kids i 0 (xs ++ (y ∷ [])) (node x ts)
  kids_insert i xs y l = kids_twice i 0 0 xs (y ∷ []) l

  pub kids_delete : (i n : ℕ) → i + (n + 1) ≤ length (trees ts) → splice_kids i 1 [] (splice_kids i n [] (node x ts)) ≡ splice_kids i (n + 1) [] (node x ts)
  kids_delete i n l =
      ap (λ j. splice_kids j 1 [] (splice_kids i n [] (node x ts))) (let e : i ≡ i + 0 = omega arith in e) ∙ kids_twice i n 1 [] [] (omega arith)

  pub kids_none : (i : ℕ) → splice_kids i 0 [] (node x ts) ≡ node x ts
  kids_none i = ap (λ us. node x (forest us)) (spliced_none (trees ts) i) ∙ ap (node x) (forest_trees ts)

-- units put in and taken out, one after another
pub relabel_then : {D : Type 0} (g h : D → D) (t : Tree D) → relabel h (relabel g t) ≡ relabel (λ x. h (g x)) t
relabel_then g h (node x ts) = refl

module _ {U : Type 0} (d : Datum U) where
  abbrev spelled : List U → Datum U
  spelled us = record { key = d.key; content = d.content; conflict = d.conflict; string = d.string; units = us }

  pub respelled_more : (i : ℕ) (xs ys : List U) → i ≤ length d.units → respelled (i + length xs) 0 ys (respelled i 0 xs d) ≡ respelled i 0 (xs ++ ys) d
  respelled_more i xs ys l = ap spelled (spliced_twice d.units i 0 0 xs ys l)

  pub respelled_put : (i : ℕ) (ys : List U) → i + 1 ≤ length d.units → respelled i 0 ys (respelled i 1 [] d) ≡ respelled i 1 ys d
  respelled_put i ys l =
      ap (λ j. spelled (spliced (spliced d.units i 1 []) j 0 ys)) (let e : i ≡ i + 0 = omega arith in e) ∙ ap spelled (spliced_twice d.units i 1 0 [] ys (omega arith))

  pub respelled_none : (i : ℕ) → respelled i 0 [] d ≡ d
  respelled_none i = ap spelled (spliced_none d.units i)
