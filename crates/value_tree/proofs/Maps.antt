-- Actions in maps.
use Rattle.std.proofs.Common.{◌≡◌, ℕ, zero, suc, ◌+◌, ◌<◌, ◌≤◌, true, List, [], ◌∷◌, ◌++◌, map, length, get_or, take, drop, Ok, Err, Ordering, Less, Equal, Greater, sym, refl, ap, ◌∙◌, ⊎_elim, arith}
use Rattle.std.proofs.lemmas.Bool.{cases_lt}
use Rattle.types.specs.declared.error.Refusal.{Refusal}
use Rattle.types.specs.declared.error.Refusal.TheVariants.{InvalidMapOp, InvalidKey}
use Rattle.meaning.specs.Results.{Answer, on_ok}
use Rattle.meaning.specs.Entries.{Key, compare_keys, by3, Entry, Item, placed}
use Rattle.meaning.specs.Patches.{key, pos, Action, put_map, put_seq, insert, splice_text, increment, conflict, delete_map, delete_seq}
use Rattle.meaning.specs.Rows.{map_of, mod_in, put_in, del_in, in_map, raised as raised_item, flagged as flagged_item}
use Rattle.meaning.specs.Values.{Value, map_v, built}
use Rattle.meaning.specs.Application.{here, on_screen}
use Rattle.meaning.proofs.Tests.{okay}
use Rattle.node_chains.specs.Tree.{Tree, Forest, node, none, forest, trees, change, update, relabel}
use Rattle.node_chains.specs.declared.node.Content.TheVariants.{Map}
use Rattle.node_chains.proofs.Weights.{forest_trees}
use Rattle.sequence_tree.specs.Lists.{spliced}
use Rattle.node_table.specs.Held.{Datum, flagged, raised}
use Rattle.node_table.specs.Values.{container_of, top, value_of, entries_of, cells_of, KeyAt}
use Rattle.node_table.proofs.KeyOrder.{less_less}
use Rattle.node_table.proofs.Bridges.{key_itself, no_key, other_branch, item_in, pair_in, list_entries, entries_back, mod_in_lem, mod_in_no}
use Rattle.value_tree.specs.Entries.{placed_tree, put_over, KeyGone}
use Rattle.value_tree.specs.Acts.{not_for_map, MapEdits, MapsAgree}
use Rattle.value_tree.proofs.Edits.{item_new, item_over, raise_done, raise_refused, item_flagged}

-- the order of two keys, from the other side
flipped : (j k : Key) → compare_keys j k ≡ Less → compare_keys k j ≡ Greater
flipped j k h = go (compare_keys k j) refl
  where
    go : (o : Ordering) → compare_keys k j ≡ o → compare_keys k j ≡ Greater
    go Less e = let l = less_less j k j h e in let s = key_itself j in absurd (let z : ◌≡◌ {A = ℕ} 0 1 = cc in omega arith)
    go Equal e = absurd (no_key j k h e)
    go Greater e = e

-- one step along a map's entries
module _ {E : Type 0} (k j : Key) (f : E) (xs : List (Key × E)) where
  put_before : (e : E) → compare_keys k j ≡ Less → put_in k e ((j, f) ∷ xs) ≡ (k, e) ∷ (j, f) ∷ xs
  put_before e h = ap (λ o. by3 o ((k, e) ∷ (j, f) ∷ xs) ((k, e) ∷ xs) ((j, f) ∷ put_in k e xs)) h

  put_same : (e : E) → compare_keys k j ≡ Equal → put_in k e ((j, f) ∷ xs) ≡ (k, e) ∷ xs
  put_same e h = ap (λ o. by3 o ((k, e) ∷ (j, f) ∷ xs) ((k, e) ∷ xs) ((j, f) ∷ put_in k e xs)) h

  put_after : (e : E) → compare_keys k j ≡ Greater → put_in k e ((j, f) ∷ xs) ≡ (j, f) ∷ put_in k e xs
  put_after e h = ap (λ o. by3 o ((k, e) ∷ (j, f) ∷ xs) ((k, e) ∷ xs) ((j, f) ∷ put_in k e xs)) h

  delete_same : compare_keys k j ≡ Equal → del_in k ((j, f) ∷ xs) ≡ xs
  delete_same h = ap (λ o. by3 o ((j, f) ∷ del_in k xs) xs ((j, f) ∷ del_in k xs)) h

  delete_other : (compare_keys k j ≡ Equal → ⊥) → del_in k ((j, f) ∷ xs) ≡ (j, f) ∷ del_in k xs
  delete_other ne = other_branch (compare_keys k j) ((j, f) ∷ del_in k xs) xs ne

  mod_other : (r : Refusal) (g : E → Answer E) → (compare_keys k j ≡ Equal → ⊥) → mod_in r k g ((j, f) ∷ xs) ≡ on_ok (λ ys. (j, f) ∷ ys) (mod_in r k g xs)
  mod_other r g ne = other_branch (compare_keys k j) (on_ok (λ ys. (j, f) ∷ ys) (mod_in r k g xs)) (on_ok (λ y. (j, y) ∷ xs) (g f)) ne

module _ {U : Type 0} where
  pair_new : (k : Key) (e : Entry) → (k, placed on_screen e) ≡ pair_in {U = U} (placed_tree k e)
  pair_new k e = ap (λ i. (k, i)) (sym (item_new k e))

  pair_over : (e : Entry) (k : Key) (t : Tree (Datum U)) → (top t).key ≡ k → (k, placed on_screen e) ≡ pair_in (put_over e t)
  pair_over e k (node x ts) h = let i = item_over e (node x ts) in cc

  -- the same place among the trees after the first
  next_at : (d : Datum U) (k : Key) (p : ℕ) (t : Tree (Datum U)) (ts : List (Tree (Datum U))) → KeyAt d k (suc p) (t ∷ ts) → KeyAt d k p ts
  next_at d k p t ts K = record { inside = omega (arith, K.inside); same = K.same; above = λ q l. K.above (suc q) (omega arith) }

  next_gone : (d : Datum U) (k : Key) (p : ℕ) (t : Tree (Datum U)) (ts : List (Tree (Datum U))) → KeyGone d k (suc p) (t ∷ ts) → KeyGone d k p ts
  next_gone d k p t ts K = record { within = omega (arith, K.within); above = λ q l. K.above (suc q) (omega arith); below = λ q l m. K.below (suc q) (omega arith) (omega arith) }

  -- a key put over its entry
  put_over_pairs : (e : Entry) (d : Datum U) (k : Key) (ts : List (Tree (Datum U))) (p : ℕ) → KeyAt d k p ts → put_in k (placed on_screen e) (map pair_in ts) ≡ map pair_in (change ts p (update [] (put_over e)))
  put_over_pairs e d k [] p K = absurd (omega (arith, K.inside))
  put_over_pairs e d k (t ∷ ts) zero K =
      put_same k (top t).key (item_in t) (map pair_in ts) (placed on_screen e) (ap (compare_keys k) K.same ∙ key_itself k) ∙ ap (λ q. q ∷ map pair_in ts) (pair_over e k t K.same)
  put_over_pairs e d k (t ∷ ts) (suc p) K =
      put_after k (top t).key (item_in t) (map pair_in ts) (placed on_screen e) (flipped (top t).key k (K.above zero (omega arith)))
      ∙ ap (λ qs. pair_in t ∷ qs) (put_over_pairs e d k ts p (next_at d k p t ts K))

  -- a key put in its place
  put_new : (e : Entry) (d : Datum U) (k : Key) (ts : List (Tree (Datum U))) (p : ℕ) → KeyGone d k p ts → put_in k (placed on_screen e) (map pair_in ts) ≡ map pair_in (take p ts ++ placed_tree k e ∷ drop p ts)
  put_new e d k [] zero K = ap (λ q. q ∷ []) (pair_new k e)
  put_new e d k [] (suc p) K = absurd (omega (arith, K.within))
  put_new e d k (t ∷ ts) zero K =
      put_before k (top t).key (item_in t) (map pair_in ts) (placed on_screen e) (K.below zero (omega arith) (omega arith)) ∙ ap (λ q. q ∷ pair_in t ∷ map pair_in ts) (pair_new k e)
  put_new e d k (t ∷ ts) (suc p) K =
      put_after k (top t).key (item_in t) (map pair_in ts) (placed on_screen e) (flipped (top t).key k (K.above zero (omega arith)))
      ∙ ap (λ qs. pair_in t ∷ qs) (put_new e d k ts p (next_gone d k p t ts K))

  -- a key deleted
  delete_key : (d : Datum U) (k : Key) (ts : List (Tree (Datum U))) (p : ℕ) → KeyAt d k p ts → del_in k (map pair_in ts) ≡ map pair_in (take p ts ++ drop (suc p) ts)
  delete_key d k [] p K = absurd (omega (arith, K.inside))
  delete_key d k (t ∷ ts) zero K = delete_same k (top t).key (item_in t) (map pair_in ts) (ap (compare_keys k) K.same ∙ key_itself k)
  delete_key d k (t ∷ ts) (suc p) K =
      delete_other k (top t).key (item_in t) (map pair_in ts) (no_key (top t).key k (K.above zero (omega arith))) ∙ ap (λ qs. pair_in t ∷ qs) (delete_key d k ts p (next_at d k p t ts K))

  -- no tree has the key
  abbrev NoKey : Datum U → Key → List (Tree (Datum U)) → Type 0
  NoKey d k ts = (q : ℕ) → q < length ts → compare_keys k (top (get_or ts q (node d none))).key ≡ Equal → ⊥

  none_has : (d : Datum U) (k : Key) (ts : List (Tree (Datum U))) (p : ℕ) → KeyGone d k p ts → NoKey d k ts
  none_has d k ts p K q l e = ⊎_elim
      (λ (a : q < p). no_key (top (get_or ts q (node d none))).key k (K.above q a) e)
      (λ (b : p ≤ q). let s = K.below q b l in absurd (let z : ◌≡◌ {A = ℕ} 0 1 = cc in omega arith)) (cases_lt q p)

  delete_none : (d : Datum U) (k : Key) (ts : List (Tree (Datum U))) → NoKey d k ts → del_in k (map pair_in ts) ≡ map pair_in ts
  delete_none d k [] n = refl
  delete_none d k (t ∷ ts) n =
      delete_other k (top t).key (item_in t) (map pair_in ts) (n zero (omega arith)) ∙ ap (λ qs. pair_in t ∷ qs) (delete_none d k ts (λ q l. n (suc q) (omega arith)))

  mod_none : (r : Refusal) (g : Item (Value U) → Answer (Item (Value U))) (d : Datum U) (k : Key) (ts : List (Tree (Datum U))) → NoKey d k ts → mod_in r k g (map pair_in ts) ≡ Err r
  mod_none r g d k [] n = refl
  mod_none r g d k (t ∷ ts) n =
      mod_other k (top t).key (item_in t) (map pair_in ts) r g (n zero (omega arith)) ∙ ap (on_ok (λ qs. pair_in t ∷ qs)) (mod_none r g d k ts (λ q l. n (suc q) (omega arith)))

  -- what a flag or an increment keeps
  same_key : (h : Datum U → Datum U) → ((x : Datum U) → (h x).key ≡ x.key) → (t : Tree (Datum U)) → (top (relabel h t)).key ≡ (top t).key
  same_key h e (node x ts) = e x

module _ {U : Type 0} (units : List ℕ → List U) (x : Datum U) (ts : Forest (Datum U)) (h : x.content ≡ Map) where
  -- what stands in the tree of a map
  value_is : (us : Forest (Datum U)) → value_of (node x us) ≡ map_v (entries_of us)
  value_is us = ap (λ c. container_of c x.units (entries_of us) (cells_of us)) h

  here_is : (a : Action U) → here units a (value_of (node x ts)) ≡ on_ok built (on_ok map_of (in_map units on_screen a (map pair_in (trees ts))))
  here_is a = ap (here units a) (value_is ts) ∙ ap (λ m. on_ok built (on_ok map_of (in_map units on_screen a m))) (list_entries ts)

  done : (a : Action U) (us : List (Tree (Datum U))) → in_map units on_screen a (map pair_in (trees ts)) ≡ Ok (map pair_in us) → here units a (value_of (node x ts)) ≡ Ok (value_of (node x (forest us)))
  done a us e = here_is a ∙ ap (λ m. on_ok built (on_ok map_of m)) e ∙ okay (ap map_v (entries_back us) ∙ sym (value_is (forest us)))

  refused : (a : Action U) (r : Refusal) → in_map units on_screen a (map pair_in (trees ts)) ≡ Err r → here units a (value_of (node x ts)) ≡ Err r
  refused a r e = here_is a ∙ ap (λ m. on_ok built (on_ok map_of m)) e

  put_gone : (k : Key) (e : Entry) (p : ℕ) → KeyGone x k p (trees ts) → here units (put_map k e) (value_of (node x ts)) ≡ Ok (value_of (node x (forest (spliced (trees ts) p 0 (placed_tree k e ∷ [])))))
  put_gone k e p K =
      let n : p ≡ p + 0 = omega arith in
      done (put_map k e) (spliced (trees ts) p 0 (placed_tree k e ∷ [])) (okay (put_new e x k (trees ts) p K ∙ ap (λ m. map pair_in (take p (trees ts) ++ placed_tree k e ∷ drop m (trees ts))) n))

  delete_found : (k : Key) (p : ℕ) → KeyAt x k p (trees ts) → here units (delete_map k) (value_of (node x ts)) ≡ Ok (value_of (node x (forest (spliced (trees ts) p 1 []))))
  delete_found k p K =
      let n : suc p ≡ p + 1 = omega arith in
      done (delete_map k) (spliced (trees ts) p 1 []) (okay (delete_key x k (trees ts) p K ∙ ap (λ m. map pair_in (take p (trees ts) ++ drop m (trees ts))) n))

  delete_gone : (k : Key) (p : ℕ) → KeyGone x k p (trees ts) → here units (delete_map k) (value_of (node x ts)) ≡ Ok (value_of (node x ts))
  delete_gone k p K =
      done (delete_map k) (trees ts) (okay (delete_none x k (trees ts) (none_has x k (trees ts) p K))) ∙ okay (ap (λ us. value_of (node x us)) (forest_trees ts))

  -- the entry of a key
  relabelled : (a : Action U) (k : Key) (g : Item (Value U) → Answer (Item (Value U))) (w : Datum U → Datum U) (p : ℕ) → KeyAt x k p (trees ts) → ((y : Datum U) → (w y).key ≡ y.key)
      → in_map units on_screen a (map pair_in (trees ts)) ≡ mod_in InvalidKey k g (map pair_in (trees ts))
      → g (item_in (get_or (trees ts) p (node x none))) ≡ Ok (item_in (relabel w (get_or (trees ts) p (node x none))))
      → here units a (value_of (node x ts)) ≡ Ok (value_of (update (p ∷ []) (relabel w) (node x ts)))
  relabelled a k g w p K kept m e =
      done a (change (trees ts) p (update [] (relabel w))) (m ∙ mod_in_lem InvalidKey g x k (update [] (relabel w)) (trees ts) p K (same_key w kept (get_or (trees ts) p (node x none))) e)

  gone : (a : Action U) (k : Key) (g : Item (Value U) → Answer (Item (Value U))) (p : ℕ) → KeyGone x k p (trees ts)
      → in_map units on_screen a (map pair_in (trees ts)) ≡ mod_in InvalidKey k g (map pair_in (trees ts)) → here units a (value_of (node x ts)) ≡ Err InvalidKey
  gone a k g p K m = refused a InvalidKey (m ∙ mod_none InvalidKey g x k (trees ts) (none_has x k (trees ts) p K))

  wrong : (a : Action U) → not_for_map a ≡ true → here units a (value_of (node x ts)) ≡ Err InvalidMapOp
  wrong (put_map k e) n = absurd (let z : ◌≡◌ {A = ℕ} 0 1 = cc in omega arith)
  wrong (put_seq i e) n = refused (put_seq i e) InvalidMapOp refl
  wrong (insert i es) n = refused (insert i es) InvalidMapOp refl
  wrong (splice_text i ys) n = refused (splice_text i ys) InvalidMapOp refl
  wrong (increment (key k) m) n = absurd (let z : ◌≡◌ {A = ℕ} 0 1 = cc in omega arith)
  wrong (increment (pos i) m) n = refused (increment (pos i) m) InvalidMapOp refl
  wrong (conflict (key k)) n = absurd (let z : ◌≡◌ {A = ℕ} 0 1 = cc in omega arith)
  wrong (conflict (pos i)) n = refused (conflict (pos i)) InvalidMapOp refl
  wrong (delete_map k) n = absurd (let z : ◌≡◌ {A = ℕ} 0 1 = cc in omega arith)
  wrong (delete_seq i m) n = refused (delete_seq i m) InvalidMapOp refl

  map_edits : MapEdits units x ts
  map_edits =
      let at = λ (p : ℕ). get_or (trees ts) p (node x none) in
      record {
        put_found = λ k e p K. done (put_map k e) (change (trees ts) p (update [] (put_over e))) (okay (put_over_pairs e x k (trees ts) p K));
        put_gone = put_gone;
        delete_found = delete_found;
        delete_gone = delete_gone;
        increment_found = λ k n p K e. relabelled (increment (key k) n) k (raised_item n) (raised n) p K (λ y. refl) refl (raise_done n (at p) e);
        increment_refused = λ k n p r K e. refused (increment (key k) n) r (mod_in_no InvalidKey (raised_item n) x k r (trees ts) p K (raise_refused n (at p) r e));
        increment_gone = λ k n p K. gone (increment (key k) n) k (raised_item n) p K refl;
        conflict_found = λ k p K. relabelled (conflict (key k)) k flagged_item flagged p K (λ y. refl) refl (item_flagged (at p));
        conflict_gone = λ k p K. gone (conflict (key k)) k flagged_item p K refl;
        wrong_map = wrong;
      }

pub maps : {U : Type 0} → MapsAgree U
maps units x ts h = map_edits units x ts h
