-- Actions in lists.
use Rattle.std.proofs.Common.{◌≡◌, ℕ, zero, suc, ◌+◌, ◌<◌, ◌≤◌, true, List, [], ◌∷◌, map, length, get_or, Ok, Err, sym, refl, ap, ◌∙◌, arith}
use lib.ListN.{length-map}
use Rattle.types.specs.declared.error.Refusal.{Refusal}
use Rattle.types.specs.declared.error.Refusal.TheVariants.{InvalidListOp, InvalidIndex}
use Rattle.meaning.specs.Results.{Answer, on_ok}
use Rattle.meaning.specs.Lists.{splice, edit}
use Rattle.meaning.specs.Entries.{Item, placed}
use Rattle.meaning.specs.Patches.{key, pos, Action, put_map, put_seq, insert, splice_text, increment, conflict, delete_map, delete_seq}
use Rattle.meaning.specs.Rows.{list_of, mod_at, in_list, raised as raised_item, flagged as flagged_item}
use Rattle.meaning.specs.Values.{Value, list_v, built}
use Rattle.meaning.specs.Application.{here, on_screen}
use Rattle.meaning.proofs.Tests.{okay}
use Rattle.node_chains.specs.Tree.{Tree, Forest, node, none, forest, trees, change, update, relabel}
use Rattle.node_chains.specs.declared.node.Content.TheVariants.{List as Sequence}
use Rattle.node_table.specs.Held.{Datum, flagged, raised}
use Rattle.node_table.specs.Values.{container_of, value_of, entries_of, cells_of}
use Rattle.node_table.proofs.Bridges.{item_in, list_cells, cells_back, mod_at_lem, mod_at_no}
use Rattle.value_tree.specs.Entries.{placed_tree, put_over}
use Rattle.value_tree.specs.Acts.{not_for_list, ListEdits, ListsAgree}
use Rattle.value_tree.proofs.Edits.{edit_map, edit_past, items_new, item_over, raise_done, raise_refused, item_flagged}

-- a position past the end
mod_past : {E : Type 0} (r : Refusal) (i : ℕ) (g : E → Answer E) (xs : List E) → length xs ≤ i → mod_at r i g xs ≡ Err r
mod_past r i g [] h = refl
mod_past r zero g (x ∷ xs) h = absurd (omega arith)
mod_past r (suc i) g (x ∷ xs) h = ap (on_ok (λ ys. x ∷ ys)) (mod_past r i g xs (omega arith))

module _ {U : Type 0} (units : List ℕ → List U) (x : Datum U) (ts : Forest (Datum U)) (h : x.content ≡ Sequence) where
  -- what stands in the tree of a list
  value_is : (us : Forest (Datum U)) → value_of (node x us) ≡ list_v (cells_of us)
  value_is us = ap (λ c. container_of c x.units (entries_of us) (cells_of us)) h

  here_is : (a : Action U) → here units a (value_of (node x ts)) ≡ on_ok built (on_ok list_of (in_list units on_screen a (map item_in (trees ts))))
  here_is a = ap (here units a) (value_is ts) ∙ ap (λ l. on_ok built (on_ok list_of (in_list units on_screen a l))) (list_cells ts)

  done : (a : Action U) (us : List (Tree (Datum U))) → in_list units on_screen a (map item_in (trees ts)) ≡ Ok (map item_in us) → here units a (value_of (node x ts)) ≡ Ok (value_of (node x (forest us)))
  done a us e = here_is a ∙ ap (λ l. on_ok built (on_ok list_of l)) e ∙ okay (ap list_v (cells_back us) ∙ sym (value_is (forest us)))

  refused : (a : Action U) (r : Refusal) → in_list units on_screen a (map item_in (trees ts)) ≡ Err r → here units a (value_of (node x ts)) ≡ Err r
  refused a r e = here_is a ∙ ap (λ l. on_ok built (on_ok list_of l)) e

  -- one element
  changed : (a : Action U) (g : Item (Value U) → Answer (Item (Value U))) (w : Tree (Datum U) → Tree (Datum U)) (i : ℕ) → i < length (trees ts)
      → in_list units on_screen a (map item_in (trees ts)) ≡ mod_at InvalidIndex i g (map item_in (trees ts))
      → g (item_in (get_or (trees ts) i (node x none))) ≡ Ok (item_in (w (get_or (trees ts) i (node x none))))
      → here units a (value_of (node x ts)) ≡ Ok (value_of (update (i ∷ []) w (node x ts)))
  changed a g w i l m e = done a (change (trees ts) i (update [] w)) (m ∙ mod_at_lem InvalidIndex g (node x none) (update [] w) (trees ts) i l e)

  past : (a : Action U) (g : Item (Value U) → Answer (Item (Value U))) (i : ℕ) → length (trees ts) ≤ i
      → in_list units on_screen a (map item_in (trees ts)) ≡ mod_at InvalidIndex i g (map item_in (trees ts)) → here units a (value_of (node x ts)) ≡ Err InvalidIndex
  past a g i l m = refused a InvalidIndex (m ∙ mod_past InvalidIndex i g (map item_in (trees ts)) (rw (length-map (trees ts) item_in) l))

  -- several elements
  spliced_in : (a : Action U) (i n : ℕ) (us : List (Tree (Datum U))) → i + n ≤ length (trees ts)
      → in_list units on_screen a (map item_in (trees ts)) ≡ edit i n (map item_in us) (map item_in (trees ts))
      → here units a (value_of (node x ts)) ≡ Ok (value_of (node x (forest (splice i n us (trees ts)))))
  spliced_in a i n us l m = done a (splice i n us (trees ts)) (m ∙ edit_map item_in i n us (trees ts) l)

  spliced_past : (a : Action U) (i n : ℕ) (is : List (Item (Value U))) → length (trees ts) < i + n
      → in_list units on_screen a (map item_in (trees ts)) ≡ edit i n is (map item_in (trees ts)) → here units a (value_of (node x ts)) ≡ Err InvalidIndex
  spliced_past a i n is l m = refused a InvalidIndex (m ∙ edit_past i n is (map item_in (trees ts)) (rw (length-map (trees ts) item_in) l))

  wrong : (a : Action U) → not_for_list a ≡ true → here units a (value_of (node x ts)) ≡ Err InvalidListOp
  wrong (put_map k e) n = refused (put_map k e) InvalidListOp refl
  wrong (put_seq i e) n = absurd (let z : ◌≡◌ {A = ℕ} 0 1 = cc in omega arith)
  wrong (insert i es) n = absurd (let z : ◌≡◌ {A = ℕ} 0 1 = cc in omega arith)
  wrong (splice_text i ys) n = refused (splice_text i ys) InvalidListOp refl
  wrong (increment (key k) m) n = refused (increment (key k) m) InvalidListOp refl
  wrong (increment (pos i) m) n = absurd (let z : ◌≡◌ {A = ℕ} 0 1 = cc in omega arith)
  wrong (conflict (key k)) n = refused (conflict (key k)) InvalidListOp refl
  wrong (conflict (pos i)) n = absurd (let z : ◌≡◌ {A = ℕ} 0 1 = cc in omega arith)
  wrong (delete_map k) n = refused (delete_map k) InvalidListOp refl
  wrong (delete_seq i m) n = absurd (let z : ◌≡◌ {A = ℕ} 0 1 = cc in omega arith)

  list_edits : ListEdits units x ts
  list_edits =
      let at = λ (i : ℕ). get_or (trees ts) i (node x none) in
      record {
        put_at = λ i e l. changed (put_seq i e) (λ _. Ok (placed on_screen e)) (put_over e) i l refl (okay (sym (item_over e (at i))));
        put_past = λ i e l. past (put_seq i e) (λ _. Ok (placed on_screen e)) i l refl;
        insert_at = λ i es l. spliced_in (insert i es) i 0 (map (placed_tree []) es) (omega arith) (ap (λ is. edit i 0 is (map item_in (trees ts))) (sym (items_new es)));
        insert_past = λ i es l. spliced_past (insert i es) i 0 (map (placed on_screen) es) (omega arith) refl;
        delete_at = λ i n l. spliced_in (delete_seq i n) i n [] l refl;
        delete_past = λ i n l. spliced_past (delete_seq i n) i n [] l refl;
        increment_at = λ i n l e. changed (increment (pos i) n) (raised_item n) (relabel (raised n)) i l refl (raise_done n (at i) e);
        increment_refused = λ i n r l e. refused (increment (pos i) n) r (mod_at_no InvalidIndex (raised_item n) (node x none) r (trees ts) i l (raise_refused n (at i) r e));
        increment_past = λ i n l. past (increment (pos i) n) (raised_item n) i l refl;
        conflict_at = λ i l. changed (conflict (pos i)) flagged_item (relabel flagged) i l refl (item_flagged (at i));
        conflict_past = λ i l. past (conflict (pos i)) flagged_item i l refl;
        wrong_list = wrong;
      }

pub lists : {U : Type 0} → ListsAgree U
lists units x ts h = list_edits units x ts h
