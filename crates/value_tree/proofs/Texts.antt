-- Actions in texts.
use Rattle.std.proofs.Common.{◌≡◌, ℕ, ◌+◌, ◌<◌, ◌≤◌, true, List, [], length, Ok, Err, sym, refl, ap, ◌∙◌, arith}
use Rattle.types.specs.declared.error.Refusal.{Refusal}
use Rattle.types.specs.declared.error.Refusal.TheVariants.{InvalidTextOp, InvalidIndex}
use Rattle.meaning.specs.Results.{on_ok}
use Rattle.meaning.specs.Lists.{splice, edit}
use Rattle.meaning.specs.Patches.{Action, put_map, put_seq, insert, splice_text, increment, conflict, delete_map, delete_seq}
use Rattle.meaning.specs.Rows.{text_of, in_text, units_in, units_of_all}
use Rattle.meaning.specs.Values.{text_v, built}
use Rattle.meaning.specs.Application.{here}
use Rattle.meaning.proofs.Splice.{edit_ok}
use Rattle.meaning.proofs.Tests.{okay}
use Rattle.node_chains.specs.Tree.{Forest, node, relabel}
use Rattle.node_chains.specs.declared.node.Content.TheVariants.{Text}
use Rattle.node_table.specs.Held.{Datum, respelled}
use Rattle.node_table.specs.Values.{container_of, value_of, entries_of, cells_of}
use Rattle.value_tree.specs.Acts.{not_for_text, TextEdits, TextsAgree}
use Rattle.value_tree.proofs.Edits.{edit_past}

module _ {U : Type 0} (units : List ℕ → List U) (x : Datum U) (ts : Forest (Datum U)) (h : x.content ≡ Text) where
  -- what stands in the tree of a text
  value_is : (us : List U) → container_of x.content us (entries_of ts) (cells_of ts) ≡ text_v us
  value_is us = ap (λ c. container_of c us (entries_of ts) (cells_of ts)) h

  done : (a : Action U) (i n : ℕ) (ys : List U) → i + n ≤ length x.units → in_text units a x.units ≡ edit i n ys x.units → here units a (value_of (node x ts)) ≡ Ok (value_of (relabel (respelled i n ys) (node x ts)))
  done a i n ys l m =
      ap (here units a) (value_is x.units) ∙ ap (λ r. on_ok built (on_ok text_of r)) (m ∙ edit_ok i n ys x.units l) ∙ okay (sym (value_is (splice i n ys x.units)))

  refused : (a : Action U) (r : Refusal) → in_text units a x.units ≡ Err r → here units a (value_of (node x ts)) ≡ Err r
  refused a r e = ap (here units a) (value_is x.units) ∙ ap (λ r. on_ok built (on_ok text_of r)) e

  past : (a : Action U) (i n : ℕ) (ys : List U) → length x.units < i + n → in_text units a x.units ≡ edit i n ys x.units → here units a (value_of (node x ts)) ≡ Err InvalidIndex
  past a i n ys l m = refused a InvalidIndex (m ∙ edit_past i n ys x.units l)

  wrong : (a : Action U) → not_for_text a ≡ true → here units a (value_of (node x ts)) ≡ Err InvalidTextOp
  wrong (put_map k e) n = refused (put_map k e) InvalidTextOp refl
  wrong (put_seq i e) n = absurd (let z : ◌≡◌ {A = ℕ} 0 1 = cc in omega arith)
  wrong (insert i es) n = absurd (let z : ◌≡◌ {A = ℕ} 0 1 = cc in omega arith)
  wrong (splice_text i ys) n = absurd (let z : ◌≡◌ {A = ℕ} 0 1 = cc in omega arith)
  wrong (increment p m) n = refused (increment p m) InvalidTextOp refl
  wrong (conflict p) n = refused (conflict p) InvalidTextOp refl
  wrong (delete_map k) n = refused (delete_map k) InvalidTextOp refl
  wrong (delete_seq i m) n = absurd (let z : ◌≡◌ {A = ℕ} 0 1 = cc in omega arith)

  text_edits : TextEdits units x ts
  text_edits =
      record {
        put_text_edit = λ i e l. done (put_seq i e) i 1 (units_in units e) (omega arith) refl;
        put_text_past = λ i e l. past (put_seq i e) i 1 (units_in units e) (omega arith) refl;
        insert_text = λ i es l. done (insert i es) i 0 (units_of_all units es) (omega arith) refl;
        insert_text_past = λ i es l. past (insert i es) i 0 (units_of_all units es) (omega arith) refl;
        splice_text_edit = λ i ys l. done (splice_text i ys) i 0 ys (omega arith) refl;
        splice_text_past = λ i ys l. past (splice_text i ys) i 0 ys (omega arith) refl;
        delete_text = λ i n l. done (delete_seq i n) i n [] l refl;
        delete_text_past = λ i n l. past (delete_seq i n) i n [] l refl;
        wrong_text = wrong;
      }

pub texts : {U : Type 0} → TextsAgree U
texts units x ts h = text_edits units x ts h
