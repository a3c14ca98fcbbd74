-- What an action at a place of the tables leaves: the value that the definition gives, or a refusal and the value as it was.
use Rattle.std.specs.Prelude.{◌≡◌, ℕ, ◌<◌, false, List, is_ok, Ok, Err, Result}
use Rattle.types.specs.declared.error.Refusal.{Refusal}
use Rattle.types.specs.declared.error.Refusal.TheVariants.{ValueFull}
use Rattle.meaning.specs.Results.{Answer, provided, and_then}
use Rattle.meaning.specs.Patches.{Prop, Action}
use Rattle.meaning.specs.Values.{Value, fits}
use Rattle.meaning.specs.Application.{at, here}
use Rattle.node_chains.specs.Tree.{Tree, Under, Steps, reach}
use Rattle.node_chains.specs.Chains.{lev_at}
use Rattle.node_chains.proofs.Weights.{part}
use Rattle.node_table.specs.Held.{Datum}
use Rattle.node_table.specs.Values.{Follows, Keeps}
use Rattle.value_tree.specs.Acts.{Edits}
use Rattle.value_tree.specs.Proper.{Proper}
use Rattle.node_table.specs.Edits.{nodes_in, kids, tree_of}
use Rattle.node_table.specs.declared.tables.Tables.{Tables}
use Rattle.value_memory.specs.Memory.{shown, Good}

module _ {U : Type 0} where
  -- A call's answer, with the value that it leaves.
  abbrev pub answered : Result (Unit {0}) Refusal → Value U → Answer (Value U)
  answered (Ok x) v = Ok v
  answered (Err e) v = Err e

  -- An action at the end of a path, on a value that has bounds.
  abbrev pub bounded : (List ℕ → List U) → List Prop → Action U → Value U → Answer (Value U)
  bounded units path a v = and_then (at path (here units a) v) (λ w. provided (fits w) ValueFull w)

-- The place o is in use, and not so deep that its children could have none.
pub record At {U : Type 0} (m : Tables U) (o : ℕ) : Type 0 where
  pub used : Under (kids m) 0 o
  pub deep : lev_at (nodes_in m) o < 17

-- The positions ps lead from the root to o.
pub record Way {U : Type 0} (m : Tables U) (o : ℕ) (ps : List ℕ) : Type 0 where
  pub steps : Steps (kids m) ps 0
  pub reaches : reach (kids m) ps 0 ≡ o

module _ {U : Type 0} (m : Tables U) (o : ℕ) where
  -- P holds of the part of the tree at o.
  abbrev pub Here : (Tree (Datum U) → Type 0) → Type 0
  Here P = (ps : List ℕ) → Way m o ps → P (part ps (tree_of m))

-- The action is the edit g of a tree, which keeps the entry of its own and stays one for a value.
pub record Meant {U : Type 0} (units : List ℕ → List U) (a : Action U) (g : Tree (Datum U) → Tree (Datum U)) (t : Tree (Datum U)) : Type 0 where
  pub edits : Edits units a g t
  pub keeps : Keeps g t
  pub proper : Proper (g t)

-- After the action a at o, by the answer r: a value again; by whichever path one comes to o, the definition gives the same answer and value; and a refusal leaves the tree as it was.
pub record Acted {U : Type 0} (units : List ℕ → List U) (a : Action U) (o : ℕ) (m m2 : Tables U) (r : Result (Unit {0}) Refusal) : Type 0 where
  pub good : Good m2
  pub told : (path : List Prop) (ps : List ℕ) → Way m o ps → Follows path ps (tree_of m) → bounded units path a (shown m) ≡ answered r (shown m2)
  pub kept : is_ok r ≡ false → tree_of m2 ≡ tree_of m
