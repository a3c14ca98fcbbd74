-- Changes of the last patch.
use Rattle.std.specs.Prelude.{ℕ, ◌+◌, Bool, true, not, List, [], ◌∷◌}
use Rattle.meaning.specs.Lists.{splice}
use Rattle.meaning.specs.Patches.{Action, put_map, put_seq, splice_text, delete_seq, Patch}
use Rattle.meaning.specs.Calls.{bad_length}
use Rattle.meaning.specs.Builder.{flag_entry}

module _ {U : Type 0} where
  -- The last patch, the first of the list, does something else.
  abbrev pub change_tail : (Action U → Action U) → List (Patch U) → List (Patch U)
  change_tail f [] = []
  change_tail f (p ∷ ps) = record { obj = p.obj; path = p.path; action = f p.action } ∷ ps

  -- A put has its conflict flag set.
  abbrev pub flag_put : Action U → Action U
  flag_put (put_map k e) = put_map k (flag_entry e)
  flag_put (put_seq i e) = put_seq i (flag_entry e)
  flag_put a = a

  -- A deletion takes m more.
  abbrev pub lengthen : ℕ → Action U → Action U
  lengthen m (delete_seq i n) = delete_seq i (n + m)
  lengthen m a = a

  -- A splice gets more units, at the place j of its own.
  abbrev pub add_units : ℕ → List U → Action U → Action U
  add_units j xs (splice_text i us) = splice_text i (splice j 0 xs us)
  add_units j xs a = a

  -- Whether a deletion that takes m more keeps within its bounds.
  abbrev pub length_fits : ℕ → Action U → Bool
  length_fits m (delete_seq i n) = not (bad_length (n + m))
  length_fits m a = true

  -- A test of the last patch; it holds where there is none.
  abbrev pub of_tail : (Action U → Bool) → List (Patch U) → Bool
  of_tail f [] = true
  of_tail f (p ∷ ps) = f p.action
