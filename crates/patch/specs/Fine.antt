-- Patches that keep the bounds of single keys, values and paths, and whose strings are UTF-8.
use Rattle.std.specs.Prelude.{Bool, true, not, ◌&&◌, List, [], ◌∷◌, length, nat_le}
use Rattle.types.specs.Limits.{limits}
use Rattle.meaning.specs.Entries.{Entry}
use Rattle.meaning.specs.Patches.{Step, Action, put_map, put_seq, insert, splice_text, increment, conflict, delete_map, delete_seq, Patch}
use Rattle.meaning.specs.Documents.{well_spelt}
use Rattle.meaning.specs.Calls.{long_key, long_prop, long_entry}

-- No key of a path is too long.
abbrev pub short_steps : List Step → Bool
short_steps [] = true
short_steps (s ∷ ss) = not (long_prop s.prop) && short_steps ss

-- What is placed is not too long, and a string is UTF-8.
abbrev pub fine_entry : Entry → Bool
fine_entry e = not (long_entry e) && well_spelt e.content

-- So is everything that is inserted.
abbrev pub fine_entries : List Entry → Bool
fine_entries [] = true
fine_entries (e ∷ es) = fine_entry e && fine_entries es

module _ {U : Type 0} where
  -- The key and the values of an action.
  abbrev pub fine_action : Action U → Bool
  fine_action (put_map k e) = not (long_key k) && fine_entry e
  fine_action (put_seq i e) = fine_entry e
  fine_action (insert i es) = fine_entries es
  fine_action (splice_text i us) = true
  fine_action (increment p n) = not (long_prop p)
  fine_action (conflict p) = not (long_prop p)
  fine_action (delete_map k) = not (long_key k)
  fine_action (delete_seq i n) = true

  -- Its path has no more steps than a path may have, and path and action keep their bounds.
  abbrev pub fine_patch : Patch U → Bool
  fine_patch p = nat_le (length p.path) limits.path_steps && (short_steps p.path && fine_action p.action)

  -- Each of some patches is so.
  abbrev pub all_fine : List (Patch U) → Bool
  all_fine [] = true
  all_fine (p ∷ ps) = fine_patch p && all_fine ps
