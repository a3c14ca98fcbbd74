use Rattle.std.proofs.Common.{ℕ, ◌-◌, ◌<◌, ◌≤◌, length, get_or}
use Rattle.meaning.specs.Entries.{rank}
use Rattle.meaning.specs.Documents.{name}
use Rattle.document.specs.Nothing.{no_obj}
use Rattle.document.proofs.rising.Rising.find.Given as goal

-- what lies below lo is earlier, what lies from hi on is later
abbrev pub invariant-loop-lo : goal.invariant-loop-lo
invariant-loop-lo g l =
    (l.lo ≤ l.hi) × (l.hi ≤ length (g.R.Rows.shaped l.self.rows.now).doc)
    × ((k : ℕ) → k < l.lo → name (get_or (g.R.Rows.shaped l.self.rows.now).doc k no_obj) < rank l.id)
    × ((k : ℕ) → l.hi ≤ k → k < length (g.R.Rows.shaped l.self.rows.now).doc → rank l.id < name (get_or (g.R.Rows.shaped l.self.rows.now).doc k no_obj))

abbrev pub decreases-loop-lo : goal.decreases-loop-lo
decreases-loop-lo g l = l.hi - l.lo
