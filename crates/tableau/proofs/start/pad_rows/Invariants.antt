use Rattle.std.proofs.Common.{◌≡◌, ◌<◌, ◌≤◌, ℕ, [], get_or}
use Rattle.tableau.specs.Start.{padded}
use Rattle.tableau.proofs.start.pad_rows.Given as goal

abbrev pub invariant-loop-row : goal.invariant-loop-row
invariant-loop-row l = record {
  done : (k : ℕ) → k < l.row-index → get_or l.rows k [] ≡ padded l.zeros (get_or l.initial.rows k []);
  left : (k : ℕ) → l.row-index ≤ k → get_or l.rows k [] ≡ get_or l.initial.rows k [];
}
