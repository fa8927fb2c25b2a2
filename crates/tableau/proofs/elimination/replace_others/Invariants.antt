use Rattle.std.proofs.Common.{◌≡◌, ◌<◌, ◌≤◌, ℕ, [], get_or}
use Rattle.tableau.specs.SparseSteps.{next_row}
use Rattle.tableau.proofs.elimination.replace_others.Given as goal

abbrev pub invariant-loop-i : goal.invariant-loop-i
invariant-loop-i l = record {
  done : (k : ℕ) → k < l.i → (k ≡ l.leaving → ⊥) → get_or l.rows k [] ≡ next_row l.variable (get_or l.initial.rows k []) (get_or l.initial.ready k []);
  left : (k : ℕ) → l.i ≤ k → get_or l.rows k [] ≡ get_or l.initial.rows k [];
  ready : (k : ℕ) → l.i ≤ k → get_or l.ready k [] ≡ get_or l.initial.ready k [];
  leaving : get_or l.rows l.leaving [] ≡ get_or l.initial.rows l.leaving [];
}
