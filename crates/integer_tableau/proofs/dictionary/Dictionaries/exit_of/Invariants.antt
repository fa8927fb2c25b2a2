use Rattle.std.proofs.Common.{◌≡◌, ◌+◌, ◌≤◌}
use Rattle.integer_tableau.specs.Kept.{kept_at}
use Rattle.integer_tableau.proofs.dictionary.Dictionaries.exit_of.Given as goal

abbrev pub invariant-loop-exit : goal.invariant-loop-exit
invariant-loop-exit l = record {
  from : (kept_at l.self.all l.place).first_exit ≤ l.exit;
  to : l.exit-end ≡ (kept_at l.self.all l.place).first_exit + (kept_at l.self.all l.place).exits;
}
