use Rattle.std.proofs.Common.{◌≡◌, ◌++◌, drop}
use Rattle.std.specs.Prelude.{pos, slice_index_or}
use Rattle.fraction.specs.Rational.{whole}
use Rattle.cert_merge.specs.Closing.{bound_multipliers}
use Rattle.cert_merge.specs.Setters.{sources_by}
use Rattle.cert_merge.proofs.multipliers.bound_multipliers.Given as goal

abbrev pub invariant-loop-column : goal.invariant-loop-column
invariant-loop-column l =
    l.items.items ++ bound_multipliers (λ j. slice_index_or l.costs j (whole (pos 0))) l.column (sources_by l.state.state l.column (drop l.column l.setters))
    ≡ bound_multipliers (λ j. slice_index_or l.costs j (whole (pos 0))) 0 (sources_by l.state.state 0 l.setters)
