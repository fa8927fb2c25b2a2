use Rattle.std.proofs.Common.{◌<◌, ◌-◌, arith}
use Rattle.std.proofs.lemmas.Bool.Decides.{nat_tests}
use Rattle.integer_tableau.proofs.EntrySums.{whole_within}
use Rattle.integer_tableau.specs.Range.{size_limit}
use Rattle.integer_tableau.proofs.program_row.ProgramRow.is_within.Goals as goal

pub returns : goal.returns
returns c = λ small.
    let below : c.greatest_size.result < size_limit = grind (arith, nat_tests, small) in
    whole_within c.args.self.now c.entries.result.now c.entries.ensures (size_limit - 1) (λ i l. omega (arith, below, c.greatest_size.ensures i l))
