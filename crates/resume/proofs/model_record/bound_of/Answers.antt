use Rattle.std.proofs.Common.{arith, ◌≤◌}
use Rattle.resume.proofs.Models.{read_size}
use Rattle.resume.proofs.model_record.bound_of.Goals as goal
use Rattle.problem.specs.Limits.{largest_bound}

pub overflow_cast-result : goal.overflow_cast-result
overflow_cast-result c =
    let le : c.unsigned_abs.result ≤ largest_bound = read_size c.in-Some.upper c.unsigned_abs.result (c.requires c.in-Some.upper c.in-Some.is) c.unsigned_abs.ensures.value in omega arith

pub returns-in-Some-clause-modest : goal.returns-in-Some-clause-modest
returns-in-Some-clause-modest c = read_size c.in-Some.upper c.unsigned_abs.result (c.requires c.in-Some.upper c.in-Some.is) c.unsigned_abs.ensures.value
