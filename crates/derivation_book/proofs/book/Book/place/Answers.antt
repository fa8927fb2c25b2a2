use Rattle.std.proofs.Common.{arith}
use Rattle.derivation_book.specs.Lemmas.Numbering.{known_length, lower_place, upper_place, cut_place}
use Rattle.derivation_book.proofs.book.Book.place.Goals as goal

pub returns-then-bound-columns-clause-there : goal.returns-then-bound-columns-clause-there
returns-then-bound-columns-clause-there c = omega (arith, known_length c.args.problem.now c.args.self.now.cuts)

pub returns-then-bound-columns-clause-row : goal.returns-then-bound-columns-clause-row
returns-then-bound-columns-clause-row c = cut_place c.args.problem.now c.args.self.now.cuts c.args.number _ (omega arith)

pub returns-then-bound-eq0-clause-row : goal.returns-then-bound-eq0-clause-row
returns-then-bound-eq0-clause-row c = lower_place c.args.problem.now c.args.self.now.cuts c.args.number _ (omega arith) (omega arith)

pub returns-else-bound-eq0-clause-row : goal.returns-else-bound-eq0-clause-row
returns-else-bound-eq0-clause-row c = upper_place c.args.problem.now c.args.self.now.cuts c.args.number _ (omega arith) (omega arith)
