use Rattle.std.proofs.Common.{ap, arith, length}
use Rattle.derivation_book.specs.Contents.{Contents}
use Rattle.derivation_book.specs.Lemmas.Numbering.{known_length}
use Rattle.derivation_book.proofs.book.Book.known.Goals as goal

pub returns : goal.returns
returns c = omega (arith, known_length c.args.problem.now c.args.self.now.cuts, c.self.inside.cuts.ok.0, ap (λ (b : Contents). length b.cuts) c.self.view_is)
