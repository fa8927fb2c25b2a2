use Rattle.std.proofs.Common.{arith}
use Rattle.vipr_print.specs.Unique.{IsShortTerm}
use Rattle.vipr_print.proofs.EachPart.{each_more, each_all}
use Rattle.vipr_print.proofs.sizes.terms_are_short.Goals as goal

pub loop-term-preserved : goal.loop-term-preserved
loop-term-preserved c = each_more IsShortTerm c.args.terms.now c.loop-term.term-index _ (omega arith) c.term-item.is c.loop-term.invariant c.term_is_short.ensures

pub returns : goal.returns
returns c = record { count = omega arith; terms = each_all IsShortTerm c.args.terms.now c.loop-term.term-index (omega arith) c.loop-term.invariant }
