use Rattle.std.proofs.Common.{All, take}
use Rattle.vipr_print.specs.Unique.{IsShortTerm}
use Rattle.vipr_print.proofs.sizes.terms_are_short.Given as goal

abbrev pub invariant-loop-term : goal.invariant-loop-term
invariant-loop-term l = All IsShortTerm (take l.term-index l.terms)
