use Rattle.std.proofs.Common.{arith, rules}
use Rattle.solve_top.proofs.LongTexts.{too_long}
use Rattle.solve_top.proofs.model.read_model.Goals as goal

pub returns-then-len-gt-TEXT_LIMIT : goal.returns-then-len-gt-TEXT_LIMIT
returns-then-len-gt-TEXT_LIMIT g c = (λ told. too_long _ _ c.in-Ok.text.items (c.in-Ok.ensures.short told) (omega arith), search rules)
