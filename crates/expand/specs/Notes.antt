-- What is noted of a node that a split made.
use Rattle.std.specs.Prelude.{ℕ, List, Option, Some, None}
use Rattle.fraction.specs.Rational.{ℚ}
use Rattle.pseudo_cost.specs.declared.column_gains.ColumnGains.{ColumnGains}
use Rattle.pseudo_cost.specs.ColumnGains.{noted}
use Rattle.pseudo_cost.specs.Gains.{gain, largest_gain}
use Rattle.dual_simplex.specs.declared.answer.Answer.{Answer}
use Rattle.dual_simplex.specs.declared.answer.Answer.TheVariants.{Infeasible, Optimal, Cramped, Stalled}
use Rattle.expand.specs.declared.origin.Origin.{Origin}

-- the gain of a node over its parent's value; none where a step is cramped, or where the run came to no answer
abbrev pub gain_over : ℚ → Answer → Option ℕ
gain_over parent (Infeasible mult) = Some largest_gain
gain_over parent (Optimal x mult v) = gain v parent
gain_over parent (Cramped pivots) = None
gain_over parent Stalled = None

-- the gain that is to be noted, where this worker made the node by a split at a fractional optimum; of another node nothing is noted
abbrev pub gain_of : Option Origin → Answer → Option ℕ
gain_of None a = None
gain_of (Some o) a = gain_over o.value a

-- a gain is noted for the column and the side of the split that made the node
abbrev pub noted_gain : Option Origin → Option ℕ → List ColumnGains → List ColumnGains
noted_gain None g costs = costs
noted_gain (Some o) None costs = costs
noted_gain (Some o) (Some g) costs = noted o.column o.side g costs

-- the pseudo-costs with the gain of the node's answer over its parent
abbrev pub with_note : Option Origin → Answer → List ColumnGains → List ColumnGains
with_note origin a costs = noted_gain origin (gain_of origin a) costs
