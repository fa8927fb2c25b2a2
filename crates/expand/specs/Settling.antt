-- How a node is settled, by what was found of it and by the cuts and the incumbent when it is settled.
use Rattle.std.specs.Prelude.{ℕ, ◌-◌, Bool, false, if◌then◌else◌, List, [], length, map, take, Option, Some, None}
use Rattle.fraction.specs.Rational.{ℚ, floor}
use Rattle.problem_box.specs.declared.span.Span.{Span}
use Rattle.problem.specs.Linear.{Point, Multipliers}
use Rattle.problem.specs.Directions.{aim, aim_at}
use Rattle.row_activity.specs.Activity.{low_of}
use Rattle.expand.specs.declared.finding.Finding.{Finding}
use Rattle.expand.specs.declared.finding.Finding.TheVariants.{Cuts, Shut, Whole, Solved, Loose}
use Rattle.node_events.specs.declared.proof.Proof.{Proof}
use Rattle.node_events.specs.declared.proof.Proof.TheVariants.{Bound}
use Rattle.node_events.specs.declared.reason.Reason.TheVariants.{Fractional}
use Rattle.derivation_book.specs.Legal.{reaches}
use Rattle.dual_simplex.specs.Relaxation.{RationalPoint, rational_at}
use Rattle.incumbent.specs.Offers.{is_better}
use Rattle.event_core.specs.States.{State, cutoff}
use Rattle.expand.specs.declared.settlement.Branching.{Branching}
use Rattle.expand.specs.declared.settlement.Settlement.{Settlement}
use Rattle.expand.specs.declared.settlement.Settlement.TheVariants.{Separated, Closed, Improved, Branched}
use Rattle.expand.specs.Expansion.{is_rounded}

-- the numbers of a point, rounded down
abbrev pub floors : RationalPoint → Point
floors x = map floor x

-- the bound of the aim by these multipliers, whose price is v
abbrev pub bound_of : State → Multipliers → ℚ → Proof
bound_of s mult v = Bound mult (is_rounded s.problem v)

-- a point that is better than the incumbent takes its place; the proof closes the node in any case
abbrev pub improved_or_closed : State → Point → Proof → Settlement
improved_or_closed s x proof = if is_better s.incumbent (aim_at s.problem x) then Improved x proof else Closed proof

-- closed where the bound reaches the cutoff, else split
abbrev pub closed_or_branched : Bool → Proof → Branching → Settlement
closed_or_branched reached proof b = if reached then Closed proof else Branched b

-- by a point that isn't whole in column j, the optimum of the relaxation with k cuts
abbrev pub branching_at : ℕ → RationalPoint → ℚ → ℕ → Branching
branching_at k x v j = record { place = record { column = j; bound = floor (rational_at x j) }; reason = Fractional k x; value = Some v }

-- what is done after an optimum: a whole one improves the incumbent or closes the node; another one splits it, or closes it by its bound
abbrev pub settled_optimum : State → ℕ → RationalPoint → Multipliers → ℚ → Option ℕ → Settlement
settled_optimum s k x mult v None = improved_or_closed s (floors x) (bound_of s mult v)
settled_optimum s k x mult v (Some j) =
    closed_or_branched (reaches (cutoff s) (is_rounded s.problem v) (Some v)) (bound_of s mult v) (branching_at k x v j)

-- of a node with this box, with at most so many cuts in the book
abbrev pub settled : State → List Span → ℕ → Finding → Settlement
settled s box limit (Cuts mults) = Separated (take (limit - length s.cuts) mults)
settled s box limit (Shut proof) = Closed proof
settled s box limit (Whole x) = improved_or_closed s x (Bound [] false)
settled s box limit (Solved k x mult v column) = settled_optimum s k x mult v column
settled s box limit (Loose reason j b) =
    closed_or_branched (reaches (cutoff s) false (Some (low_of box (aim s.problem)))) (Bound [] false)
    (record { place = record { column = j; bound = b }; reason = reason; value = None })
