-- What a verdict on a node's box says of the node.
use Rattle.std.specs.Prelude.{pos, negsuc, false, List, [], ◌∷◌, map, Option, Some, None}
use Rattle.fraction.specs.Rational.{ℚ, whole}
use Rattle.problem_box.specs.declared.span.Span.{Span}
use Rattle.problem_box.specs.Boxes.{IsInBox}
use Rattle.problem.specs.Linear.{Point}
use Rattle.problem.specs.Problem.{Problem}
use Rattle.row_activity.specs.declared.verdict.Sign.{Sign}
use Rattle.row_activity.specs.declared.verdict.Sign.TheVariants.{Plus, Minus}
use Rattle.row_activity.specs.declared.verdict.Verdict.{Verdict}
use Rattle.row_activity.specs.declared.verdict.Verdict.TheVariants.{Empty, Refuted, Priced, Point as OnePoint, Unsettled}
use Rattle.node_events.specs.declared.proof.Proof.{Proof}
use Rattle.node_events.specs.declared.proof.Proof.TheVariants.{Empty as Crossed, Refute, Bound}

-- the multiplier of a row that no point of the box satisfies
abbrev pub multiplier : Sign → ℚ
multiplier Plus = whole (pos 1)
multiplier Minus = whole (negsuc 0)

-- the one point of a fixed box
abbrev pub corner : List Span → Point
corner box = map (λ (s : Span). s.lo) box

-- the proof that a verdict gives; none where it leaves a point that may be better
abbrev pub verdict_proof : Verdict → Option Proof
verdict_proof (Empty j) = Some (Crossed j)
verdict_proof (Refuted i s) = Some (Refute ((i, multiplier s) ∷ []))
verdict_proof Priced = Some (Bound [] false)
verdict_proof OnePoint = None
verdict_proof Unsettled = None

-- the box's points lie in the problem's box
abbrev pub IsPart : Problem → List Span → Type 0
IsPart p box = (x : Point) → IsInBox box x → IsInBox p.spans x
