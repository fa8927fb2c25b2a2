-- Lemmas: whole points of the box that satisfy rows and cuts lie in the relaxation.
use Rattle.std.specs.Prelude.{All}
use Rattle.std.proofs.Common.{sym, subst, List, [], ◌∷◌, map}
use Rattle.std.proofs.lemmas.List.Elements.{All-weaker}
use Rattle.fraction.specs.Rational.{whole}
use Rattle.fraction.specs.Lemmas.Order.{whole-≤ℚ}
use Rattle.problem_box.specs.declared.span.Span.{Span}
use Rattle.problem_box.specs.Boxes.{IsInBox}
use Rattle.problem.specs.declared.row.Row.{Row}
use Rattle.problem.specs.Linear.{Point}
use Rattle.problem.specs.Rows.{Compares, Satisfies}
use Rattle.problem.specs.Problem.{Problem}
use Rattle.derivation_book.specs.declared.cut.Cut.{Cut}
use Rattle.dual_simplex.specs.Relaxation.{LiesInBox, SatisfiesRow, IsInRelaxation}
use Rattle.dual_simplex.specs.Lemmas.RationalValues.{rational_value-whole}

whole_lies : (ss : List Span) (x : Point) → IsInBox ss x → LiesInBox ss (map whole x)
whole_lies [] [] h = tt
whole_lies [] (a ∷ x) h = absurd h
whole_lies (s ∷ ss) [] h = absurd h
whole_lies (s ∷ ss) (a ∷ x) h = (whole-≤ℚ s.lo a h.0.0, whole-≤ℚ a s.hi h.0.1, whole_lies ss x h.1)

whole_satisfies : (x : Point) (r : Row) → Satisfies x r → SatisfiesRow (map whole x) r
whole_satisfies x r h = subst (Compares r.sense r.rhs) (sym (rational_value-whole r.terms x)) h

pub whole_point_relaxed : (p : Problem) (cs : List Cut) (box : List Span) (x : Point) → IsInBox box x → All (Satisfies x) p.rows → All (λ (c : Cut). Satisfies x c.row) cs
    → IsInRelaxation p cs box (map whole x)
whole_point_relaxed p cs box x inside rows cuts = record {
  in_box = whole_lies box x inside;
  rows = All-weaker (Satisfies x) (SatisfiesRow (map whole x)) (whole_satisfies x) p.rows rows;
  cuts = All-weaker (λ (c : Cut). Satisfies x c.row) (λ (c : Cut). SatisfiesRow (map whole x) c.row) (λ c. whole_satisfies x c.row) cs cuts;
}
