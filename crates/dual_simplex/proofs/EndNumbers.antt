-- What is known of the numbers that are told of the tableau at the end of a run.
use Rattle.std.specs.Prelude.{All, IfSome, IsSome, IsSomeAnd}
use Rattle.std.proofs.Common.{◌≡◌, ℕ, refl, sym, ◌∙◌, subst, Option, Some, None, List, [], length}
use Rattle.problem_box.specs.declared.span.Span.{Span}
use Rattle.problem.specs.Limited.{IsModestSpan}
use Rattle.problem.specs.Problem.{Problem}
use Rattle.derivation_book.specs.declared.cut.Cut.{Cut}
use Rattle.derivation_book.specs.Price.{price}
use Rattle.tableau.specs.declared.place.Place.TheVariants.{Done, NoColumn, Cramped as CrampedRatio}
use Rattle.tableau.specs.Tableau.{Tableau}
use Rattle.tableau.specs.Place.{place}
use Rattle.tableau.specs.Run.{RunEnd}
use Rattle.tableau.specs.Multipliers.{point_of}
use Rattle.integer_tableau.specs.declared.final_numbers.FinalNumbers.{FinalNumbers}
use Rattle.integer_tableau.specs.Denominator.{HasDenominator}
use Rattle.integer_tableau.specs.FinalNumbers.{AreNumbersOf, AreNumbersAt}
use Rattle.dual_simplex.specs.Answers.{linear_program, run}
use Rattle.dual_simplex.specs.Meaning.{IsTableauAt}
use Rattle.dual_simplex.specs.Sizes.{IsIntegerRelaxation}
use Rattle.dual_simplex.specs.Ends.{IsEnd, AreMultipliers, IsOptimumThere, IsAnswerThere, IsSmallEnd}
use Rattle.dual_simplex.proofs.AnswerThere.{small_is_there}
use Rattle.dual_simplex.proofs.Ending.{cost_multipliers, row_multipliers, run_kept}

module _ (p : Problem) (cs : List Cut) (box : List Span) (n : FinalNumbers) (ends : AreNumbersAt (run (linear_program p cs box)) n) where
  abbrev end : RunEnd
  end = run (linear_program p cs box)

  -- the tableau that the run left
  left : (t : Tableau) × (end.tableau ≡ Some t) × AreNumbersOf t n
  left = at end.tableau ends.numbers
    where
      at : (o : Option Tableau) → IsSomeAnd o (λ t. AreNumbersOf t n) → (t : Tableau) × (o ≡ Some t) × AreNumbersOf t n
      at None h = absurd h
      at (Some t) h = (t, refl, h)

  is_end : IsEnd p cs box n.place left.0
  is_end = record {
    tableau = λ whole. subst (λ (o : Option Tableau). IfSome o (IsTableauAt p cs box)) left.1 (run_kept p cs box).tableau;
    place = λ whole. ends.place ∙ subst (λ (o : Option Tableau). IfSome o (λ t. end.place ≡ place t)) left.1 (run_kept p cs box).place;
  }

  -- where the box is modest and the numbers have a denominator, what the answer asks for is there
  there : length box ≡ length p.spans → IsIntegerRelaxation p cs → All IsModestSpan box → IsSome n.denominator → IsAnswerThere p cs box n.place left.0
  there columns integers modest told = small_is_there p cs box columns integers left.0 n.place is_end (at n.denominator told left.2.denominator)
    where
      at : (o : Option ℕ) → IsSome o → IfSome o (λ d. HasDenominator d left.0) → IsSmallEnd box left.0
      at None f h = cc
      at (Some d) f h = record { modest = modest; denominator = d; over_denominator = h }

  -- ---- at each place
  module _ (here : n.place ≡ Done) where
    pub done_multipliers : AreMultipliers p cs n.multipliers
    done_multipliers =
        subst (AreMultipliers p cs) (sym (left.2.of_costs here)) (cost_multipliers p cs box left.0 (is_end.tableau (λ e. let f : Done ≡ CrampedRatio = sym here ∙ e in cc)))

    pub done_there : length box ≡ length p.spans → IsIntegerRelaxation p cs → All IsModestSpan box → IsSome n.denominator → IsOptimumThere p cs box n.point.items n.multipliers
    done_there columns integers modest told =
        subst (λ x. IsOptimumThere p cs box x n.multipliers) (sym (left.2.point here))
        (subst (IsOptimumThere p cs box (point_of left.0)) (sym (left.2.of_costs here)) ((there columns integers modest told).optimum here))

  module _ (r : ℕ) (here : n.place ≡ NoColumn r) where
    pub no_column_multipliers : AreMultipliers p cs n.multipliers
    no_column_multipliers = subst (AreMultipliers p cs) (sym (left.2.of_row r here)) (row_multipliers p cs box left.0 r n.place is_end here)

    pub no_column_there : length box ≡ length p.spans → IsIntegerRelaxation p cs → All IsModestSpan box → IsSome n.denominator → IsSome (price p cs box [] n.multipliers)
    no_column_there columns integers modest told = subst (λ mult. IsSome (price p cs box [] mult)) (sym (left.2.of_row r here)) ((there columns integers modest told).refuted r here)
