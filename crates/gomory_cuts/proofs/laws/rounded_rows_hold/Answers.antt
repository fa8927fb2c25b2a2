use Rattle.std.proofs.Common.{◌≡◌, List, [], ◌∷◌, ◌++◌, Some, ℕ, ℤ}
use Rattle.std.proofs.lemmas.List.Elements.{All-head}
use Rattle.fraction.specs.Rational.{ℚ}
use Rattle.problem.specs.declared.row.Row.{Row}
use Rattle.problem.specs.Problem.{Problem}
use Rattle.problem.specs.Limited.{IsLimited}
use Rattle.problem.specs.Rows.{Satisfies}
use Rattle.problem.specs.Feasible.{IsFeasible}
use Rattle.derivation_book.specs.declared.cut.Cut.{Cut}
use Rattle.derivation_book.specs.Rounded.{rounded_row}
use Rattle.derivation_book.specs.Cuts.{AreCutsOf}
use Rattle.derivation_book.specs.Lemmas.Cutting.{cuts_hold}
use Rattle.derivation_book.specs.Lemmas.Rounded.{one_more}
use Rattle.dual_simplex.specs.Lemmas.TrueAnswers.{all_of_both}
use Rattle.gomory_cuts.proofs.laws.rounded_rows_hold.Goals as goal

last_holds : (p : Problem) (cs : List Cut) (mult : List (ℕ × ℚ)) (r : Row) → IsLimited p → AreCutsOf p cs → rounded_row p cs mult ≡ Some r → (x : List ℤ) → IsFeasible p x → Satisfies x r
last_holds p cs mult r l a e x f =
    let c : Cut = record { row = r; mult = mult } in
    All-head (λ (c : Cut). Satisfies x c.row) c [] (all_of_both (λ (c : Cut). Satisfies x c.row) cs (c ∷ []) (cuts_hold p (cs ++ c ∷ []) l (one_more p [] cs c a e) x f)).1

pub returns : goal.returns
returns c = λ a mult r e x f. last_holds c.args.problem.now c.args._book.now.cuts mult r c.limits_hold.ensures a e x f
