-- The answer at the end of a run, as the code makes it.
use Rattle.std.specs.Prelude.{All, IfOk, IfSome, IsSomeAnd}
use Rattle.std.proofs.Common.{◌≡◌, ℕ, ◌+◌, ◌-◌, ◌*◌, ◌^◌, ◌<◌, ◌≤◌, arith, refl, ap, sym, ◌∙◌, subst, Option, Some, None, Result, Ok, Err, List, length, take, drop, map}
use Rattle.std.specs.Option.{option_and_then}
use Rattle.std.proofs.lemmas.List.{length-map, length-append, length-take-le, take-append-drop}
use Rattle.problem_box.specs.declared.span.Span.{Span}
use Rattle.problem.specs.declared.row.Row.{Row}
use Rattle.problem.specs.Linear.{Terms, Multipliers}
use Rattle.problem.specs.Problem.{Problem}
use Rattle.derivation_book.specs.declared.cut.Cut.{Cut}
use Rattle.derivation_book.specs.Known.{known_lines}
use Rattle.derivation_book.specs.Sums.{Sums}
use Rattle.derivation_book.specs.Price.{with_columns, price}
use Rattle.derivation_book.specs.Legal.{AreProofMultipliers}
use Rattle.derivation_book.specs.Lemmas.Staying.{still_combination, still_combined}
use Rattle.tableau.specs.declared.place.Place.{Place}
use Rattle.tableau.specs.declared.place.Place.TheVariants.{NoColumn, Cramped as CrampedRatio}
use Rattle.tableau.specs.LinearProgram.{LinearProgram, variables}
use Rattle.tableau.specs.Tableau.{Tableau}
use Rattle.tableau.specs.Place.{place}
use Rattle.tableau.specs.Start.{started}
use Rattle.tableau.specs.Run.{RunEnd, EndsAs, run_from}
use Rattle.tableau.specs.Multipliers.{mult_of_cost, mult_of_row}
use Rattle.tableau.specs.Invariants.{IsTableauOf, EndsWithTableauOf}
use Rattle.tableau.specs.Lemmas.Places.{IsNoColumn, no_column_is}
use Rattle.tableau.specs.Lemmas.RunKeeps.{run_keeps}
use Rattle.integer_tableau.specs.declared.final_numbers.FinalNumbers.{FinalNumbers}
use Rattle.integer_tableau.specs.FinalNumbers.{AreNumbersAt, AreNumbersOver}
use Rattle.integer_tableau.specs.Run.{IsRunOver}
use Rattle.dual_simplex.specs.Answers.{linear_program, pivot_limit, run_of_start, run, HasPivots, answer_at, answer}
use Rattle.dual_simplex.specs.Meaning.{IsTableauAt}
use Rattle.dual_simplex.specs.Ends.{IsEnd, AreMultipliers}
use Rattle.dual_simplex.specs.Lemmas.TrueAnswers.{size, variables_are, start_is_tableau, cost_multipliers_usable, row_multipliers_usable}

abbrev row_of_cut : Cut → Row
row_of_cut c = c.row

-- ---- the first cuts
module _ (p : Problem) (cs : List Cut) (k : ℕ) (mult : Multipliers) (usable : AreProofMultipliers p (take k cs) mult) where
  pub first_priced : (box : List Span) (target : Terms) → price p cs box target mult ≡ price p (take k cs) box target mult
  first_priced box target =
      ap (λ (ds : List Cut). price p ds box target mult) (sym (take-append-drop k cs))
      ∙ ap (option_and_then (λ (q : Sums). with_columns q.side target 0 q.coefficients box)) (still_combined p (take k cs) (drop k cs) mult usable.combined (length p.spans))

  pub first_known : All (λ m. m.0 < length (known_lines p cs)) mult
  first_known =
      subst (λ (ds : List Cut). All (λ m. m.0 < length (known_lines p ds)) mult) (take-append-drop k cs) (still_combination p (take k cs) (drop k cs) mult usable.combined).earlier

module _ (p : Problem) (cs : List Cut) (box : List Span) where
  sized : (t : Tableau) → IsTableauAt p cs box t → IsTableauOf (size p cs box) (linear_program p cs box) t
  sized t h = subst (λ n. IsTableauOf n (linear_program p cs box) t) (variables_are p cs box) h

  -- ---- a tableau that is done
  pub cost_multipliers : (t : Tableau) → IsTableauAt p cs box t → AreMultipliers p cs (mult_of_cost t)
  cost_multipliers t h = let u = cost_multipliers_usable p cs box t (sized t h) in record { rising = u.0; nonzero = u.1; usable = u.2 }

  -- ---- a row that no column can help
  module _ (t : Tableau) (r : ℕ) (q : Place) (end : IsEnd p cs box q t) (here : q ≡ NoColumn r) where
    whole : q ≡ CrampedRatio → ⊥
    whole e = let f : NoColumn r ≡ CrampedRatio = sym here ∙ e in cc

    is_tableau : IsTableauOf (size p cs box) (linear_program p cs box) t
    is_tableau = sized t (end.tableau whole)

    no_column : IsNoColumn (size p cs box) t r
    no_column = no_column_is (size p cs box) t r is_tableau.size (sym (end.place whole) ∙ here)

    pub row_there : r < length t.statuses
    row_there = omega (arith, no_column.leaving.there, is_tableau.size.statuses)

    pub row_multipliers : AreMultipliers p cs (mult_of_row t r)
    row_multipliers =
        let u = row_multipliers_usable p cs box t is_tableau r no_column in record { rising = u.0; nonzero = u.1; usable = u.2 }

-- ---- the run
-- its start
start_kept : (p : Problem) (cs : List Cut) (box : List Span) (t : Tableau) → started (linear_program p cs box) ≡ Some t → IsTableauOf (variables (linear_program p cs box)) (linear_program p cs box) t
start_kept p cs box t start = subst (λ n. IsTableauOf n (linear_program p cs box) t) (sym (variables_are p cs box)) (start_is_tableau p cs box t start)

-- it ended with a tableau of the relaxation, unless a pivot or the start is cramped
pub run_kept : (p : Problem) (cs : List Cut) (box : List Span) → EndsWithTableauOf (variables (linear_program p cs box)) (linear_program p cs box) (run (linear_program p cs box))
run_kept p cs box = at (started (linear_program p cs box)) refl
  where
    at : (o : Option Tableau) → started (linear_program p cs box) ≡ o → EndsWithTableauOf (variables (linear_program p cs box)) (linear_program p cs box) (run_of_start (linear_program p cs box) o)
    at None e = record { tableau = tt; place = tt; lost = λ z. refl }
    at (Some t) e = run_keeps (variables (linear_program p cs box)) (linear_program p cs box) (pivot_limit (linear_program p cs box)) t (start_kept p cs box t e)

module _ (p : Problem) (cs : List Cut) (box : List Span) (u : Tableau) (q : Place) (ends : EndsAs (run (linear_program p cs box)) q u) where
  abbrev end : RunEnd
  end = run (linear_program p cs box)

  kept : EndsWithTableauOf (variables (linear_program p cs box)) (linear_program p cs box) end
  kept = run_kept p cs box

  pub is_end : IsEnd p cs box q u
  is_end = record {
    tableau = λ whole. (at end.tableau refl ends.tableau kept.tableau kept.place whole).0;
    place = λ whole. (at end.tableau refl ends.tableau kept.tableau kept.place whole).1;
  }
    where
      at : (o : Option Tableau) → end.tableau ≡ o → IfSome o (λ v. u ≡ v) → IfSome o (IsTableauAt p cs box) → IfSome o (λ v. end.place ≡ place v) → (q ≡ CrampedRatio → ⊥)
          → IsTableauAt p cs box u × (q ≡ place u)
      at None f g i j whole = absurd (whole (ends.place ∙ kept.lost f))
      at (Some v) f g i j whole = (subst (IsTableauAt p cs box) (sym g) i, ends.place ∙ j ∙ ap place (sym g))

  pub answer_is : answer_at p cs box u.pivots (Some u) q ≡ answer p cs box
  answer_is = at end.tableau refl ends.tableau
    where
      at : (o : Option Tableau) → end.tableau ≡ o → IfSome o (λ v. u ≡ v) → answer_at p cs box u.pivots (Some u) q ≡ answer_at p cs box end.pivots end.tableau end.place
      at (Some v) f g = (λ i. answer_at p cs box (ends.pivots i) (Some (g i)) (ends.place i)) ∙ ap (λ o. answer_at p cs box end.pivots o end.place) (sym f)
      at None f g =
          (λ i. answer_at p cs box (ends.pivots i) (Some u) ((ends.place ∙ kept.lost f) i)) ∙ ap (λ o. answer_at p cs box end.pivots o end.place) (sym f)

  pub left_is : IfSome (run (linear_program p cs box)).tableau (λ v. Some u ≡ Some v)
  left_is = at end.tableau ends.tableau
    where
      at : (o : Option Tableau) → IfSome o (λ v. u ≡ v) → IfSome o (λ v. Some u ≡ Some v)
      at None g = tt
      at (Some v) g = ap Some g

  -- what is handed out tells the pivots
  pub told : HasPivots (linear_program p cs box) (Some u)
  told = at (started (linear_program p cs box))
    where
      at : (o : Option Tableau) → IfSome o (λ s. IsSomeAnd (Some u) (λ t. t.pivots ≡ end.pivots))
      at None = tt
      at (Some s) = ends.pivots

-- a run that is that of the answer left tableau u, kept as v
pub ends_so : (p : Problem) (cs : List Cut) (box : List Span) (e : RunEnd) (u v : Tableau) (q : Place) → run (linear_program p cs box) ≡ e → v ≡ u → EndsAs e q u → EndsAs (run (linear_program p cs box)) q v
ends_so p cs box e u v q is same h = subst (EndsAs (run (linear_program p cs box)) q) (sym same) (subst (λ e. EndsAs e q u) (sym is) h)

-- what follows of the end of a run, where there is one
pub of_end : {T E : Type 0} (P Q : T → Type 0) → ((e : T) → P e → Q e) → (r : Result (Option (Result T ℕ)) E)
    → IfOk r (λ o. IfSome o (λ s. IfOk s P)) → IfOk r (λ o. IfSome o (λ s. IfOk s Q))
of_end P Q f (Err e) h = tt
of_end P Q f (Ok None) h = tt
of_end P Q f (Ok (Some (Err made))) h = tt
of_end P Q f (Ok (Some (Ok e))) h = f e h

-- ---- how many pivots a run makes at most
module _ (p : Problem) (cs : List Cut) (k : ℕ) (box : List Span) (few : k ≤ length cs) (columns : length box ≡ length p.spans)
    (n : ℕ) (limit : n ≡ 20 * (length p.spans + (length p.rows + k)) + 100) where
  abbrev program : LinearProgram
  program = linear_program p (take k cs) box

  limit_is : n ≡ 20 * variables program + 100
  limit_is =
      limit ∙ ap (λ n. 20 * n + 100) (sym (variables_are p (take k cs) box ∙ (λ i. columns i + (length-append p.rows (map row_of_cut (take k cs)) ∙ ap (λ n. length p.rows + n) (length-map (take k cs) row_of_cut ∙ length-take-le k cs few)) i)))

  module _ (t : Tableau) (start : started program ≡ Some t) where
    -- the run of the answer makes so many
    pub run_is : run program ≡ run_from n t
    run_is = ap (run_of_start program) start ∙ ap (λ n. run_from n t) (sym limit_is)

    -- it goes on with the rest of them from the tableau after the first m
    pub rest_is : (m : ℕ) (u v : Tableau) → m ≤ n → ((cap : ℕ) → run_from cap u ≡ run_from (m + cap) t) → v ≡ u → run program ≡ run_from (n - m) v
    rest_is m u v within goes_on same =
        run_is ∙ ap (λ n. run_from n t) (let e : n ≡ m + (n - m) = omega (arith, within) in e) ∙ sym (goes_on (n - m)) ∙ ap (run_from (n - m)) (sym same)

    -- which has no more variables than a list may have
    pub few_variables : (m : ℕ) (u : Tableau) → ((cap : ℕ) → run_from cap u ≡ run_from (m + cap) t) → n < 2 ^ 32 → length u.statuses < 2 ^ 32
    few_variables m u goes_on small = omega (arith, is_tableau.size.statuses, limit_is, small)
      where
        is_tableau : IsTableauOf (variables program) program u
        is_tableau = subst (λ (e : RunEnd). IfSome e.tableau (IsTableauOf (variables program) program)) (sym (goes_on 0))
            (run_keeps (variables program) program (m + 0) t (start_kept p (take k cs) box t start)).tableau

  -- a run over the box with so many at most is that of the answer
  pub run_over_is : (q : Place) (t : Tableau) → IsRunOver program n q t → EndsAs (run program) q t
  run_over_is q t h = subst (λ (e : RunEnd). EndsAs e q t) (sym (run_is h.start h.starts)) h.ends

  -- and so the numbers at its end are those of the answer's
  pub numbers_over_are : (e : FinalNumbers) → AreNumbersOver program n e → AreNumbersAt (run program) e
  numbers_over_are e h = subst (λ (r : RunEnd). AreNumbersAt r e) (sym (run_is h.start h.starts)) h.ends
