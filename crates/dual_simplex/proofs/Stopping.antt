-- A run that is stopped behind the pivot that a claim says to be cramped.
use Rattle.std.specs.Prelude.{◌⊎◌, cond}
use Rattle.std.proofs.Common.{◌≡◌, ℕ, zero, suc, ◌+◌, ◌-◌, ◌*◌, ◌≤◌, arith, refl, ap, sym, ◌∙◌, subst, Bool, true, false, Option, Some, None, List, [], length, take, get_or, inl, inr}
use Rattle.std.specs.Option.{option_map}
use Rattle.fraction.specs.Rational.{ℚ}
use Rattle.fraction.specs.Lemmas.Bounds.{was_some, was_mapped}
use Rattle.problem_box.specs.declared.span.Span.{Span}
use Rattle.problem.specs.Linear.{Multipliers}
use Rattle.problem.specs.Problem.{Problem}
use Rattle.derivation_book.specs.declared.cut.Cut.{Cut}
use Rattle.derivation_book.specs.Price.{price}
use Rattle.tableau.specs.declared.place.Place.{Place}
use Rattle.tableau.specs.declared.place.Place.TheVariants.{Done, NoColumn, Pivot, Cramped as CrampedRatio}
use Rattle.tableau.specs.Elimination.{substituted}
use Rattle.tableau.specs.Leaving.{violation}
use Rattle.tableau.specs.Tableau.{Tableau, bounds_of, value_of}
use Rattle.tableau.specs.Pivot.{computed_values, revalued, rows_eliminated, eliminated, basis_exchanged, exchanged, pivoted}
use Rattle.tableau.specs.Place.{place}
use Rattle.tableau.specs.Start.{started}
use Rattle.tableau.specs.Run.{RunEnd, EndsAs, after_pivot, continued, step_at, run_from}
use Rattle.tableau.specs.Lemmas.RunKeeps.{lost_cramped}
use Rattle.tableau.specs.Multipliers.{point_of, mult_of_cost, mult_of_row}
use Rattle.dual_simplex.specs.declared.answer.Answer.TheVariants.{Infeasible, Optimal, Cramped, Stalled}
use Rattle.dual_simplex.specs.PointSums.{sums_fit}
use Rattle.dual_simplex.specs.Relaxation.{RationalPoint}
use Rattle.dual_simplex.specs.Answers.{linear_program, run_of_start, run, answer_or_cramped, answer_at, answer_of_run, answer}
use Rattle.dual_simplex.specs.Claims.{IsStop, IsStoppedRun}
use Rattle.dual_simplex.specs.Ends.{IsEnd, IsAnswerThere}
use Rattle.dual_simplex.proofs.Ending.{is_end, run_is, ends_so}
use Rattle.problem.specs.Directions.{aim}

-- ---- pivots are counted
pivoted_counts : (r c : ℕ) (t u : Tableau) → pivoted r c t ≡ Some u → u.pivots ≡ t.pivots + 1
pivoted_counts r c t u e =
    let a = was_some (λ w. exchanged r c w t) (violation (bounds_of t r) (value_of t r)) u e in
    let b = was_some (λ v. revalued (basis_exchanged r c a.0 v)) (eliminated r c t) u a.2 in
    let f = was_some (λ rows. option_map (λ costs. record t { rows = rows; reduced_costs = costs }) (substituted c (get_or rows r []) t.reduced_costs)) (rows_eliminated r c t.rows) b.0 b.1 in
    let g = was_mapped (λ costs. record t { rows = f.0; reduced_costs = costs }) (substituted c (get_or f.0 r []) t.reduced_costs) b.0 f.2 in
    let v = was_mapped (λ values. record (basis_exchanged r c a.0 b.0) { values = values; pivots = b.0.pivots + 1 })
    (computed_values (basis_exchanged r c a.0 b.0).nonbasic_values (basis_exchanged r c a.0 b.0).statuses (basis_exchanged r c a.0 b.0).nonbasic_values (basis_exchanged r c a.0 b.0).rows) u b.2 in
    sym (ap (λ (t : Tableau). t.pivots) v.2) ∙ ap (λ n. n + 1) (sym (ap (λ (t : Tableau). t.pivots) g.2))

rise_at : (t : Tableau) (f : Tableau → RunEnd) (q : Place) → ((u : Tableau) → u.pivots ≤ (f u).pivots) → t.pivots ≤ (continued f (step_at t q)).pivots
rise_at t f Done h = omega arith
rise_at t f (NoColumn r) h = omega arith
rise_at t f CrampedRatio h = omega arith
rise_at t f (Pivot r c) h = after (pivoted r c t) refl
  where
    after : (o : Option Tableau) → pivoted r c t ≡ o → t.pivots ≤ (continued f (after_pivot t o)).pivots
    after None e = omega arith
    after (Some u) e = omega (arith, h u, pivoted_counts r c t u e)

pivots_rise : (d : ℕ) (t : Tableau) → t.pivots ≤ (run_from d t).pivots
pivots_rise zero t = omega arith
pivots_rise (suc d) t = rise_at t (run_from d) (place t) (λ u. pivots_rise d u)

-- ---- a run with a smaller cap
-- a run from here doesn't end at a pivot
abbrev Ends : RunEnd → Type 0
Ends e = (r s : ℕ) → e.place ≡ Pivot r s → ⊥

first_end : (d : ℕ) (t : Tableau) (q : Place) → ((r s : ℕ) → q ≡ Pivot r s → ⊥) → continued (run_from d) (step_at t q) ≡ record { place = q; pivots = t.pivots; tableau = Some t }
first_end d t Done h = refl
first_end d t (NoColumn r) h = refl
first_end d t CrampedRatio h = refl
first_end d t (Pivot r s) h = absurd (h r s refl)

same_end : (t : Tableau) (f g : Tableau → RunEnd) (q : Place) → Ends (continued g (step_at t q)) → ((u : Tableau) → Ends (g u) → f u ≡ g u) → continued f (step_at t q) ≡ continued g (step_at t q)
same_end t f g Done h k = refl
same_end t f g (NoColumn r) h k = refl
same_end t f g CrampedRatio h k = refl
same_end t f g (Pivot r s) h k = after (pivoted r s t) h
  where
    after : (o : Option Tableau) → Ends (continued g (after_pivot t o)) → continued f (after_pivot t o) ≡ continued g (after_pivot t o)
    after None h = refl
    after (Some u) h = k u h

-- where it doesn't end at a pivot, it is the run with a greater one
ends_early : (c d : ℕ) (t : Tableau) → Ends (run_from c t) → run_from (c + d) t ≡ run_from c t
ends_early zero d t h = ap (λ m. run_from m t) (let e : 0 + d ≡ d = omega arith in e) ∙ from_first d
  where
    from_first : (d : ℕ) → run_from d t ≡ run_from 0 t
    from_first zero = refl
    from_first (suc d) = first_end d t (place t) h
ends_early (suc c) d t h =
    ap (λ m. run_from m t) (let e : suc c + d ≡ suc (c + d) = omega arith in e)
    ∙ same_end t (run_from (c + d)) (run_from c) (place t) h (λ u k. ends_early c d u k)

past_at : (c : ℕ) (t : Tableau) (f g : Tableau → RunEnd) (q : Place) (r s : ℕ) → (continued g (step_at t q)).place ≡ Pivot r s → ((u : Tableau) → (g u).place ≡ Pivot r s → u.pivots + c ≤ (f u).pivots)
    → t.pivots + suc c ≤ (continued f (step_at t q)).pivots
past_at c t f g Done r s e k = absurd (let z : ⊥ = cc in z)
past_at c t f g (NoColumn i) r s e k = absurd (let z : ⊥ = cc in z)
past_at c t f g CrampedRatio r s e k = absurd (let z : ⊥ = cc in z)
past_at c t f g (Pivot i j) r s e k = after (pivoted i j t) refl e
  where
    after : (o : Option Tableau) → pivoted i j t ≡ o → (continued g (after_pivot t o)).place ≡ Pivot r s → t.pivots + suc c ≤ (continued f (after_pivot t o)).pivots
    after None h e = absurd (let z : ⊥ = cc in z)
    after (Some u) h e = omega (arith, k u e, pivoted_counts i j t u h)

-- where it ends at a pivot, the run with a greater one makes no fewer pivots than the smaller cap
goes_past : (c d : ℕ) (t : Tableau) (r s : ℕ) → (run_from c t).place ≡ Pivot r s → t.pivots + c ≤ (run_from (c + d) t).pivots
goes_past zero d t r s e =
    subst (λ m. t.pivots + 0 ≤ (run_from m t).pivots) (let e : d ≡ 0 + d = omega arith in e) (let f : t.pivots + 0 ≤ (run_from d t).pivots = omega (arith, pivots_rise d t) in f)
goes_past (suc c) d t r s e =
    subst (λ m. t.pivots + suc c ≤ (run_from m t).pivots) (let e : suc (c + d) ≡ suc c + d = omega arith in e)
    (past_at c t (run_from (c + d)) (run_from c) (place t) r s e (λ u f. goes_past c d u r s f))

-- ---- a cramped answer
optimal_cramped : (m n : ℕ) (b : Bool) (o : Option ℚ) (x : RationalPoint) (mult : Multipliers) → answer_or_cramped m (cond b (option_map (λ v. Optimal x mult v) o) None) ≡ Cramped n → m ≡ n
optimal_cramped m n false o x mult e = cc
optimal_cramped m n true None x mult e = cc
optimal_cramped m n true (Some v) x mult e = absurd (let z : ⊥ = cc in z)

infeasible_cramped : (m n : ℕ) (o : Option ℚ) (mult : Multipliers) → answer_or_cramped m (option_map (λ v. Infeasible mult) o) ≡ Cramped n → m ≡ n
infeasible_cramped m n None mult e = cc
infeasible_cramped m n (Some v) mult e = absurd (let z : ⊥ = cc in z)

-- it tells the pivots of the run
cramped_after : (p : Problem) (cs : List Cut) (box : List Span) (m n : ℕ) (o : Option Tableau) (q : Place) → answer_at p cs box m o q ≡ Cramped n → m ≡ n
cramped_after p cs box m n None q e = cc
cramped_after p cs box m n (Some t) Done e = optimal_cramped m n (sums_fit p cs (point_of t)) (price p cs box (aim p) (mult_of_cost t)) (point_of t) (mult_of_cost t) e
cramped_after p cs box m n (Some t) (NoColumn r) e = infeasible_cramped m n (price p cs box [] (mult_of_row t r)) (mult_of_row t r) e
cramped_after p cs box m n (Some t) CrampedRatio e = cc
cramped_after p cs box m n (Some t) (Pivot r c) e = absurd (let z : ⊥ = cc in z)

-- a run that met its cap isn't cramped
stalled_at : (p : Problem) (cs : List Cut) (box : List Span) (m n r c : ℕ) (o : Option Tableau) (q : Place) → q ≡ Pivot r c → (o ≡ None → q ≡ CrampedRatio) → answer_at p cs box m o q ≡ Cramped n → ⊥
stalled_at p cs box m n r c None q f g e = let h : Pivot r c ≡ CrampedRatio = sym f ∙ g refl in let z : ⊥ = cc in z
stalled_at p cs box m n r c (Some t) q f g e = let h : Stalled ≡ Cramped n = ap (answer_at p cs box m (Some t)) (sym f) ∙ e in let z : ⊥ = cc in z

-- ---- the run up to the claim
module _ (p : Problem) (cs : List Cut) (k : ℕ) (box : List Span) (few : k ≤ length cs) (columns : length box ≡ length p.spans)
    (n : ℕ) (limit : n ≡ 20 * (length p.spans + (length p.rows + k)) + 100) (t : Tableau) (start : started (linear_program p (take k cs) box) ≡ Some t) (fresh : t.pivots ≡ 0)
    (claim cap : ℕ) (limited : cap ≤ n) (enough : (cap ≡ claim + 1) ⊎ (cap ≡ n)) where
  abbrev whole : RunEnd
  whole = run_from n t

  run_whole : run (linear_program p (take k cs) box) ≡ whole
  run_whole = run_is p cs k box few columns n limit t start

  beyond : run_from (cap + (n - cap)) t ≡ whole
  beyond = ap (λ m. run_from m t) (let e : cap + (n - cap) ≡ n = omega (arith, limited) in e)

  ended : (q : Place) (u : Tableau) → ((r s : ℕ) → q ≡ Pivot r s → ⊥) → EndsAs (run_from cap t) q u → EndsAs (run (linear_program p (take k cs) box)) q u
  ended q u h e =
      ends_so p (take k cs) box (run_from cap t) u u q
      (run_whole ∙ sym beyond ∙ ends_early cap (n - cap) t (λ r s f. h r s (e.place ∙ f))) refl e

  met : (r s : ℕ) → (run_from cap t).place ≡ Pivot r s → answer p (take k cs) box ≡ Cramped claim → ⊥
  met r s f e = at enough
    where
      told : answer_at p (take k cs) box whole.pivots whole.tableau whole.place ≡ Cramped claim
      told = ap (answer_of_run p (take k cs) box) (sym run_whole) ∙ e

      at : (cap ≡ claim + 1) ⊎ (cap ≡ n) → ⊥
      at (inl g) =
          let a = cramped_after p (take k cs) box whole.pivots claim whole.tableau whole.place told in
          let b : t.pivots + cap ≤ whole.pivots = subst (λ (w : RunEnd). t.pivots + cap ≤ w.pivots) beyond (goes_past cap (n - cap) t r s f) in
          omega (arith, a, b, g)
      at (inr g) =
          stalled_at p (take k cs) box whole.pivots claim r s whole.tableau whole.place (ap (λ m. (run_from m t).place) (sym g) ∙ f) (lost_cramped n t) told

  pub stopped_run : IsStoppedRun p (take k cs) box claim (run_from cap t)
  stopped_run Done u e = ended Done u (λ r s f. let z : ⊥ = cc in z) e
  stopped_run (NoColumn i) u e = ended (NoColumn i) u (λ r s f. let z : ⊥ = cc in z) e
  stopped_run CrampedRatio u e = ended CrampedRatio u (λ r s f. let z : ⊥ = cc in z) e
  stopped_run (Pivot r s) u e = met r s (sym e.place)

-- ---- where the run was stopped
module _ (p : Problem) (cs : List Cut) (box : List Span) (claim : ℕ) (t : Tableau) where
  pub stop_at_pivot : (q : Place) (r c : ℕ) → q ≡ Pivot r c → IsStop p cs box claim q t → answer p cs box ≡ Cramped claim → ⊥
  stop_at_pivot q r c e h = subst (λ (q : Place). IsStop p cs box claim q t) e h

  pub stop_is_there : (q : Place) → IsStop p cs box claim q t → (IsEnd p cs box q t → IsAnswerThere p cs box q t) → IsAnswerThere p cs box q t
  stop_is_there Done h f = f (is_end p cs box t Done h)
  stop_is_there (NoColumn r) h f = f (is_end p cs box t (NoColumn r) h)
  stop_is_there CrampedRatio h f = f (is_end p cs box t CrampedRatio h)
  stop_is_there (Pivot r c) h f = record { optimum = λ e. absurd (let z : ⊥ = cc in z); refuted = λ s e. absurd (let z : ⊥ = cc in z) }

-- at a cramped start the run is cramped after no pivot
pub cramped_start : (p : Problem) (cs : List Cut) (box : List Span) → started (linear_program p cs box) ≡ None → answer p cs box ≡ Cramped 0
cramped_start p cs box e = ap (λ o. answer_of_run p cs box (run_of_start (linear_program p cs box) o)) e
