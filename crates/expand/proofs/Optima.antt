-- What an optimum of the relaxation of a node gives: a proof, a point, or a split.
use Rattle.std.specs.Prelude.{◌≡◌, ◌<◌, ◌≤◌, ◌+◌, ◌++◌, ℕ, zero, suc, ℤ, pos, ◌≤ℤ◌, int_le, int_lt, nat_abs, nat_eq, Bool, true, false, not, IsTrue, ◌&&◌, List, [], ◌∷◌, length, map, take, All, Option, Some, None, slice_get, slice_index_or, refl}
use Rattle.std.specs.Option.{ForSome}
use Rattle.std.proofs.Common.{sym, ap, ◌∙◌, subst, inl, inr, arith}
use Rattle.std.proofs.lemmas.Int.{ints}
use Rattle.std.proofs.lemmas.Bool.{false≢true}
use Rattle.std.proofs.lemmas.Bool.Decides.{Decides-eqb}
use Rattle.std.proofs.lemmas.List.Elements.{All-head, All-tail, All-weaker}
use Rattle.std.proofs.lemmas.Option.{same_Some, none-some, slice_get_within, get_or_from_slice_get}
use Rattle.std.proofs.lemmas.List.{take_more, length-map, get_or-map}
use Rattle.fraction.specs.Rational.{ℚ, whole, frac, floor, ceil, ◌≤ℚ◌}
use Rattle.fraction.specs.Order.{◌<ℚ◌}
use Rattle.fraction.specs.Whole.{IsWhole}
use Rattle.fraction.specs.Lemmas.Rational.{ℚ_is, ≤ℚ_refl, ≤ℚ_trans, ≤ℚ_antisymm, floor-≤ℚ, ceil_least}
use Rattle.fraction.specs.Lemmas.Order.{same_le, either_order, whole-≤ℚ, ≤ℚ-whole, floor_greatest, ceil-≤ℚ}
use Rattle.fraction.specs.Lemmas.Bounds.{whole_parts}
use Rattle.problem_box.specs.declared.span.Span.{Span}
use Rattle.problem_box.specs.Boxes.{IsInBox}
use Rattle.problem.specs.declared.row.Row.{Row}
use Rattle.problem.specs.Linear.{Multipliers}
use Rattle.problem.specs.Rows.{Compares, Satisfies}
use Rattle.problem.specs.Problem.{Problem}
use Rattle.problem.specs.Feasible.{HasWholeObjective, IsFeasible}
use Rattle.problem.specs.Limited.{IsModestSpan}
use Rattle.problem.specs.Limits.{largest_bound}
use Rattle.node_events.specs.declared.reason.Reason.{Reason}
use Rattle.node_events.specs.declared.reason.Reason.TheVariants.{Fractional, Cramped, Stalled}
use Rattle.node_events.specs.declared.proof.Proof.TheVariants.{Refute, Bound}
use Rattle.derivation_book.specs.declared.cut.Cut.{Cut}
use Rattle.derivation_book.specs.Legal.{IsLegalProof, has_whole_objective, rounded_if, reaches, is_legal_proof}
use Rattle.derivation_book.specs.Lemmas.Deciding.{decides-whole, decides-at_most, decides-legal}
use Rattle.derivation_book.specs.Lemmas.Staying.{by_first}
use Rattle.dual_simplex.specs.declared.answer.Answer.TheVariants.{Infeasible}
use Rattle.dual_simplex.specs.Relaxation.{RationalPoint, rational_at, rational_value, LiesInBox, SatisfiesRow}
use Rattle.dual_simplex.specs.Answers.{answer}
use Rattle.dual_simplex.specs.Meaning.{IsOptimal}
use Rattle.dual_simplex.specs.Laws.{IsBoxOf}
use Rattle.dual_simplex.specs.Lemmas.Closing.{infeasible_closes}
use Rattle.dual_simplex.specs.Lemmas.RationalValues.{rational_value-whole}
use Rattle.event_core.specs.Splits.{has_both, IsMiddle, IsFractional, is_reason}
use Rattle.event_core.specs.Lemmas.Reasons.{decides-reason}
use Rattle.expand.specs.Verdicts.{IsPart}
use Rattle.expand.specs.Expansion.{is_rounded}
use Rattle.expand.specs.Findings.{IsOfRun}
use Rattle.expand.specs.Settling.{floors}
use Rattle.problem.specs.Directions.{aim_at, aim}

-- ---- whole numbers
num_of_whole : (q : ℚ) → IsWhole q → q ≡ whole q.num
num_of_whole q e = ℚ_is q ∙ ap (frac q.num) e

pub floor_is : (q : ℚ) → IsWhole q → whole (floor q) ≡ q
floor_is q e =
    let h = floor_greatest q q.num (same_le (whole q.num) q (sym (num_of_whole q e))) in
    ≤ℚ_antisymm (whole (floor q)) q (floor-≤ℚ q) (≤ℚ_trans q (whole q.num) (whole (floor q)) (same_le q (whole q.num) (num_of_whole q e)) (whole-≤ℚ q.num (floor q) h))

ceil_is : (q : ℚ) → IsWhole q → whole (ceil q) ≡ q
ceil_is q e =
    let h = ceil_least q q.num (same_le q (whole q.num) (num_of_whole q e)) in
    ≤ℚ_antisymm (whole (ceil q)) q (≤ℚ_trans (whole (ceil q)) (whole q.num) q (whole-≤ℚ (ceil q) q.num h) (same_le (whole q.num) q (sym (num_of_whole q e)))) (ceil-≤ℚ q)

floors_are : (x : RationalPoint) → All IsWhole x → map whole (floors x) ≡ x
floors_are [] h = refl
floors_are (q ∷ x) h = λ i. floor_is q (All-head IsWhole q x h) i ∷ floors_are x (All-tail IsWhole q x h) i

-- ---- numbers in a span
floor_low : (s : Span) (q : ℚ) → whole s.lo ≤ℚ q → s.lo ≤ℤ floor q
floor_low s q h = floor_greatest q s.lo h

floor_high : (s : Span) (q : ℚ) → q ≤ℚ whole s.hi → floor q ≤ℤ s.hi
floor_high s q h = ≤ℚ-whole (floor q) s.hi (≤ℚ_trans (whole (floor q)) q (whole s.hi) (floor-≤ℚ q) h)

below_end : (s : Span) (q : ℚ) → q ≤ℚ whole s.hi → (IsWhole q → ⊥) → int_lt (floor q) s.hi ≡ true
below_end s q h n = step (int_lt (floor q) s.hi) refl
  where
    at_end : (a b : ℤ) → int_lt a b ≡ false → b ≤ℤ a
    at_end a b e = grind (arith, ints)

    step : (t : Bool) → int_lt (floor q) s.hi ≡ t → int_lt (floor q) s.hi ≡ true
    step true e = e
    step false e =
        let k = whole-≤ℚ s.hi (floor q) (at_end (floor q) s.hi e) in
        let same = ≤ℚ_antisymm q (whole s.hi) h (≤ℚ_trans (whole s.hi) (whole (floor q)) q k (floor-≤ℚ q)) in
        absurd (n (subst IsWhole (sym same) (whole_parts s.hi).1))

above_start : (a b : ℤ) → a ≤ℤ b → int_le a b ≡ true
above_start a b h = grind (arith, ints)

-- the span of a column has the floor of a number that isn't whole, and the number after it
pub both_at_floor : (ss : List Span) (x : RationalPoint) (j : ℕ) → LiesInBox ss x → (IsWhole (rational_at x j) → ⊥) → has_both (slice_get ss j) (floor (rational_at x j)) ≡ true
both_at_floor [] [] j h n = absurd (n (whole_parts (pos 0)).1)
both_at_floor [] (q ∷ x) j h n = absurd h
both_at_floor (s ∷ ss) [] j h n = absurd h
both_at_floor (s ∷ ss) (q ∷ x) zero h n =
    let a = above_start s.lo (floor q) (floor_low s q h.0) in
    let b = below_end s q h.1 n in
    λ i. a i && b i
both_at_floor (s ∷ ss) (q ∷ x) (suc j) h n = both_at_floor ss x j h.2 n

pub floor_modest : (ss : List Span) (x : RationalPoint) (j : ℕ) (q : ℚ) → LiesInBox ss x → All IsModestSpan ss → slice_get x j ≡ Some q → nat_abs (floor q) ≤ largest_bound
floor_modest [] [] j q h m e = absurd (none-some q e)
floor_modest [] (r ∷ x) j q h m e = absurd h
floor_modest (s ∷ ss) [] j q h m e = absurd h
floor_modest (s ∷ ss) (r ∷ x) zero q h m e = subst (λ (y : ℚ). nat_abs (floor y) ≤ largest_bound) (same_Some r q e) (within s.lo (floor r) s.hi (floor_low s r h.0) (floor_high s r h.1) k.0 k.1)
  where
    k : IsModestSpan s
    k = All-head IsModestSpan s ss m

    within : (a b c : ℤ) → a ≤ℤ b → b ≤ℤ c → nat_abs a ≤ largest_bound → nat_abs c ≤ largest_bound → nat_abs b ≤ largest_bound
    within a b c l n o p = omega (arith, ints, l, n, o, p)
floor_modest (s ∷ ss) (r ∷ x) (suc j) q h m e = floor_modest ss x j q h.2 (All-tail IsModestSpan s ss m) e

pub floors_more : (x : RationalPoint) (j : ℕ) (q : ℚ) → slice_get x j ≡ Some q → take j (floors x) ++ floor q ∷ [] ≡ take (j + 1) (floors x)
floors_more x j q e =
    let l = slice_get_within x j q e in
    let there : j < length (floors x) = omega (arith, l, length-map x floor) in
    let here : slice_index_or (floors x) j (floor q) ≡ floor q = get_or-map floor x j q (floor q) l ∙ ap floor (get_or_from_slice_get x j q q e) in
    ap (λ z. take j (floors x) ++ z ∷ []) (sym here) ∙ sym (take_more (floors x) j (floor q) there)

floors_inside : (ss : List Span) (x : RationalPoint) → LiesInBox ss x → IsInBox ss (floors x)
floors_inside [] [] h = tt
floors_inside [] (q ∷ x) h = absurd h
floors_inside (s ∷ ss) [] h = absurd h
floors_inside (s ∷ ss) (q ∷ x) h = ((floor_low s q h.0, floor_high s q h.1), floors_inside ss x h.2)

-- ---- bounds
pub rounded_whole : (p : Problem) (v : ℚ) → IsTrue (is_rounded p v) → HasWholeObjective p
rounded_whole p v h = (decides-whole p).0 (first (has_whole_objective p) (not (nat_eq v.den 1)) h)
  where
    first : (a b : Bool) → (a && b) ≡ true → a ≡ true
    first true b e = refl
    first false b e = cc

same_bound : (p : Problem) (v : ℚ) → rounded_if (is_rounded p v) v ≡ rounded_if (has_whole_objective p) v
same_bound p v = step (has_whole_objective p) (nat_eq v.den 1) (Decides-eqb v.den 1).0
  where
    step : (a b : Bool) → (b ≡ true → IsWhole v) → rounded_if (a && not b) v ≡ rounded_if a v
    step false b h = refl
    step true true h = sym (ceil_is v (h refl))
    step true false h = refl

at_most_rounded : (r : Bool) (v : ℚ) → v ≤ℚ rounded_if r v
at_most_rounded true v = ceil-≤ℚ v
at_most_rounded false v = ≤ℚ_refl v

not_reached : (c : Option ℚ) (r : Bool) (v : ℚ) → reaches c r (Some v) ≡ false → ForSome c (λ z. rounded_if r v <ℚ z)
not_reached None r v e = λ z f. absurd (none-some z f)
not_reached (Some z) r v e =
    λ w f. subst (λ y. rounded_if r v <ℚ y) (same_Some z w f)
    (elim (either_order z (rounded_if r v)) [ inl l ↦ absurd (false≢true (sym e ∙ (decides-at_most z (rounded_if r v)).1 l)) | inr l ↦ l ])

-- ---- the relaxation with the first k cuts of a box
module _ (p : Problem) (cs : List Cut) (box : List Span) (cutoff : Option ℚ) where
  pub infeasible_shut : (k : ℕ) (mult : Multipliers) → IsBoxOf p box → answer p (take k cs) box ≡ Infeasible mult → is_legal_proof p cs box cutoff (Refute mult) ≡ true
  infeasible_shut k mult b e = (decides-legal p cs box cutoff (Refute mult)).1 (infeasible_closes p cs k box mult cutoff b e)

  pub middle_reason : (j : ℕ) (z : ℤ) (r : Reason) → All (λ (s : Span). s.lo ≤ℤ s.hi) box → IsMiddle box j z → IsOfRun p cs box r → is_reason p cs box cutoff j z r ≡ true
  middle_reason j z (Fractional k x) n m h = absurd h
  middle_reason j z (Cramped k pivots) n m h = (decides-reason p cs box cutoff j z (Cramped k pivots)).1 record { nonempty = n; few_cuts = h.0; given = (h.1, m) }
  middle_reason j z (Stalled k) n m h = (decides-reason p cs box cutoff j z (Stalled k)).1 record { nonempty = n; few_cuts = h.0; given = (h.1, m) }

-- the bound of an optimum is the proof's, rounded up where the objective is whole
module _ (p : Problem) (cs : List Cut) (box : List Span) (k : ℕ) (x : RationalPoint) (mult : Multipliers) (v : ℚ) (optimum : IsOptimal p (take k cs) box x mult v) where
  bounds_at : (z : ℚ) → z ≤ℚ rounded_if (is_rounded p v) v → IsLegalProof p (take k cs) box (Some z) (Bound mult (is_rounded p v))
  bounds_at z l = record {
    multipliers = optimum.multipliers;
    whole_objective = rounded_whole p v;
    limit = z;
    limited = refl;
    value = v;
    priced = optimum.priced;
    reached = l;
  }

  pub closes_at : (z : ℚ) → z ≤ℚ rounded_if (is_rounded p v) v → is_legal_proof p cs box (Some z) (Bound mult (is_rounded p v)) ≡ true
  closes_at z l =
      (decides-legal p cs box (Some z) (Bound mult (is_rounded p v))).1
      (by_first p cs k box (Some z) (Bound mult (is_rounded p v)) (bounds_at z l))

  pub optimum_shut : (cutoff : Option ℚ) → reaches cutoff (is_rounded p v) (Some v) ≡ true → is_legal_proof p cs box cutoff (Bound mult (is_rounded p v)) ≡ true
  optimum_shut None h = cc
  optimum_shut (Some z) h = closes_at z ((decides-at_most z (rounded_if (is_rounded p v) v)).0 h)

  pub fraction_reason : (cutoff : Option ℚ) (j : ℕ) → All (λ (s : Span). s.lo ≤ℤ s.hi) box → k ≤ length cs → reaches cutoff (is_rounded p v) (Some v) ≡ false → (IsWhole (rational_at x j) → ⊥)
      → is_reason p cs box cutoff j (floor (rational_at x j)) (Fractional k x) ≡ true
  fraction_reason cutoff j nonempty few h n =
      let given : IsFractional p (take k cs) box cutoff j (floor (rational_at x j)) x = record {
        relaxed = optimum.point;
        sums = optimum.sums;
        below = subst (λ w. ForSome cutoff (λ z. rounded_if (has_whole_objective p) w <ℚ z)) optimum.objective
            (subst (λ w. ForSome cutoff (λ z. w <ℚ z)) (same_bound p v) (not_reached cutoff (is_rounded p v) v h));
        not_whole = n;
        bound = refl;
      } in
      (decides-reason p cs box cutoff j (floor (rational_at x j)) (Fractional k x)).1 record { nonempty = nonempty; few_cuts = few; given = given }

  -- a whole optimum is a feasible point of the problem
  module _ (w : All IsWhole x) where
    same : map whole (floors x) ≡ x
    same = floors_are x w

    pub whole_value : v ≡ aim_at p (floors x)
    whole_value = optimum.objective ∙ ap (rational_value (aim p)) (sym same) ∙ rational_value-whole (aim p) (floors x)

    pub whole_feasible : IsPart p box → IsFeasible p (floors x)
    whole_feasible part =
        let meets : (q : Row) → SatisfiesRow x q → Satisfies (floors x) q =
        λ q m. subst (Compares q.sense q.rhs) (ap (rational_value q.terms) (sym same) ∙ rational_value-whole q.terms (floors x)) m
        in
        record {
          in_box = part (floors x) (floors_inside box x optimum.point.in_box);
          rows = All-weaker (SatisfiesRow x) (Satisfies (floors x)) meets p.rows optimum.point.rows;
        }

    -- whose bound closes the node where the cutoff is at most its value
    pub whole_closes : (z : ℚ) → z ≤ℚ aim_at p (floors x) → is_legal_proof p cs box (Some z) (Bound mult (is_rounded p v)) ≡ true
    whole_closes z l = closes_at z (≤ℚ_trans z v (rounded_if (is_rounded p v) v) (subst (λ y. z ≤ℚ y) (sym whole_value) l) (at_most_rounded (is_rounded p v) v))
