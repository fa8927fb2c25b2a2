-- Nonbasic values after an exchange: the bounds bound them still.
use Rattle.std.proofs.Common.{◌≡◌, ◌≢◌, ℕ, ◌<◌, ◌≤◌, arith, ap, sym, ◌∙◌, subst, Option, Some, None, List, length, get_or, inl, inr, get_or-set_other, get_or-set_same}
use Rattle.std.specs.Prelude.{ℤ, pos, nat_abs}
use Rattle.std.specs.Option.{option_map, unwrap_or}
use Rattle.std.proofs.lemmas.Bool.{cases_eq}
use Rattle.std.proofs.lemmas.List.{length-set}
use Rattle.fraction.specs.Lemmas.Bounds.{whole_parts}
use Rattle.fraction.specs.Rational.{ℚ, whole}
use Rattle.integer_tableau.proofs.Exchanges.{nonbasic_values_exchanged}
use Rattle.integer_tableau.proofs.Expanded.{bounded_total}
use Rattle.integer_tableau.specs.Combined.{bound_size, size_of, total_bound_size}
use Rattle.integer_tableau.specs.IntegerTableau.{fraction_bounds}
use Rattle.integer_tableau.specs.Numbers.{number_at, total_size}
use Rattle.integer_tableau.specs.Range.{size_limit}
use Rattle.integer_tableau.specs.declared.integer_bounds.IntegerBounds.{IntegerBounds}
use Rattle.tableau.specs.Leaving.{violated_bound}
use Rattle.tableau.specs.declared.bounds.Direction.{Direction}
use Rattle.tableau.specs.declared.bounds.Direction.TheVariants.{Fall, Rise}

-- a bound that is violated is one of the two
violated_size : (w : Direction) (bounds : IntegerBounds) (b : ℤ) → violated_bound w (fraction_bounds bounds) ≡ whole b → nat_abs b ≤ bound_size bounds
violated_size Rise bounds b e = omega (arith, end bounds.lower b e)
  where
    end : (o : Option ℤ) (b : ℤ) → unwrap_or (option_map whole o) (whole (pos 0)) ≡ whole b → nat_abs b ≤ size_of o
    end None b e = omega (arith, ap nat_abs (sym (whole_parts b).0 ∙ ap (λ (x : ℚ). x.num) (sym e) ∙ (whole_parts (pos 0)).0))
    end (Some z) b e = omega (arith, ap nat_abs (sym (whole_parts b).0 ∙ ap (λ (x : ℚ). x.num) (sym e) ∙ (whole_parts z).0))
violated_size Fall bounds b e = omega (arith, end bounds.upper b e)
  where
    end : (o : Option ℤ) (b : ℤ) → unwrap_or (option_map whole o) (whole (pos 0)) ≡ whole b → nat_abs b ≤ size_of o
    end None b e = omega (arith, ap nat_abs (sym (whole_parts b).0 ∙ ap (λ (x : ℚ). x.num) (sym e) ∙ (whole_parts (pos 0)).0))
    end (Some z) b e = omega (arith, ap nat_abs (sym (whole_parts b).0 ∙ ap (λ (x : ℚ). x.num) (sym e) ∙ (whole_parts z).0))

abbrev none : IntegerBounds
none = record { lower = None; upper = None }

module _ (bounds : List IntegerBounds) (xs : List ℤ) (r c : ℕ) (w : Direction) (b : ℤ) (r_there : r < length xs) (c_there : c < length xs) (apart : r ≢ c)
    (bound : violated_bound w (fraction_bounds (get_or bounds r none)) ≡ whole b) (bounded : (v : ℕ) → v < length xs → nat_abs (number_at xs v) ≤ bound_size (get_or bounds v none)) where
  abbrev after : List ℤ
  after = nonbasic_values_exchanged r c b xs

  pub exchanged_many : length after ≡ length xs
  exchanged_many = length-set _ c (pos 0) ∙ length-set xs r b

  at_c : number_at after c ≡ pos 0
  at_c = get_or-set_same _ c (pos 0) (pos 0) (omega (arith, c_there, length-set xs r b))

  at_r : number_at after r ≡ b
  at_r = get_or-set_other _ c r (pos 0) (pos 0) apart ∙ get_or-set_same xs r b (pos 0) r_there

  pub exchanged_bounded : (v : ℕ) → v < length xs → nat_abs (number_at after v) ≤ bound_size (get_or bounds v none)
  exchanged_bounded v l = elim (cases_eq v c) [
    | inl z ↦ subst (λ x. nat_abs x ≤ bound_size (get_or bounds v none)) (sym (ap (number_at after) z ∙ at_c)) (omega arith)
    | inr o ↦ elim (cases_eq v r) [
      | inl z ↦ subst (λ u. nat_abs (number_at after u) ≤ bound_size (get_or bounds u none)) (sym z)
          (subst (λ x. nat_abs x ≤ bound_size (get_or bounds r none)) (sym at_r) (violated_size w (get_or bounds r none) b bound))
      | inr m ↦ subst (λ x. nat_abs x ≤ bound_size (get_or bounds v none))
          (sym (get_or-set_other _ c v (pos 0) (pos 0) o ∙ get_or-set_other xs r v b (pos 0) m)) (bounded v l)
    ]
  ]

  pub exchanged_total : length xs ≡ length bounds → total_bound_size bounds < size_limit → total_size after < size_limit
  exchanged_total many room = omega (arith, room, bounded_total bounds after (exchanged_many ∙ many) (λ v l. exchanged_bounded v (omega (arith, l, many))))
