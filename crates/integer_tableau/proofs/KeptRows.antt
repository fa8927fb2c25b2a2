-- The row of a basic variable of a dictionary that is kept, by the lists in which it stands.
use Rattle.std.proofs.Common.{◌≡◌, ℕ, ◌+◌, ◌-◌, ◌*◌, ◌<◌, ◌≤◌, arith, refl, ap, sym, subst, ◌∙◌, List, [], length, get_or}
use Rattle.std.specs.Prelude.{ℤ, pos, nat_abs, ◌<ℤ◌}
use Rattle.std.proofs.Math.Nat.{mul-le-mul_right}
use Rattle.std.proofs.lemmas.List.{get_or_default}
use Rattle.std.proofs.lemmas.Nat.{row_fits}
use Rattle.integer_tableau.proofs.Arenas.{row_at}
use Rattle.integer_tableau.proofs.BasicColumns.{column_of, column_within, columns_rise}
use Rattle.integer_tableau.proofs.Expanded.{row_made, row_of_column}
use Rattle.integer_tableau.proofs.PushedRows.{IsRising, row_found}
use Rattle.integer_tableau.specs.Arena.{flat_row, rows_by}
use Rattle.integer_tableau.specs.BasicColumns.{basic_from, count_below}
use Rattle.integer_tableau.specs.Combined.{combined_row}
use Rattle.integer_tableau.specs.Kept.{IsKept, KeptDictionary, row_in}
use Rattle.integer_tableau.specs.Numbers.{IsWithin}
use Rattle.integer_tableau.specs.Positions.{AreNonbasic}
use Rattle.integer_tableau.specs.Range.{size_limit}
use Rattle.integer_tableau.specs.declared.position.Position.{Position}
use Rattle.integer_tableau.specs.declared.position.Position.TheVariants.{InBasis}

-- of so many columns, by the pieces in which a dictionary stands: the variables of its columns, its basic columns, and the numerators of their rows
module _ (ps : List (List ℤ)) (weight : ℕ) (costs : List ℤ) (d : KeptDictionary) (kept : IsKept ps weight costs d) (vs js : List ℕ) (ns : List ℤ) (w : ℕ)
    (nonbasic : vs ≡ d.nonbasic) (width : length vs ≡ w) (basic : js ≡ d.basic_columns) (stand : d.rows ≡ rows_by w d.basic_columns ns) (count : length ns ≡ length d.basic_columns * w) where
  as_wide : length d.rows ≡ length vs
  as_wide = sym (ap length nonbasic ∙ kept.columns)

  rows : d.rows ≡ rows_by (length vs) js ns
  rows = stand ∙ (λ i. rows_by (sym width i) (sym basic i) ns)

  many : length ns ≡ length js * length vs
  many = count ∙ (λ i. length (sym basic i) * sym width i)

  as_many : length d.positions ≡ length vs + length ps
  as_many = omega (arith, kept.stored.compact.variables, as_wide)

  columns_are : js ≡ basic_from 0 (length vs) d.positions
  columns_are = basic ∙ kept.basic ∙ ap (λ n. basic_from 0 n d.positions) as_wide

  -- where a row begins, and where it ends
  pub begins_within : (p : ℕ) → p ≤ length js → p * length vs ≤ length ns
  begins_within p l = omega (arith, many, mul-le-mul_right (length vs) l)

  pub ends_within : (p : ℕ) → p < length js → p * length vs + length vs ≤ length ns
  ends_within p l = omega (arith, many, row_fits p (length vs) (length js) (length vs) l (omega arith))

  -- each basic column is a column
  pub below_width : (p : ℕ) → p < length js → get_or js p 0 < length vs
  below_width p l = omega (
    arith,
    subst (λ (ks : List ℕ). p < length ks → get_or ks p 0 < 0 + length vs) (sym columns_are) (column_within 0 (length vs) d.positions p) l,
  )

  module _ (v : ℕ) (there : v < length d.positions) (in_basis : get_or d.positions v InBasis ≡ InBasis) where
    -- the row of a basic column stands at its place
    pub column_row : v < length vs → (count_below v js < length js) × (flat_row (length vs) ns (count_below v js) ≡ row_in ps d v)
    column_row l =
        let at = column_of 0 (length vs) v d.positions l there in_basis in
        let found = row_found (length vs) js ns v (subst IsRising (sym columns_are) (columns_rise 0 (length vs) d.positions))
        (subst (λ (ks : List ℕ). (p : ℕ) × (p < length ks) × (get_or ks p 0 ≡ v)) (sym columns_are) (at.0, at.1, omega (arith, at.2))) in (
          found.0,
          sym found.1 ∙ sym (row_at (length vs) js ns v l) ∙ sym (ap (λ ls. get_or ls v []) rows) ∙ sym (row_of_column (nat_abs d.denominator) ps d.positions d.rows v (omega (arith, l, as_wide))),
        )

    -- that of a row's variable is a combination, by the row of the linear program
    program_row_there : length vs ≤ v → v - length vs < length ps
    program_row_there l = omega (arith, l, there, as_many)

    module _ (behind : length vs ≤ v) (a : List ℤ) (own : a ≡ get_or ps (v - length vs) a) where
      pub program_row_width : length vs ≡ length a
      program_row_width = sym (ap length (own ∙ get_or_default ps (v - length vs) a [] (program_row_there behind)) ∙ kept.stored.compact.full (v - length vs) (program_row_there behind) ∙ as_wide)

      made : (row : List ℤ) → row ≡ combined_row (nat_abs d.denominator) d.positions d.rows a → row ≡ row_in ps d v
      made row is = row_made (nat_abs d.denominator) ps d.positions d.rows kept.stored.compact.variables v a row (omega (arith, behind, as_wide)) there in_basis
          (own ∙ ap (λ n. get_or ps (v - n) a) (sym as_wide)) is

      pub combination_row : (cs row : List ℤ) (z : ℤ) → cs ≡ a → z ≡ d.denominator
          → ((ss : List Position) → AreNonbasic ss vs → length cs ≤ length ss → js ≡ basic_from 0 (length cs) ss → length cs ≡ length vs
          → IsWithin (size_limit - 1) (combined_row (nat_abs z) ss (rows_by (length vs) js ns) cs) → pos 0 <ℤ z → row ≡ combined_row (nat_abs z) ss (rows_by (length vs) js ns) cs)
          → row ≡ row_in ps d v
      combination_row cs row z cs_are z_is chain =
          let many : length cs ≡ length vs = ap length cs_are ∙ sym program_row_width in
          let same : combined_row (nat_abs z) d.positions (rows_by (length vs) js ns) cs ≡ combined_row (nat_abs d.denominator) d.positions d.rows a =
          λ i. combined_row (nat_abs (z_is i)) d.positions (sym rows i) (cs_are i) in
          made row (chain d.positions (subst (AreNonbasic d.positions) (sym nonbasic) kept.nonbasic) (omega (arith, many, as_many)) (columns_are ∙ ap (λ n. basic_from 0 n d.positions) (sym many)) many
          (subst (IsWithin (size_limit - 1)) (sym (same ∙ made _ refl)) (kept.stored.compact.rows_within v)) (subst (λ (x : ℤ). pos 0 <ℤ x) (sym z_is) kept.positive) ∙ same)
