use Rattle.std.proofs.Common.{◌≡◌, ◌≢◌, ◌^◌, ◌<◌, ◌≤◌, ◌-◌, ◌++◌, ℕ, List, length, get_or, replicate, map, pos, ℤ, None, arith, refl, ap, sym, subst, ◌∙◌, false}
use Rattle.std.specs.Prelude.{IfSome}
use Rattle.std.proofs.lemmas.List.{length-append}
use Rattle.integer_tableau.specs.Range.{size_limit}
use Rattle.integer_tableau.specs.Combined.{bound_size, total_bound_size}
use Rattle.integer_tableau.specs.IntegerProgram.{CanStart}
use Rattle.integer_tableau.specs.Exits.{are_free}
use Rattle.integer_tableau.specs.Kept.{HaveSameBasis}
use Rattle.integer_tableau.specs.RowSums.{AreColumnSums, AreColumnsOf, AreRowSums}
use Rattle.integer_tableau.specs.Start.{columns_from, is_negative, start_numbers}
use Rattle.integer_tableau.specs.declared.position.Position.{Position}
use Rattle.integer_tableau.specs.declared.position.Position.TheVariants.{InBasis}
use Rattle.integer_tableau.proofs.RowSums.{start_apart}
use Rattle.integer_tableau.proofs.Starting.{length_columns, length_start_numbers}
use Rattle.integer_tableau.proofs.StartFromCode.{start_compact, start_is}
use Rattle.integer_tableau.proofs.basic_solution.BasicSolution.put_start.Goals as goal
use Rattle.integer_tableau.proofs.basic_solution.BasicSolution.put_start.Goals.{In_ok-put_row_sums}

-- what the parts are
module _ (c : In_ok-put_row_sums) where
  abbrev costs : List ℤ
  costs = c.args.costs.now

  abbrev n : ℕ
  n = length costs

  values_are : c.put_zeros.new.list.items ≡ replicate n (pos 0)
  values_are = c.in_ok-put_zeros.ensures ∙ ap (λ k. replicate k (pos 0)) c.width-width.ensures

  reached : (j : ℕ) → j < n → bound_size (get_or c.args.self.now.bounds.items j (record { lower = None; upper = None })) ≤ c.reach_of-self.result
  reached j l = subst (λ bs. bound_size (get_or bs j (record { lower = None; upper = None })) ≤ c.reach_of-self.result) c.deref.ensures.value (c.reach_of-self.ensures j (omega (arith, l, c.width-width.ensures)))

  near : c.reach_of-self.result < 2 ^ 63
  near = omega (arith, c.if-not-is_near.ensures refl)

  room : total_bound_size c.args.self.now.bounds.items < size_limit
  room = subst (λ bs. total_bound_size bs < size_limit) c.deref-2.ensures.value (c.if-not-has_room.ensures refl)

  -- for a linear program that can start
  module _ (ps : List (List ℤ)) (weight : ℕ) (ready : CanStart ps weight c.args.costs.now c.args.self.now.bounds.items) where
    abbrev more : List Position
    more = replicate (length ps) InBasis

    at_upper_are : c.put_at_upper.new.list.items ≡ map is_negative costs ++ replicate (length ps) false
    at_upper_are =
        let count : c.len-count.result - length c.numerators.result.now ≡ length ps = omega (arith, c.len-count.ensures, c.args.self.now.bounds.ok, ready.bounds_there, ap length c.numerators.ensures) in
        c.in_ok-put_at_upper.ensures ∙ (λ i. map is_negative (c.numerators.ensures i) ++ replicate (count i) false)

    nonbasic_values_are : c.put_numbers.new.list.items ≡ start_numbers costs c.args.self.now.bounds.items ++ replicate (length ps) (pos 0)
    nonbasic_values_are =
        let count : length c.deref-3.result.now - length c.numerators-2.result.now ≡ length ps = omega (arith, ap length c.deref-3.ensures.value, ready.bounds_there, ap length c.numerators-2.ensures) in
        c.in_ok-put_numbers.ensures ∙ (λ i. start_numbers (c.numerators-2.ensures i) (c.deref-3.ensures.value i) ++ replicate (count i) (pos 0))

    positions_are : c.put_positions.new.list.items ≡ columns_from 0 n ++ more
    positions_are =
        let count : c.len-count.result - c.width-width.result ≡ length ps = omega (arith, c.len-count.ensures, c.args.self.now.bounds.ok, ready.bounds_there, c.width-width.ensures) in
        c.in_ok-put_positions.ensures ∙ (λ i. columns_from 0 (c.width-width.ensures i) ++ replicate (count i) InBasis)

    sums_are : IfSome c.args.columns.now (AreColumnsOf ps) → AreColumnSums ps c.args.start_sums.now.values.items c.args.start_sums.now.sums.items
        → AreRowSums ps c.put_positions.new.list.items c.put_numbers.new.list.items c.put_row_sums.new.row_sums.items
    sums_are are hold =
        let ss = c.put_positions.new.list.items in
        let wide : c.width-width.result ≤ length ss = omega (arith, c.width-width.ensures, ap length positions_are, length-append (columns_from 0 n) more, length_columns 0 n) in
        let apart : (j : ℕ) → j < c.width-width.result → get_or ss j InBasis ≢ InBasis =
        λ j l. subst (λ ss. get_or ss j InBasis ≢ InBasis) (sym positions_are) (start_apart 0 n more j (omega (arith, l, c.width-width.ensures))) in
        subst (λ xs. AreRowSums ps ss xs c.put_row_sums.new.row_sums.items) c.deref-5.ensures.value (c.in_ok-put_row_sums.ensures.value ps ss are hold wide apart)

same_basis : (ss ts : List Position) → ss ≡ ts → HaveSameBasis ss ts
same_basis ss ts e = subst (HaveSameBasis ss) e record { count = refl; to = λ v q. q; back = λ v q. q }

pub put_row_sums-requires-clause-values_there : goal.put_row_sums-requires-clause-values_there
put_row_sums-requires-clause-values_there c =
    let cs = c.numerators-2.result.now in
    let bs = c.deref-3.result.now in
    let many : length cs ≡ length c.args.costs.now = ap length c.numerators-2.ensures in
    let there : length cs ≤ length bs = omega (arith, many, ap length c.deref-3.ensures.value, c.requires.there) in
    omega (
      arith,
      ap length c.deref-5.ensures.value,
      ap length c.in_ok-put_numbers.ensures,
      length-append (start_numbers cs bs) (replicate (length bs - length cs) (pos 0)),
      length_start_numbers cs bs there,
      many,
      c.width-width.ensures,
    )

pub returns-clause-solution : goal.returns-clause-solution
returns-clause-solution c = λ _. record {
  at = λ ps weight d are hold ready s. record {
    compact = start_compact ps weight c.reach_of-self.result c.args.costs.now c.args.self.now.bounds.items ready (reached c) (near c) (room c) d.positions c.put_at_upper.new.list.items
        c.put_numbers.new.list.items d.rows d.reduced_costs c.put_zeros.new.list.items d.denominator ps
        s.positions (at_upper_are c ps weight ready) (nonbasic_values_are c ps weight ready) s.rows s.reduced_costs (values_are c) s.denominator refl;
    basis = same_basis c.put_positions.new.list.items d.positions (positions_are c ps weight ready ∙ sym s.positions);
    sums = sums_are c ps weight ready are hold;
    free = c.in_ok-put_free.ensures ∙ ap are_free c.deref-4.ensures.value;
  };
  started = λ ps weight numbers d ready s.
      start_is ps weight c.reach_of-self.result c.args.costs.now c.args.self.now.bounds.items ready (reached c) (near c) (room c) d.positions c.put_at_upper.new.list.items
      c.put_numbers.new.list.items d.rows d.reduced_costs c.put_zeros.new.list.items d.denominator ps
      s.positions (at_upper_are c ps weight ready) (nonbasic_values_are c ps weight ready) s.rows s.reduced_costs (values_are c) s.denominator refl numbers;
  pivots = refl;
}
