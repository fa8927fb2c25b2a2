use Rattle.std.proofs.Common.{arith, refl, ◌≡◌, ◌+◌, ◌≤◌, ◌<◌, ◌∙◌, ap, drop, length}
use Rattle.integer_tableau.proofs.Answering.{multipliers_are}
use Rattle.integer_tableau.proofs.FromCode.{is_there, statuses_as_many}
use Rattle.integer_tableau.proofs.Sizes.{written}
use Rattle.tableau.specs.Multipliers.{row_multipliers}
use Rattle.tableau.specs.Tableau.{row_of}
use Rattle.integer_tableau.proofs.integer_tableau.IntegerTableau.row_multipliers.Goals as goal
use Rattle.integer_tableau.proofs.integer_tableau.IntegerTableau.row_multipliers.Goals.{then-row-columns, else-row-columns}

pub coefficients_from-requires-clause-first_there : goal.coefficients_from-requires-clause-first_there
coefficients_from-requires-clause-first_there c =
    omega (arith, c.len-columns.ensures, c.self.inside.rows.ok, c.self.invariant.0.variables, statuses_as_many _ _ _ _ _ _ c.args.self.now c.self.invariant.0 c.self.view_is)

pub returns : goal.returns
returns c =
    let n = c.self.inside in
    let m = c.in_ok-multipliers.multipliers in
    let direction = c.direction_of-direction.result in
    let place = c.if-row-columns.place in
    let columns_are : c.len-columns.result ≡ length n.rows.items = c.len-columns.ensures ∙ n.rows.ok.0 in
    let before : c.args.row < length n.rows.items → length n.fixed.rows.items.value.items ≤ place =
    elim c.if-row-columns.branch [
      | then-row-columns w ↦ λ l. omega (arith, w.place-is, w.len-place.ensures, n.positions.ok, c.self.invariant.0.variables)
      | else-row-columns w ↦ λ l. absurd (omega (arith, l, columns_are, w.if-row-columns.false))
    ] in
    let behind : length n.rows.items ≤ c.args.row → c.args.row ≡ length n.rows.items + place =
    elim c.if-row-columns.branch [
      | then-row-columns w ↦ λ l. absurd (omega (arith, l, columns_are, w.if-row-columns.true))
      | else-row-columns w ↦ λ l. omega (arith, l, columns_are, w.place-is)
    ] in
    written c.turn_into_multipliers.new.coefficients m.items m.len (c.turn_into_multipliers.auto.coefficients ∙ c.deref_mut.ensures.len)
    ∙ c.turn_into_multipliers.ensures ∙ ap (row_multipliers direction place) c.deref_mut.ensures.value
    ∙ multipliers_are _ _ _ _ _ _ c.args.self.now c.self.invariant.0 c.self.view_is refl c.args.row (is_there _ _ _ _ _ _ c.args.self.now c.self.invariant.0 c.self.view_is n.positions.items c.args.row refl c.requires)
    direction place m.items c.direction_of-direction.ensures (c.in_ok-multipliers.ensures ∙ ap (λ n. drop n (row_of c.args.self.now c.args.row)) columns_are) before behind
