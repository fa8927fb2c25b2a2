use Rattle.std.proofs.Common.{◌++◌, ◌∷◌, [], arith, ap, sym, ◌∙◌, length}
use Rattle.std.proofs.lemmas.List.{take_all, take_more}
use Rattle.scaled_program.proofs.ToFractions.{row_long, rows_many, statuses_many}
use Rattle.scaled_program.proofs.scaled_tableau.ScaledTableau.all_rows.Goals as goal

pub push-requires : goal.push-requires
push-requires c =
    let n = c.self.inside in
    let long = row_long n.scales.greatest n.scales.rows.items.value.items n.scales.costs n.tableau c.args.self.now c.self.invariant.1 c.self.view_is in
    let many = statuses_many n.scales.greatest n.scales.rows.items.value.items n.scales.costs n.tableau c.args.self.now c.self.invariant.1 c.self.view_is in
    let i = c.loop-variable.variable in
    omega (
      arith,
      ap length (c.deref.ensures.value ∙ c.in_ok-row.ensures),
      long i,
      c.sizes_hold.ensures.rows i (omega (arith, many, c.loop-variable-test.true, c.requires.variables)),
      many,
      c.requires.variables,
      c.requires.few,
    )

pub loop-variable-preserved : goal.loop-variable-preserved
loop-variable-preserved c =
    let n = c.self.inside in
    let many = rows_many n.scales.greatest n.scales.rows.items.value.items n.scales.costs n.tableau c.args.self.now c.self.invariant.1 c.self.view_is in
    c.in_ok-push.ensures.ok
    ∙ (λ t. c.loop-variable.invariant t ++ ((c.deref.ensures.value ∙ c.in_ok-row.ensures) t ∷ []))
    ∙ sym (take_more c.args.self.now.rows c.loop-variable.variable [] (omega (arith, many, c.loop-variable-test.true, c.requires.variables)))

pub returns : goal.returns
returns c =
    let n = c.self.inside in
    let many = rows_many n.scales.greatest n.scales.rows.items.value.items n.scales.costs n.tableau c.args.self.now c.self.invariant.1 c.self.view_is in
    c.loop-variable.invariant ∙ take_all c.loop-variable.variable c.args.self.now.rows (omega (arith, many, c.loop-variable-test.false, c.requires.variables))
