use Rattle.std.proofs.Common.{arith, ap, sym, ◌∙◌, [], Some, get_or, set}
use Rattle.std.proofs.lemmas.List.{length-set, get_or-set_same, get_or-set_other}
use Rattle.tableau.specs.Lemmas.Pivoted.{length-substituted}
use Rattle.tableau.specs.SparseSteps.{next_row}
use Rattle.tableau.proofs.Eliminating.{eliminated_rows}
use Rattle.tableau.proofs.elimination.replace_all.Goals as goal

pub returns-clause-rows : goal.returns-clause-rows
returns-clause-rows c =
    eliminated_rows c.args.leaving c.args.entering c.args.rows.now (set c.replace_others.new.rows c.args.leaving c.swap.new.x) c.args.reduced_costs.now _ _ _ c.requires.there c.requires.ready
    (length-set c.replace_others.new.rows c.args.leaving c.swap.new.x ∙ c.replace_others.auto.rows)
    (get_or-set_same c.replace_others.new.rows c.args.leaving c.swap.new.x [] (omega (arith, c.replace_others.auto.rows, c.requires.there)) ∙ c.swap.ensures.x_after)
    (λ k l n. get_or-set_other c.replace_others.new.rows c.args.leaving k c.swap.new.x [] n ∙ c.replace_others.ensures.others k l n ∙ ap (λ rs. next_row c.args.entering (get_or c.args.rows.now k []) (get_or rs k [])) c.deref_mut.ensures.value)

pub returns-clause-width : goal.returns-clause-width
returns-clause-width c =
    length-substituted c.args.entering c.args.work.now.solved c.args.reduced_costs.now c.swap-2.new.x (c.requires.ready.are_costs ∙ ap Some (sym c.swap-2.ensures.x_after))
