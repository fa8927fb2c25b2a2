use Rattle.std.proofs.Common.{◌∙◌, Some, sym}
use Rattle.std.proofs.lemmas.Result.{err_from_is_err_and}
use Rattle.command_words.proofs.LimitsAsked.{limits_are, no_nodes, no_cuts, no_workers}
use Rattle.command_words.proofs.limits.limits_of.Goals as goal

pub returns-in_err-nodes-clause-usage : goal.returns-in_err-nodes-clause-usage
returns-in_err-nodes-clause-usage c =
    let p = err_from_is_err_and c.from_residual.result c.from_residual.ensures.1 in
    rw (p.1, p.2) (c.in_err-nodes.ensures.usage.0, no_nodes _ c.in_err-nodes.ensures.usage.1)

pub returns-in_err-cuts-clause-usage : goal.returns-in_err-cuts-clause-usage
returns-in_err-cuts-clause-usage c =
    let p = err_from_is_err_and c.from_residual-in_err-cuts.result c.from_residual-in_err-cuts.ensures.1 in
    rw (p.1, p.2) (c.in_err-cuts.ensures.usage.0, no_cuts _ _ c.in_ok-nodes.ensures.number c.in_err-cuts.ensures.usage.1)

pub returns-in_err-workers-clause-usage : goal.returns-in_err-workers-clause-usage
returns-in_err-workers-clause-usage c =
    let p = err_from_is_err_and c.from_residual-in_err-workers.result c.from_residual-in_err-workers.ensures.1 in
    rw (p.1, p.2) (c.in_err-workers.ensures.usage.0, no_workers _ _ _ c.in_ok-nodes.ensures.number c.in_ok-cuts.ensures.number c.in_err-workers.ensures.usage.1)

pub returns-clause-asked : goal.returns-clause-asked
returns-clause-asked c =
    limits_are _ _ _ _ c.in_ok-nodes.ensures.number c.in_ok-cuts.ensures.number c.in_ok-workers.ensures.number
    ∙ (λ i. Some (record { nodes = sym c.unwrap_or.ensures i; cuts = sym c.unwrap_or-2.ensures i; workers = sym c.unwrap_or-3.ensures i }))
