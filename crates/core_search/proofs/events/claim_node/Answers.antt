use Rattle.std.proofs.Common.{sym, subst, ◌∙◌, [], ◌∷◌}
use Rattle.node_events.specs.declared.event.Event.TheVariants.{Claim}
use Rattle.core_search.specs.Entries.{IsGreatest}
use Rattle.core_search.proofs.Pooling.{applied_then, same_journal}
use Rattle.core_search.specs.Visits.{Makes}
use Rattle.core_search.proofs.Visiting.{both, nothing, one, unended_one, unended_stays}
use Rattle.core_search.proofs.events.claim_node.Goals as goal

pub returns-clause-goes_on : goal.returns-clause-goes_on
returns-clause-goes_on g c =
    let a = c.args.pool.now in
    let b = c.ready.new.self in
    let z = c.claim.new.self in
    let n = c.in-Node.claimed in
    let applied = c.claim.ensures.claimed n c.in-Node.is in
    let greatest : IsGreatest a.state.state n = subst (IsGreatest a.state.state) (sym c.if-prove.false) c.requires.greatest in
    same_journal a z (applied_then a.state b.state z.state (Claim n) c.ready.ensures.stays applied greatest) (c.claim.ensures.journal ∙ c.ready.ensures.journal)
    (c.claim.ensures.budget ∙ c.ready.ensures.budget) (c.claim.ensures.faults ∙ c.ready.ensures.faults)

pub returns-clause-made : goal.returns-clause-made
returns-clause-made g c =
    let a = c.args.pool.now.state in
    let b = c.ready.new.self.state in
    let z = c.claim.new.self.state in
    let n = c.in-Node.claimed in
    subst (λ m. Makes (Claim m ∷ []) a z) c.if-prove.false
    (both a b z [] (Claim n ∷ []) (nothing a b c.ready.ensures.stays) (one b z (Claim n) (c.claim.ensures.claimed n c.in-Node.is)))

pub returns-clause-unended : goal.returns-clause-unended
returns-clause-unended g c = unended_one c.args.pool.now.state c.claim.new.self.state (Claim c.args.node) tt (returns-clause-made g c)

pub returns-in_err-ready-clause-unended : goal.returns-in_err-ready-clause-unended
returns-in_err-ready-clause-unended g c = unended_stays c.args.pool.now.state c.ready.new.self.state (nothing c.args.pool.now.state c.ready.new.self.state c.ready.ensures.stays)
