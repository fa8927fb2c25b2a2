use Rattle.std.proofs.Common.{◌≡◌, ◌≤◌, ◌-◌, arith, ap, subst, ◌∙◌, None, length}
use Rattle.std.proofs.lemmas.List.{length-drop}
use Rattle.tableau.specs.SparseSteps.{products_below, met}
use Rattle.tableau.proofs.Pushing.{entry_after, entry_cramped, when_some, when_none}
use Rattle.tableau.proofs.entries.Entries.push_entry.Goals as goal

pub returns-in_default-clause-entries : goal.returns-in_default-clause-entries
returns-in_default-clause-entries c = λ next.
    subst (λ k. products_below c.args.factor k (met c.args.factor c.args.entry.now next) c.args.source.now ≡ None) c.index.ensures
    (when_none _ _ c.in_ok-earlier.field-0 (c.in_ok-earlier.ensures.entries (met c.args.factor c.args.entry.now next)) c.in_default.is)

pub returns-in_default-clause-fractions : goal.returns-in_default-clause-fractions
returns-in_default-clause-fractions c = c.in_ok-earlier.ensures.fractions

pub rest-requires : goal.rest-requires
rest-requires c = when_some _ _ c.in_ok-earlier.field-0 c.in-Some.earlier c.in_ok-earlier.ensures.there c.in-Some.is

pub overflow_add-result : goal.overflow_add-result
overflow_add-result c =
    let earlier : c.in-Some.earlier ≤ length c.args.source.now = when_some _ _ c.in_ok-earlier.field-0 c.in-Some.earlier c.in_ok-earlier.ensures.there c.in-Some.is in
    let taken : c.in-Some-2.taken ≤ length c.rest.result.now = when_some _ _ c.in_ok-taken.field-0 c.in-Some-2.taken c.in_ok-taken.ensures.there c.in-Some-2.is in
    let others : length c.rest.result.now ≡ length c.args.source.now - c.in-Some.earlier = ap length c.rest.ensures ∙ length-drop c.in-Some.earlier c.args.source.now in
    omega (arith, earlier, taken, others)

pub returns-in-Some-2-clause-entries : goal.returns-in-Some-2-clause-entries
returns-in-Some-2-clause-entries c = λ next.
    entry_after c.args.factor c.args.entry.now next c.args.source.now c.rest.result.now c.args.self.now c.push_products.new.self c.push_met.new.self c.index.result c.in-Some.earlier c.in-Some-2.taken c.index.ensures c.rest.ensures
    (when_some _ _ c.in_ok-earlier.field-0 c.in-Some.earlier (c.in_ok-earlier.ensures.entries (met c.args.factor c.args.entry.now next)) c.in-Some.is)
    (when_some _ _ c.in_ok-taken.field-0 c.in-Some-2.taken (c.in_ok-taken.ensures.entries next) c.in-Some-2.is)

pub returns-in-Some-2-clause-there : goal.returns-in-Some-2-clause-there
returns-in-Some-2-clause-there c =
    let earlier : c.in-Some.earlier ≤ length c.args.source.now = when_some _ _ c.in_ok-earlier.field-0 c.in-Some.earlier c.in_ok-earlier.ensures.there c.in-Some.is in
    let taken : c.in-Some-2.taken ≤ length c.rest.result.now = when_some _ _ c.in_ok-taken.field-0 c.in-Some-2.taken c.in_ok-taken.ensures.there c.in-Some-2.is in
    let others : length c.rest.result.now ≡ length c.args.source.now - c.in-Some.earlier = ap length c.rest.ensures ∙ length-drop c.in-Some.earlier c.args.source.now in
    omega (arith, earlier, taken, others)

pub returns-in-Some-2-clause-fractions : goal.returns-in-Some-2-clause-fractions
returns-in-Some-2-clause-fractions c = λ h. c.in_ok-taken.ensures.fractions (c.in_ok-earlier.ensures.fractions h)

pub returns-in-None-clause-entries : goal.returns-in-None-clause-entries
returns-in-None-clause-entries c = λ next.
    entry_cramped c.args.factor c.args.entry.now next c.args.source.now c.rest.result.now c.args.self.now c.push_products.new.self c.index.result c.in-Some.earlier c.index.ensures c.rest.ensures
    (when_some _ _ c.in_ok-earlier.field-0 c.in-Some.earlier (c.in_ok-earlier.ensures.entries (met c.args.factor c.args.entry.now next)) c.in-Some.is)
    (when_none _ _ c.in_ok-taken.field-0 (c.in_ok-taken.ensures.entries next) c.in-None.is)

pub returns-in-None-clause-fractions : goal.returns-in-None-clause-fractions
returns-in-None-clause-fractions c = λ h. c.in_ok-taken.ensures.fractions (c.in_ok-earlier.ensures.fractions h)
