use Rattle.std.proofs.Common.{◌≡◌, ◌+◌, ◌*◌, ap}
use Rattle.std.specs.Prelude.{slice_range}
use Rattle.integer_tableau.proofs.KeptViews.{at_place}
use Rattle.integer_tableau.proofs.dictionary.Dictionaries.reduced_costs.Goals as goal

pub returns-clause-value : goal.returns-clause-value
returns-clause-value c =
    let t = c.self.inside in
    let own = c.index-own.result.now in
    let from = own.numerators + own.count * t.width in
    at_place _ _ _ _ _ _ _ _ c.args.self.now c.self.view_is (λ width d. slice_range c.deref.result.now from (from + t.width) ≡ d.reduced_costs) c.args.place own c.requires c.index-own.ensures
    (ap (λ ns. slice_range ns from (from + t.width)) c.deref.ensures.value)
