use Rattle.std.proofs.Common.{◌≡◌, ◌+◌, ap}
use Rattle.std.specs.Prelude.{slice_range}
use Rattle.integer_tableau.proofs.KeptViews.{at_place}
use Rattle.integer_tableau.proofs.dictionary.Dictionaries.basic_columns.Goals as goal

pub returns : goal.returns
returns c =
    let t = c.self.inside in
    let own = c.index-own.result.now in
    at_place _ _ _ _ _ _ _ _ c.args.self.now c.self.view_is (λ width d. slice_range c.deref.result.now own.basic_columns (own.basic_columns + own.count) ≡ d.basic_columns) c.args.place own c.requires c.index-own.ensures
    (ap (λ bs. slice_range bs own.basic_columns (own.basic_columns + own.count)) c.deref.ensures.value)
