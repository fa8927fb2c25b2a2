use Rattle.std.proofs.Common.{◌≡◌, ◌+◌, ◌*◌, ap, sym}
use Rattle.std.specs.Prelude.{slice_range}
use Rattle.integer_tableau.proofs.KeptViews.{at_place}
use Rattle.integer_tableau.specs.Arena.{rows_by}
use Rattle.integer_tableau.proofs.dictionary.Dictionaries.rows.Goals as goal

pub returns-clause-rows : goal.returns-clause-rows
returns-clause-rows c =
    let t = c.self.inside in
    let own = c.index-own.result.now in
    let end = own.numerators + own.count * t.width in
    at_place _ _ _ _ _ _ _ _ c.args.self.now c.self.view_is (λ width d. d.rows ≡ rows_by width d.basic_columns (slice_range c.deref.result.now own.numerators end)) c.args.place own c.requires c.index-own.ensures
    (ap (λ ns. rows_by t.width (slice_range t.basic_columns.items own.basic_columns (own.basic_columns + own.count)) (slice_range ns own.numerators end)) (sym c.deref.ensures.value))
