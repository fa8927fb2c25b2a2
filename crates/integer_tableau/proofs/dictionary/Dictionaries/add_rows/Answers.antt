use Rattle.std.proofs.Common.{◌<◌, ◌+◌, ◌*◌, ◌∙◌, ap, sym, subst}
use Rattle.integer_tableau.proofs.FurtherKept.{each_within_size, further_kept}
use Rattle.integer_tableau.proofs.dictionary.Dictionaries.add_rows.Goals as goal

pub returns : goal.returns
returns c = λ _ ps further old costs bounds many kept ready.
    let a = c.args in
    let size = c.greatest_size.result in
    further_kept c.self.inside a.self.now c.self.view_is ps further old a.weight costs bounds size c.in-Some.variables kept ready
    (each_within_size a.self.now.all size c.greatest_size.ensures.denominators c.greatest_size.ensures.rows)
    (subst (λ (T : Type 0). T) (λ i. c.from.ensures i * c.from-2.ensures i < c.from-3.ensures i) c.if-from.false)
    (c.in-Some.ensures.1 ∙ ap (λ n. c.self.inside.variables + n) (sym many))
