use Rattle.std.proofs.Common.{ap, length, sym, subst, ◌∙◌}
use Rattle.integer_tableau.proofs.ListedRows.{compact_has_rows}
use Rattle.integer_tableau.proofs.Sizes.{written}
use Rattle.integer_tableau.specs.BasicColumns.{basic_from}
use Rattle.integer_tableau.specs.Combined.{IsCompact, expanded}
use Rattle.integer_tableau.specs.IntegerTableau.{of_parts, tableau_of}
use Rattle.integer_tableau.proofs.integer_tableau.IntegerTableau.look.Goals as goal

pub look_at_all-requires : goal.look_at_all-requires
look_at_all-requires c = compact_has_rows _ _ _ _ c.self.invariant.0 c.self.inside.basic_columns.items _ _ c.deref.ensures.value c.self.invariant.4 c.deref_mut.ensures.value

pub invariant_of-self : goal.invariant_of-self
invariant_of-self c =
    let t = c.self.inside in
    let rows = sym (written c.look_at_all.new.rows t.rows.items t.rows.len (c.look_at_all.auto.rows ∙ c.deref_mut.ensures.len) ∙ c.look_at_all.ensures ∙ c.deref_mut.ensures.value) in (
      subst (IsCompact t.fixed.rows.items.value.items t.fixed.weight t.fixed.reach)
          (λ i. of_parts t.fixed.bounds.items t.positions.items t.at_upper.items t.nonbasic_values.items (rows i) (sym c.look.ensures i) t.values.items t.denominator t.pivots) c.self.invariant.0,
      c.self.invariant.1,
      c.self.invariant.2,
      c.self.invariant.3 ∙ ap length rows,
      c.self.invariant.4 ∙ (λ i. basic_from 0 (length (rows i)) t.positions.items),
    )

pub returns : goal.returns
returns c =
    let t = c.self.inside in
    let rows = written c.look_at_all.new.rows t.rows.items t.rows.len (c.look_at_all.auto.rows ∙ c.deref_mut.ensures.len) ∙ c.look_at_all.ensures ∙ c.deref_mut.ensures.value in
    (λ i. tableau_of (length (rows i)) t.fixed.numbers.items
    (expanded t.fixed.rows.items.value.items (of_parts t.fixed.bounds.items t.positions.items t.at_upper.items t.nonbasic_values.items (rows i) (c.look.ensures i) t.values.items t.denominator t.pivots)))
    ∙ c.self.view_is
