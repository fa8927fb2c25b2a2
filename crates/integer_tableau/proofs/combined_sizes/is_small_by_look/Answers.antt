use Rattle.std.proofs.Common.{◌≡◌, ◌≤◌, ◌-◌, ◌∙◌, false, nat_abs, ap, refl, subst, sym, true, w64}
use Rattle.std.specs.Prelude.{IsTrue}
use Rattle.std.proofs.lemmas.Int.{to_z-of_z}
use Rattle.integer_tableau.proofs.Combining.{combined_row_within}
use Rattle.integer_tableau.proofs.Sizes.{written}
use Rattle.integer_tableau.specs.Combined.{combined}
use Rattle.integer_tableau.specs.Numbers.{number_at}
use Rattle.integer_tableau.specs.Range.{size_limit}
use Rattle.integer_tableau.proofs.combined_sizes.is_small_by_look.Goals as goal
use Rattle.integer_tableau.proofs.combined_sizes.is_small_by_look.Goals.{then-add_columns, else-add_columns}

pub returns : goal.returns
returns c = λ ok. elim c.if-add_columns.branch [
  | then-add_columns w ↦
      let a = c.args in
      let summed = w.deref.ensures.value ∙ written c.add_columns.new.sums c.in-Ok.sums.items c.in-Ok.sums.len (c.add_columns.auto.sums ∙ c.deref_mut.ensures.len) in
      combined_row_within (nat_abs a.denominator) (size_limit - 1) a.coefficients.now a.positions.now a.rows.now (λ k.
      subst (λ z. nat_abs z ≤ size_limit - 1)
      (ap (λ sums. number_at sums k) summed ∙ w.if-add_columns.ensures refl k ∙ ap (λ z. combined (nat_abs z) a.coefficients.now a.positions.now a.rows.now k) (to_z-of_z w64 a.denominator c.ranges.denominator))
      (w.are_small.ensures (subst IsTrue w.result-is ok) k))
  | else-add_columns w ↦ absurd (let f : true ≡ false = sym ok ∙ w.result-is ∙ w.if-add_columns.false in cc)
]
