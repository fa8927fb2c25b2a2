use Rattle.std.proofs.Common.{◌+◌, ◌*◌, length, set, ap, refl, sym, rules, ◌∙◌, w64, to_z, of_z}
use mir.Val.{SFits}
use Rattle.std.proofs.lemmas.Int.{to_z-of_z}
use Rattle.std.proofs.lemmas.List.{take_all}
use Rattle.integer_tableau.proofs.CoefficientColumns.{entry_put, none_put, others_left}
use Rattle.integer_tableau.proofs.EntrySums.{entry_at}
use Rattle.integer_tableau.specs.Entries.{spread}
use Rattle.integer_tableau.specs.Numbers.{number_at}
use Rattle.integer_tableau.proofs.coefficient_columns.put_row.Goals as goal

pub loop-entry-init : goal.loop-entry-init
loop-entry-init c = record {
  put = λ j m. c.requires.zero j m ∙ sym (none_put 0 (length c.args.coefficients.now) j);
  others = λ j i l ne. refl;
}

pub loop-entry-preserved : goal.loop-entry-preserved
loop-entry-preserved c =
    let es = c.entries-entry-items.result.now in
    let e = entry_at es c.loop-entry.entry-index in
    let rows = c.args.rows in
    let row = c.args.row in
    let f : SFits w64 e.number = search rules in
    record {
      put = λ j m. ap (λ z. number_at (set c.loop-entry.numbers (e.place * rows + row) z) (j * rows + row)) (to_z-of_z w64 e.number f)
          ∙ entry_put rows row c.args.coefficients.now c.loop-entry.numbers es c.loop-entry.entry-index c.entries-entry-items.ensures c.loop-entry-test.true c.requires.there
          (c.loop-entry.auto.numbers ∙ c.requires.count) c.loop-entry.invariant.put j m;
      others = others_left rows row c.args.numbers.now c.loop-entry.numbers e.place (to_z w64 (of_z w64 e.number)) c.requires.there c.loop-entry.invariant.others;
    }

pub returns-clause-put : goal.returns-clause-put
returns-clause-put c = λ j m.
    let are = c.entries-entry-items.ensures in
    let n = length c.args.coefficients.now in
    c.loop-entry.invariant.put j m ∙ ap (λ es. number_at (spread 0 n es) j) (take_all c.loop-entry.entry-index c.entries-entry-items.result.now c.loop-entry-test.false)
    ∙ ap (λ xs. number_at xs j) (sym are.numbers)
