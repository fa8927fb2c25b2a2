use Rattle.std.proofs.Common.{arith, sym, ◌∙◌, [], map}
use Rattle.std.proofs.lemmas.List.{ext_get_or, get_or-map, length-map}
use Rattle.tableau.specs.Start.{padded}
use Rattle.tableau.proofs.start.pad_rows.Goals as goal

pub returns : goal.returns
returns c =
    ext_get_or [] c.loop-row.rows (map (padded c.args.zeros) c.args.rows.now) (c.loop-row.auto.rows ∙ sym (length-map c.args.rows.now (padded c.args.zeros)))
    (λ k l. c.loop-row.invariant.done k (omega (arith, c.loop-row.auto.rows, c.loop-row-test.false)) ∙ sym (get_or-map (padded c.args.zeros) c.args.rows.now k [] [] (omega (arith, c.loop-row.auto.rows))))
