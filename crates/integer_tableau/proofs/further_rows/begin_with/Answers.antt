use Rattle.std.proofs.Common.{◌++◌, ◌∙◌, ap, sym, drop}
use Rattle.std.specs.Prelude.{List, ℤ}
use Rattle.std.proofs.lemmas.List.{take-append-drop, take_all}
use Rattle.integer_tableau.proofs.further_rows.begin_with.Goals as goal

pub returns : goal.returns
returns c = λ _.
    let rows : List (List ℤ) = c.args.rows.now in
    let first : List (List ℤ) = c.args.first.now in
    let count = c.loop-index.index in
    (drop count rows, sym (take-append-drop count rows) ∙ ap (λ xs. xs ++ drop count rows) (c.loop-index.invariant ∙ take_all count first c.loop-index-test.false))
