use Rattle.std.proofs.Common.{◌∙◌, [], arith, ap, get_or, pos, sym, w64}
use Rattle.std.specs.Int.{int_wrap}
use Rattle.std.proofs.lemmas.List.{get_or-replicate}
use Rattle.integer_tableau.proofs.StartSums.{products_of_none}
use Rattle.integer_tableau.specs.Numbers.{number_at}
use Rattle.integer_tableau.specs.Positions.{products}
use Rattle.integer_tableau.proofs.start_sums.StartSums.begin.Goals as goal

pub returns-in_ok-sums-clause-sums : goal.returns-in_ok-sums-clause-sums
returns-in_ok-sums-clause-sums c = λ ps hold i l.
    ap (int_wrap w64) (ap (λ zs. number_at zs i) (c.in_ok-sums.ensures.items_if_clones_equal (λ y e. e)) ∙ get_or-replicate c.args.columns.now.rows i (pos 0) (pos 0) (omega (arith, l, c.in_ok-sums.sums.ok, c.in_ok-sums.ensures.len)) ∙ products_of_none (get_or ps i []) c.args.columns.now.width
    ∙ ap (products (get_or ps i [])) (sym (c.in_ok-values.ensures.items_if_clones_equal (λ y e. e))))
