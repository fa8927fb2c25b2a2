use Rattle.std.proofs.Common.{◌++◌, ap, ◌∙◌, drop, length, pos}
use Rattle.std.proofs.lemmas.List.{drop-replicate}
use Rattle.integer_tableau.proofs.Sizes.{written}
use Rattle.integer_tableau.specs.Start.{start_numbers}
use Rattle.integer_tableau.proofs.start_lists.put_numbers.Goals as goal

pub returns : goal.returns
returns c =
    let n = length c.args.costs.now in
    written c.put_column_numbers.new.numbers c.put_zeros.new.list.items c.put_zeros.new.list.len (c.put_column_numbers.auto.numbers ∙ c.deref_mut.ensures.len)
    ∙ c.put_column_numbers.ensures ∙ ap (λ xs. start_numbers c.args.costs.now c.args.bounds.now ++ xs) (ap (drop n) (c.deref_mut.ensures.value ∙ c.in_ok-put_zeros.ensures) ∙ drop-replicate n (length c.args.bounds.now) (pos 0))
