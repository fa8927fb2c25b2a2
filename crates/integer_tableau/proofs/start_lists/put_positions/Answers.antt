use Rattle.std.proofs.Common.{◌++◌, ap, ◌∙◌, drop}
use Rattle.std.proofs.lemmas.List.{drop-replicate}
use Rattle.integer_tableau.proofs.Sizes.{written}
use Rattle.integer_tableau.specs.Start.{columns_from}
use Rattle.integer_tableau.specs.declared.position.Position.TheVariants.{InBasis}
use Rattle.integer_tableau.proofs.start_lists.put_positions.Goals as goal

pub returns : goal.returns
returns c =
    let n = c.args.columns in
    written c.put_columns.new.positions c.put_basic.new.list.items c.put_basic.new.list.len (c.put_columns.auto.positions ∙ c.deref_mut.ensures.len)
    ∙ c.put_columns.ensures ∙ ap (λ ss. columns_from 0 n ++ ss) (ap (drop n) (c.deref_mut.ensures.value ∙ c.in_ok-put_basic.ensures) ∙ drop-replicate n c.args.count InBasis)
