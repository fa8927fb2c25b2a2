use Rattle.std.proofs.Common.{◌++◌, ap, ◌∙◌, drop, length, map, false}
use Rattle.std.proofs.lemmas.List.{drop-replicate}
use Rattle.integer_tableau.proofs.Sizes.{written}
use Rattle.integer_tableau.specs.Start.{is_negative}
use Rattle.integer_tableau.proofs.start_lists.put_at_upper.Goals as goal

pub returns : goal.returns
returns c =
    let n = length c.args.costs.now in
    written c.put_sides.new.at_upper c.put_no.new.list.items c.put_no.new.list.len (c.put_sides.auto.at_upper ∙ c.deref_mut.ensures.len)
    ∙ c.put_sides.ensures ∙ ap (λ us. map is_negative c.args.costs.now ++ us) (ap (drop n) (c.deref_mut.ensures.value ∙ c.in_ok-put_no.ensures) ∙ drop-replicate n c.args.count false)
