use Rattle.std.proofs.Common.{subst, sym, ◌∙◌, w64}
use Rattle.std.specs.Prelude.{IfSome}
use Rattle.std.proofs.lemmas.Int.{to_z-of_z}
use Rattle.integer_tableau.proofs.Exchanges.{nonbasic_values_exchanged, positions_exchanged}
use Rattle.integer_tableau.proofs.Sizes.{written}
use Rattle.integer_tableau.specs.RowSums.{AreColumnsOf, AreRowSums}
use Rattle.integer_tableau.proofs.row_sums.turn_kept_sums.Goals as goal

pub returns-then-len-columns : goal.returns-then-len-columns
returns-then-len-columns c = λ ps ss xs k j are sums many r_there c_there at_r at_c left_is.
    let is = written c.turn_sums.new.row_sums c.args.row_sums.now.items c.args.row_sums.now.len (c.turn_sums.auto.row_sums ∙ c.deref_mut.ensures.len) in
    let bound = to_z-of_z w64 c.args.bound c.ranges.bound in
    let left = to_z-of_z w64 c.args.left c.ranges.left in
    subst (λ (T : Type 0). T)
    (λ i. AreRowSums ps (positions_exchanged c.args.leaving c.args.entering k ss) (nonbasic_values_exchanged c.args.leaving c.args.entering (bound i) xs) (sym is i))
    (c.turn_sums.ensures ps ss xs k j (subst (λ o. IfSome o (AreColumnsOf ps)) c.in-Some.is are) (subst (AreRowSums ps ss xs) (sym c.deref_mut.ensures.value) sums) many r_there c_there at_r at_c
    (left_is ∙ sym left))
