use Rattle.std.proofs.Common.{◌≡◌, arith, subst, sym, rules}
use Rattle.std.specs.Prelude.{IfSome}
use Rattle.integer_tableau.specs.RowSums.{AreColumnsOf, AreRowSums}
use Rattle.integer_tableau.proofs.StartSums.{holds_on_ok, sums_at_start}
use Rattle.integer_tableau.proofs.start_sums.StartSums.put_row_sums.Goals as goal

pub returns-in_ok-extend_from_slice-clause-value : goal.returns-in_ok-extend_from_slice-clause-value
returns-in_ok-extend_from_slice-clause-value c = λ ps ss are hold there apart.
    let columns = c.in-Some.columns in
    let xs = c.args.nonbasic_values.now in
    let new = c.take_values.new.self in
    let r = c.take_values.result in
    let wide : columns.width ≡ c.args.width = c.if-columns-width.true in
    let count = holds_on_ok r _ c.if-is_ok.ensures.value c.take_values.ensures.count in
    let rows = holds_on_ok r _ c.if-is_ok.ensures.value c.take_values.ensures.rows in
    let values = holds_on_ok r _ c.if-is_ok.ensures.value c.take_values.ensures.values in
    let own : AreColumnsOf ps columns = subst (λ o. IfSome o (AreColumnsOf ps)) c.in-Some.is are in
    let is : c.extend_from_slice.new.self.items ≡ new.sums.items = search rules in
    subst (AreRowSums ps ss xs) (sym is)
    (sums_at_start ps columns ss new.values.items xs new.sums.items own count rows (omega (arith, wide, c.requires.values_there)) values (c.take_values.ensures.sums ps own hold)
    (omega (arith, wide, there)) (λ j l. apart j (omega (arith, wide, l))))
