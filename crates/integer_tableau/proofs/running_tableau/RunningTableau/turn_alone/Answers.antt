use Rattle.std.proofs.Common.{ap, nat_abs, rules, w64}
use mir.Val.{SFits}
use Rattle.std.proofs.lemmas.Int.{to_z-of_z}
use Rattle.integer_tableau.proofs.FromCode.{small_from_code}
use Rattle.integer_tableau.proofs.running_tableau.RunningTableau.turn_alone.Goals as goal

pub put_row-requires-clause-small : goal.put_row-requires-clause-small
put_row-requires-clause-small c =
    let n = c.args.self.now in
    let f : SFits w64 n.denominator = search rules in
    small_from_code _ _ _ _ c.requires.running.compact _ _ _ _ c.args.leaving c.deref.ensures.value c.deref-2.ensures.value c.deref-3.ensures.value (ap nat_abs (to_z-of_z w64 n.denominator f))
