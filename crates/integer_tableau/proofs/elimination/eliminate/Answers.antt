use Rattle.std.proofs.Common.{◌≡◌, ◌∙◌, ℕ, ◌<◌, ℤ, pos, w64, List, [], length, set, get_or, arith, ap, sym, refl, subst, get_or-set_other, get_or-set_same}
use Rattle.std.specs.Prelude.{nat_abs}
use mir.Val.{SFits}
use Rattle.std.proofs.lemmas.Int.{ints, to_z-of_z}
use Rattle.std.proofs.lemmas.List.{length-set}
use Rattle.integer_tableau.specs.Pivot.{IsEliminated}
use Rattle.integer_tableau.specs.Substitution.{IsSolvedRow, IsSubstitutedIfFull, IsSubstitutedRow}
use Rattle.integer_tableau.proofs.elimination.eliminate.Goals as goal

eliminated_from : (c k : ℕ) (d e : ℤ) (leaving solved : List ℤ) (rows between new : List (List ℤ)) (costs new_costs : List ℤ)
    → d ≡ pos (nat_abs d) → e ≡ pos (nat_abs e) → IsSolvedRow k (nat_abs d) leaving solved → new ≡ set between c solved → length between ≡ length rows
    → ((v : ℕ) → v < length rows → IsSubstitutedIfFull d e k solved (get_or rows v []) (get_or between v []))
    → IsSubstitutedRow d e k solved costs new_costs
    → IsEliminated c k (nat_abs d) (nat_abs e) leaving solved rows new costs new_costs
eliminated_from c k d e leaving solved rows between new costs new_costs p q is_solved is many others in_costs = record {
  is_solved = is_solved;
  put = λ h. let there : c < length between = omega arith in ap (λ rs. get_or rs c []) is ∙ get_or-set_same between c solved [] there;
  others = λ v h n.
      subst (λ x. IsSubstitutedIfFull x (pos (nat_abs e)) k solved (get_or rows v []) (get_or new v [])) p
      (subst (λ y. IsSubstitutedIfFull d y k solved (get_or rows v []) (get_or new v [])) q
      (subst (IsSubstitutedIfFull d e k solved (get_or rows v [])) (sym (ap (λ rs. get_or rs v []) is ∙ get_or-set_other between c v solved [] n)) (others v h)));
  costs =
      subst (λ x. IsSubstitutedRow x (pos (nat_abs e)) k solved costs new_costs) p
      (subst (λ y. IsSubstitutedRow d y k solved costs new_costs) q in_costs);
  as_many = ap length is ∙ length-set between c solved ∙ many;
}

pub returns : goal.returns
returns c = λ _.
    let number_is = to_z-of_z w64 c.number.result (let f : SFits w64 c.number.result = record { sfits = c.number.type_inv } in f) ∙ c.number.ensures in
    let size_is = to_z-of_z w64 c.args.pivot_size c.ranges.pivot_size in (
      c.solve.new.self,
      eliminated_from c.args.entering c.args.column c.args.divisor.number c.args.pivot_size c.args.leaving_row.now c.solve.new.self c.args.rows.now c.substitute_all.new.rows c.put_row.new.rows
          c.args.reduced_costs.now c.substitute.new.self
          (omega (arith, ints, c.args.divisor.positive)) (omega (arith, ints, c.requires.size))
          (subst (λ z. IsSolvedRow c.args.column (nat_abs z) c.args.leaving_row.now c.solve.new.self) number_is (c.if-not-solve.ensures refl))
          c.put_row.ensures c.substitute_all.auto.rows
          (λ v h. subst (λ z. IsSubstitutedIfFull c.args.divisor.number z c.args.column c.solve.new.self (get_or c.args.rows.now v []) (get_or c.substitute_all.new.rows v [])) size_is (c.if-not-substitute_all.ensures refl v h))
          (subst (λ z. IsSubstitutedRow c.args.divisor.number z c.args.column c.solve.new.self c.args.reduced_costs.now c.substitute.new.self) size_is (c.if-not-substitute.ensures refl)),
    )
