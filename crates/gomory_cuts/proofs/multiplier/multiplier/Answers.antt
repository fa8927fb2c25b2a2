use Rattle.std.proofs.Common.{◌≡◌, pos, Some, ap, refl, sym, ◌∙◌, arith}
use Rattle.std.specs.Prelude.{ℤ, neg_ℤ}
use Rattle.std.specs.Option.{option_map}
use Rattle.std.proofs.lemmas.Int.{ints}
use Rattle.fraction.specs.Rational.{whole, floor, floor_div, ceil}
use Rattle.fraction.specs.Checked.{add_checked, sub_checked}
use Rattle.fraction.specs.Lemmas.Bounds.{whole_parts}
use Rattle.fraction.specs.Lemmas.Checked.{zero_has_fraction, zero-add_checked, neg-zero}
use Rattle.fraction.specs.Lemmas.Order.{zero_from_num}
use Rattle.problem.specs.declared.row.Sense.{Sense}
use Rattle.problem.specs.declared.row.Sense.TheVariants.{G, L, E}
use Rattle.gomory_cuts.specs.declared.sign.Sign.{Sign}
use Rattle.gomory_cuts.specs.declared.sign.Sign.TheVariants.{Plus, Minus}
use Rattle.gomory_cuts.specs.Multipliers.{signed, above_floor, below_ceiling, multiplier}
use Rattle.gomory_cuts.proofs.multiplier.multiplier.Goals as goal

zero_floor : floor (whole (pos 0)) ≡ pos 0
unfolding floor
zero_floor = λ i. floor_div ((whole_parts (pos 0)).0 i) ((whole_parts (pos 0)).1 i)

zero_ceil : ceil (whole (pos 0)) ≡ pos 0
unfolding ceil
zero_ceil = λ i. neg_ℤ (floor_div (neg_ℤ ((whole_parts (pos 0)).0 i)) ((whole_parts (pos 0)).1 i))

zero_less : sub_checked (whole (pos 0)) (whole (pos 0)) ≡ Some (whole (pos 0))
zero_less = ap (add_checked (whole (pos 0))) neg-zero ∙ zero-add_checked (whole (pos 0)) zero_has_fraction

zero_above : above_floor (whole (pos 0)) ≡ Some (whole (pos 0))
zero_above = ap (λ (z : ℤ). sub_checked (whole (pos 0)) (whole z)) zero_floor ∙ zero_less

zero_below : below_ceiling (whole (pos 0)) ≡ Some (whole (pos 0))
zero_below = ap (λ (z : ℤ). sub_checked (whole (pos 0)) (whole z)) zero_ceil ∙ zero_less

zero_signed : (s : Sign) → signed s (whole (pos 0)) ≡ whole (pos 0)
zero_signed Plus = refl
zero_signed Minus = neg-zero

-- 0 has the multiplier 0
zero_multiplier : (s : Sign) (e : Sense) → multiplier s e (whole (pos 0)) ≡ Some (whole (pos 0))
zero_multiplier s G = ap above_floor (zero_signed s) ∙ zero_above
zero_multiplier s L = ap below_ceiling (zero_signed s) ∙ zero_below
zero_multiplier s E = ap (option_map (signed s)) zero_above ∙ ap Some (zero_signed s)

pub returns-then-numer-eq0 : goal.returns-then-numer-eq0
returns-then-numer-eq0 c =
    let zero : c.args.coefficient ≡ whole (pos 0) = zero_from_num c.args.coefficient (omega (arith, ints)) in
    ap Some zero ∙ sym (ap (multiplier c.args.sign c.args.sense) zero ∙ zero_multiplier c.args.sign c.args.sense)
