-- Lemmas: what a field says that may be an infinity.
use Rattle.std.specs.Prelude.{◌≡◌, ℕ, ◌*◌, ◌^◌, ◌≤◌, ◌%◌, Bool, true, false, ◌==◌, nat_lt, if◌then◌else◌, cond, List, Option, Some, None, Ok, Err}
use Rattle.std.specs.Option.{option_or}
use Rattle.std.specs.Str.Parse.{digits_value}
use Rattle.std.proofs.Common.{refl, ap, ◌∙◌, arith}
use Rattle.std.proofs.lemmas.Bool.{lt-leb}
use Rattle.std.proofs.Math.Nat.{one-le-pow}
use Rattle.fraction.specs.Rational.{ℚ, frac}
use Rattle.problem.specs.Limits.{largest_bound, finest}
use Rattle.mps_lines.specs.Decimals.{Spelt, spelling, decimal, amount, amount_of, within_limits, with_sign, sign_at}
use Rattle.mps_lines.specs.declared.decimals.NumFault.TheVariants as num
use Rattle.mps_lines.specs.Infinities.{infinite, infinity_word, vast, is_vast}
use Rattle.mps_lines.specs.declared.values.Value.TheVariants as value
use Rattle.mps_lines.specs.Values.{IsValue}

-- a number within the limits isn't vast
small_size : (negative : Bool) (size unit : ℕ) (q : ℚ) → within_limits negative size unit ≡ Ok q → size ≤ largest_bound * unit
unfolding within_limits
small_size negative size unit q h = by (nat_lt (largest_bound * unit) size) refl h
  where
    by : (b : Bool) → nat_lt (largest_bound * unit) size ≡ b → cond b (Err num.TooLarge) (if size * finest % unit == 0 then Ok (frac (with_sign negative size) unit) else Err num.TooFine) ≡ Ok q → size ≤ largest_bound * unit
    by true e h = cc
    by false e h = grind arith

not_vast : (s : Spelt) (q : ℚ) → amount s ≡ Ok q → is_vast s ≡ false
unfolding amount is_vast
not_vast s q h =
    let l = small_size s.negative (digits_value 10 s.digits * 10 ^ s.up) (10 ^ s.down) q h in
    let o = one-le-pow s.down 10 (omega arith) in
    lt-leb (10 ^ 20 * 10 ^ s.down) (digits_value 10 s.digits * 10 ^ s.up) (omega arith)

none_vast : (o : Option Spelt) (q : ℚ) → amount_of o ≡ Ok q → vast o ≡ None
unfolding amount_of
none_vast None q h = refl
none_vast (Some s) q h = ap (λ (b : Bool). cond b (Some s.negative) None) (not_vast s q h)

number_small : (field : List ℕ) (q : ℚ) → decimal field ≡ Ok q → vast (spelling field) ≡ None
unfolding decimal
number_small field q h = none_vast (spelling field) q h

no_word : (field : List ℕ) (o : Option Bool) → infinity_word (sign_at field) ≡ None → vast (spelling field) ≡ o → infinite field ≡ o
no_word field o h k = ap (λ w. option_or w (vast (spelling field))) h ∙ k

pub finite_value : (field : List ℕ) (q : ℚ) → infinity_word (sign_at field) ≡ None → decimal field ≡ Ok q → IsValue field (value.Finite q)
finite_value field q h e = (e, no_word field None h (number_small field q e))
