-- Lemmas: points that become the incumbent.
use Rattle.std.specs.Prelude.{◌≡◌, Option, Some, None, refl}
use Rattle.std.specs.Bool.{Decides}
use Rattle.std.specs.declared.cmp.Ordering.{Ordering}
use Rattle.std.specs.declared.cmp.Ordering.TheVariants.{Less, Equal, Greater}
use Rattle.std.specs.Ordering.{is_lt}
use Rattle.std.proofs.Common.{sym, subst}
use Rattle.std.proofs.lemmas.Bool.{false≢true}
use Rattle.std.proofs.lemmas.Option.{same_Some}
use Rattle.fraction.specs.Rational.{ℚ}
use Rattle.fraction.specs.Checked.{compare}
use Rattle.fraction.specs.Order.{◌<ℚ◌}
use Rattle.fraction.specs.Lemmas.Order.{less, equal, greater, not_both, same_le, less_at_most}
use Rattle.incumbent.specs.declared.best.Best.{Best}
use Rattle.incumbent.specs.Offers.{is_better, IsBetter}

-- ---- the test tells what it means
is_less_tells : (x y : ℚ) (o : Ordering) → o ≡ compare x y → Decides (is_lt o) (x <ℚ y)
is_less_tells x y Less e = (λ _. less x y e, λ _. refl)
is_less_tells x y Equal e = (λ f. absurd (false≢true f), λ h. absurd (not_both y x (same_le y x (sym (equal x y e))) h))
is_less_tells x y Greater e = (λ f. absurd (false≢true f), λ h. absurd (not_both y x (less_at_most y x (greater x y e)) h))

pub Decides-better : (i : Option Best) (v : ℚ) → Decides (is_better i v) (IsBetter i v)
Decides-better None v = (λ _ b e. cc, λ _. refl)
Decides-better (Some b) v =
    let tells = is_less_tells v b.value (compare v b.value) refl in
    (λ f c e. subst (λ (d : Best). v <ℚ d.value) (same_Some b c e) (tells.0 f), λ h. tells.1 (h b refl))
