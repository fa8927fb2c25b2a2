-- The incumbent's value falls.
use Rattle.std.specs.Prelude.{Some, None, refl}
use Rattle.fraction.specs.Lemmas.Rational.{≤ℚ_trans}
use Rattle.fraction.specs.Lemmas.Order.{less_at_most}
use Rattle.incumbent.specs.Laws.{OffersKeepReaching}

pub offers_keep : OffersKeepReaching
offers_keep p None x v better reached = absurd reached
offers_keep p (Some b) x v better reached = ≤ℚ_trans _ _ _ (less_at_most _ _ (better.better b refl)) reached
