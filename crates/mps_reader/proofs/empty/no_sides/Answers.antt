use Rattle.std.proofs.Common.{List, Option, None, ap, sym, ◌∙◌, refl, get_or}
use Rattle.fraction.specs.Rational.{ℚ}
use Rattle.mps_reader.proofs.SideLines.{none_so_far}
use Rattle.mps_reader.proofs.empty.no_sides.Goals as goal

pub returns : goal.returns
returns c ranged rows = record {
  sides = record { numbers = λ i. ap (λ (os : List (Option ℚ)). get_or os i None) c.new.ensures ∙ sym (none_so_far rows i); count = λ e. refl };
  group = refl;
}
