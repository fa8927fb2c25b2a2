use Rattle.std.proofs.Common.{◌∙◌, ap, arith, length}
use Rattle.std.proofs.lemmas.Bool.{false≢true}
use Rattle.std.proofs.lemmas.Bool.Decides.{Decides-at}
use Rattle.problem_box.specs.Boxes.{is_in_box}
use Rattle.problem_box.specs.Lemmas.Boxes.{Decides-in_box, IsInBox-length}
use Rattle.problem_box.proofs.int_box.IntBox.holds.Goals as goal

pub returns-then-point-len : goal.returns-then-point-len
returns-then-point-len c = (λ e. absurd (false≢true e), λ h. absurd (grind (arith, IsInBox-length _ _ h, ap length c.self.view_is)))

pub returns : goal.returns
returns c =
    Decides-at c.are_within.result (is_in_box c.args.self.now c.args.point.now)
    (c.are_within.ensures ∙ ap (λ ss. is_in_box ss c.args.point.now) (c.deref.ensures.value ∙ c.self.view_is)) (Decides-in_box _ _)
