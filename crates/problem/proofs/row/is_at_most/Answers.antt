use Rattle.std.proofs.Common.{refl, ◌∙◌, sym}
use Rattle.std.proofs.lemmas.Bool.{false≢true}
use Rattle.fraction.specs.Lemmas.Order.{not_at_most, at_most}
use Rattle.problem.proofs.row.is_at_most.Goals as goal

pub returns-in-Greater : goal.returns-in-Greater
returns-in-Greater c = (λ e. absurd (false≢true e), λ h. absurd (not_at_most _ _ c.in-Greater.ensures h))

pub returns-in_default : goal.returns-in_default
returns-in_default c = (λ _. at_most _ _ (λ e. c.in_default.not-Greater (sym (e ∙ sym c.cmp.ensures))), λ h. refl)
