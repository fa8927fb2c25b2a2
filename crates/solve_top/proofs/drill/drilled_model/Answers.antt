use Rattle.std.specs.Prelude.{◌≡◌, ℕ, List, None, Err}
use Rattle.std.proofs.Common.{◌∙◌, ap, subst}
use Rattle.mps_reader.specs.Reading.{IsRefused}
use Rattle.drill_instance.specs.Texts.{generated}
use Rattle.solve_top.specs.declared.outcome.Refusal.{Refusal}
use Rattle.solve_top.specs.declared.outcome.Refusal.TheVariants as refusal
use Rattle.solve_top.specs.Outcomes.{IsReadingOf, IsRefusedDrill}
use Rattle.solve_top.proofs.drill.drilled_model.Goals as goal

refused_drill : (seed : ℕ) (text : List ℕ) (r : Refusal) → text ≡ generated seed → IsReadingOf text None (Err r) → IsRefusedDrill seed r
refused_drill seed text refusal.Usage same h = absurd h
refused_drill seed text (refusal.Model line k) same h = subst (λ (t : List ℕ). IsRefused t None line k) same h
refused_drill seed text (refusal.Journal f) same h = absurd h
refused_drill seed text refusal.Read same h = absurd h
refused_drill seed text refusal.Disk same h = absurd h
refused_drill seed text refusal.Sink same h = absurd h
refused_drill seed text refusal.Memory same h = h

pub returns-in-Err-clause-refused : goal.returns-in-Err-clause-refused
returns-in-Err-clause-refused g c = refused_drill c.args.seed _ c.in-Err.refusal (c.deref.ensures.value ∙ c.in_ok-text.ensures ∙ ap (λ (n : ℕ). generated n) c.from.ensures) c.in-Err.ensures
