-- The answer to an offer, by its two tests.
use Rattle.std.specs.Prelude.{◌≡◌, ℤ, Bool, List, Option}
use Rattle.incumbent.specs.Offers.{is_better}
use Rattle.event_core.specs.declared.admit.Admit.TheVariants.{Yes, BadPoint, NotBetter}
use Rattle.problem.specs.Problem.{Problem}
use Rattle.incumbent.specs.declared.best.Best.{Best}
use Rattle.event_core.specs.Feasibility.{is_feasible}
use Rattle.event_core.specs.Judging.{checked}
use Rattle.problem.specs.Directions.{aim_at}

pub offer_answer : (p : Problem) (i : Option Best) (x : List ℤ) (f b : Bool) → f ≡ is_feasible p x → b ≡ is_better i (aim_at p x)
    → checked f BadPoint (checked b NotBetter Yes) ≡ checked (is_feasible p x) BadPoint (checked (is_better i (aim_at p x)) NotBetter Yes)
offer_answer p i x f b e g = λ k. checked (e k) BadPoint (checked (g k) NotBetter Yes)
