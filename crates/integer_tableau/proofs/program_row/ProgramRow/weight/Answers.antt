use Rattle.std.proofs.Common.{◌≡◌, ◌∙◌, ℕ, ap, subst}
use Rattle.std.specs.Prelude.{IfSome}
use Rattle.integer_tableau.proofs.EntrySums.{are_entries, whole_size}
use Rattle.integer_tableau.specs.Entries.{spread}
use Rattle.integer_tableau.specs.Numbers.{total_size}
use Rattle.integer_tableau.proofs.program_row.ProgramRow.weight.Goals as goal

pub returns : goal.returns
returns c =
    let r = c.self.inside in
    subst (λ (n : ℕ). IfSome r.weight (λ t. t ≡ n)) (whole_size (spread 0 r.width r.entries.items) r.entries.items (are_entries r.width r.entries.items c.self.invariant.0) ∙ ap total_size c.self.view_is) c.self.invariant.1
