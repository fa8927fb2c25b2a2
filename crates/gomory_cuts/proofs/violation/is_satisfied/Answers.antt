use Rattle.std.proofs.Common.{◌≡◌, refl, sym, ap, ◌∙◌, Bool, true, false}
use Rattle.std.specs.Prelude.{not}
use Rattle.std.specs.Option.{option_map}
use Rattle.fraction.specs.Checked.{compare}
use Rattle.dual_simplex.specs.PointSums.{checked_sum}
use Rattle.gomory_cuts.proofs.Steps.{told}
use Rattle.gomory_cuts.proofs.violation.is_satisfied.Goals as goal

not_true : (b : Bool) → not b ≡ true → b ≡ false
not_true true e = let z : false ≡ true = e in sym z
not_true false e = refl

pub returns-in-Some : goal.returns-in-Some
returns-in-Some c = λ b.
    told c.args.point.now c.args.row.now.terms c.args.row.now.rhs c.in-Some.ordering
    (sym c.in-Some.is ∙ c.compare.ensures ∙ ap (λ ts. option_map (λ v. compare v c.args.row.now.rhs) (checked_sum ts c.args.point.now)) c.as_slice.ensures)
    (sym c.is_lt.ensures ∙ not_true c.is_lt.result b)
