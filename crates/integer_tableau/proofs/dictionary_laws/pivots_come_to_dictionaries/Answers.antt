use Rattle.std.proofs.Common.{◌≡◌, refl, Option, Some, None}
use Rattle.std.specs.Prelude.{IsSome}
use Rattle.tableau.specs.Pivot.{eliminated}
use Rattle.tableau.specs.Tableau.{Tableau}
use Rattle.integer_tableau.proofs.PivotComes.{stored_step}
use Rattle.integer_tableau.proofs.dictionary_laws.pivots_come_to_dictionaries.Goals as goal

some : (o : Option Tableau) → IsSome o → (v : Tableau) × (o ≡ Some v)
some None h = absurd (let z : ⊥ = cc in z)
some (Some v) h = (v, refl)

pub returns : goal.returns
returns f n p q t u r c m s h k lr lc x b e =
    let v = some (eliminated r c t) e in
    stored_step n p q t u v.0 r c m s h k lr lc x.leaving x.entering b v.1
