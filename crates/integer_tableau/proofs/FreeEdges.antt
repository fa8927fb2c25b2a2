-- Edges whose variables may enter, by which variables are free.
use Rattle.std.proofs.Common.{◌≡◌, ℕ, ◌<◌, arith, ap, sym, ◌∙◌, false, None, List, length, get_or}
use Rattle.std.specs.Prelude.{◌&&◌, Bool}
use Rattle.std.proofs.lemmas.List.{get_or-map, length-map}
use Rattle.tableau.specs.Leaving.{bounds_differ}
use Rattle.tableau.specs.declared.bounds.Direction.{Direction}
use Rattle.integer_tableau.specs.Entering.{is_eligible_at}
use Rattle.integer_tableau.specs.Exits.{are_free, edge_enters}
use Rattle.integer_tableau.specs.IntegerTableau.{fraction_bounds}
use Rattle.integer_tableau.specs.declared.exits.Edge.{Edge}
use Rattle.integer_tableau.specs.declared.integer_bounds.IntegerBounds.{IntegerBounds}

-- whether an edge's variable may enter, where these are free
abbrev pub free_enters : Direction → List Bool → List Bool → Edge → Bool
free_enters w us free e = is_eligible_at w (get_or us e.entering false) e.coefficient && get_or free e.entering false

pub free_at : (free : List Bool) (bs : List IntegerBounds) (v : ℕ) → free ≡ are_free bs → v < length free
    → get_or free v false ≡ bounds_differ (fraction_bounds (get_or bs v record { lower = None; upper = None }))
free_at free bs v are l =
    let f : IntegerBounds → Bool = λ b. bounds_differ (fraction_bounds b) in
    ap (λ us. get_or us v false) are ∙ get_or-map f bs v record { lower = None; upper = None } false (omega (arith, l, ap length are, length-map bs f))

-- it is the same by the bounds
pub enters_by_bounds : (w : Direction) (us free : List Bool) (bs : List IntegerBounds) (e : Edge) → free ≡ are_free bs → e.entering < length free → edge_enters w us bs e ≡ free_enters w us free e
enters_by_bounds w us free bs e are l = ap (λ t. is_eligible_at w (get_or us e.entering false) e.coefficient && t) (sym (free_at free bs e.entering are l))
