-- Lemmas: the test of feasible points tells whether they are.
use Rattle.std.specs.Prelude.{◌≡◌, ℤ, List, [], ◌∷◌, All, refl}
use Rattle.std.specs.List.{list_all}
use Rattle.std.specs.Bool.{Decides}
use Rattle.std.specs.declared.cmp.Ordering.{Ordering}
use Rattle.std.specs.declared.cmp.Ordering.TheVariants.{Less, Equal, Greater}
use Rattle.std.proofs.Common.{sym}
use Rattle.std.proofs.lemmas.Bool.{and_parts, and_from, false≢true}
use Rattle.std.proofs.lemmas.List.Elements.{All-nil, All-cons, All-head, All-tail}
use Rattle.fraction.specs.Rational.{ℚ}
use Rattle.fraction.specs.Checked.{compare}
use Rattle.fraction.specs.Lemmas.Order.{less, equal, greater, not_both, same_le, less_at_most}
use Rattle.problem_box.specs.Lemmas.Boxes.{Decides-in_box}
use Rattle.problem_box.specs.Boxes.{is_in_box}
use Rattle.problem.specs.declared.row.Sense.{Sense}
use Rattle.problem.specs.declared.row.Sense.TheVariants.{G, L, E}
use Rattle.problem.specs.declared.row.Row.{Row}
use Rattle.problem.specs.Linear.{value}
use Rattle.problem.specs.Rows.{Compares, Satisfies}
use Rattle.problem.specs.Problem.{Problem}
use Rattle.problem.specs.Feasible.{IsFeasible}
use Rattle.event_core.specs.Feasibility.{stands, is_satisfied, is_feasible}

pub stands_tells : (s : Sense) (v rhs : ℚ) (o : Ordering) → o ≡ compare v rhs → Decides (stands s o) (Compares s rhs v)
stands_tells G v rhs Less e = (λ f. absurd (false≢true f), λ h. absurd (not_both rhs v h (less v rhs e)))
stands_tells G v rhs Equal e = (λ _. same_le rhs v (sym (equal v rhs e)), λ _. refl)
stands_tells G v rhs Greater e = (λ _. less_at_most rhs v (greater v rhs e), λ _. refl)
stands_tells L v rhs Less e = (λ _. less_at_most v rhs (less v rhs e), λ _. refl)
stands_tells L v rhs Equal e = (λ _. same_le v rhs (equal v rhs e), λ _. refl)
stands_tells L v rhs Greater e = (λ f. absurd (false≢true f), λ h. absurd (not_both v rhs h (greater v rhs e)))
stands_tells E v rhs Less e = (λ f. absurd (false≢true f), λ h. absurd (not_both rhs v (same_le rhs v (sym h)) (less v rhs e)))
stands_tells E v rhs Equal e = (λ _. equal v rhs e, λ _. refl)
stands_tells E v rhs Greater e = (λ f. absurd (false≢true f), λ h. absurd (not_both v rhs (same_le v rhs h) (greater v rhs e)))

decides_satisfied : (x : List ℤ) (r : Row) → Decides (is_satisfied x r) (Satisfies x r)
decides_satisfied x r = stands_tells r.sense (value r.terms x) r.rhs (compare (value r.terms x) r.rhs) refl

decides_rows : (x : List ℤ) (rs : List Row) → Decides (list_all (is_satisfied x) rs) (All (Satisfies x) rs)
decides_rows x [] = (λ _. All-nil (Satisfies x), λ _. refl)
decides_rows x (r ∷ rs) =
    let here = decides_satisfied x r in
    let rest = decides_rows x rs in (
      λ e. let b = and_parts (is_satisfied x r) (list_all (is_satisfied x) rs) e in All-cons (Satisfies x) r rs (here.0 b.0) (rest.0 b.1),
      λ h. and_from (is_satisfied x r) (list_all (is_satisfied x) rs) (here.1 (All-head (Satisfies x) r rs h)) (rest.1 (All-tail (Satisfies x) r rs h)),
    )

pub Decides-feasible : (p : Problem) (x : List ℤ) → Decides (is_feasible p x) (IsFeasible p x)
Decides-feasible p x =
    let inside = Decides-in_box p.spans x in
    let rows = decides_rows x p.rows in (
      λ e. let b = and_parts (is_in_box p.spans x) (list_all (is_satisfied x) p.rows) e in record { in_box = inside.0 b.0; rows = rows.0 b.1 },
      λ h. and_from (is_in_box p.spans x) (list_all (is_satisfied x) p.rows) (inside.1 h.in_box) (rows.1 h.rows),
    )
