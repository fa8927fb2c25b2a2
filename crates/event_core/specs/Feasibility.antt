-- The test of feasible points.
use Rattle.std.specs.Prelude.{Bool, ◌&&◌}
use Rattle.std.specs.List.{list_all}
use Rattle.std.specs.declared.cmp.Ordering.{Ordering}
use Rattle.std.specs.Ordering.{is_ge, is_le, is_eq}
use Rattle.fraction.specs.Checked.{compare}
use Rattle.problem_box.specs.Boxes.{is_in_box}
use Rattle.problem.specs.declared.row.Sense.{Sense}
use Rattle.problem.specs.declared.row.Sense.TheVariants.{G, L, E}
use Rattle.problem.specs.declared.row.Row.{Row}
use Rattle.problem.specs.Linear.{Point, value}
use Rattle.problem.specs.Problem.{Problem}

-- a value that compares so with the right side stands to it as the sense says
abbrev pub stands : Sense → Ordering → Bool
stands G o = is_ge o
stands L o = is_le o
stands E o = is_eq o

-- the test for a row at an integer point
abbrev pub is_satisfied : Point → Row → Bool
is_satisfied x r = stands r.sense (compare (value r.terms x) r.rhs)

-- the test for a feasible point: in the box, and each row holds
abbrev pub is_feasible : Problem → Point → Bool
is_feasible p x = is_in_box p.spans x && list_all (is_satisfied x) p.rows
