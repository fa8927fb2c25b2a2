-- The box of an open node.
use Rattle.std.specs.Prelude.{◌≡◌, ◌≤◌, ℕ, List, All, length}
use Rattle.std.proofs.Common.{sym, ap, ◌∙◌, subst, arith}
use Rattle.problem_box.specs.declared.span.Span.{Span}
use Rattle.problem.specs.Problem.{Problem}
use Rattle.problem.specs.Limited.{IsModestSpan, IsLimited}
use Rattle.problem.specs.Limits.{most_columns}
use Rattle.node_tree.specs.Trees.{IsTree}
use Rattle.event_core.specs.States.{State, tree_of, box_of}
use Rattle.expand.specs.Verdicts.{IsPart}
use Rattle.expand.specs.Lemmas.Inside.{box_columns, box_modest, box_part}

-- what the proofs ask of the box of a node
pub record IsNodeBox (p : Problem) (box : List Span) : Type 0 where
  pub limits : IsLimited p
  pub columns : length box ≡ length p.spans
  pub modest : All IsModestSpan box
  pub part : IsPart p box

pub node_box : (s : State) (p : Problem) (i : ℕ) (box : List Span) → IsTree (tree_of s) → p ≡ s.problem → IsLimited p → box ≡ box_of s i → IsNodeBox s.problem box
node_box s p i box tree same limits e =
    let here : IsLimited s.problem = subst IsLimited same limits in
    record {
      limits = here;
      columns = ap length e ∙ box_columns s tree i;
      modest = subst (All IsModestSpan) (sym e) (box_modest s tree i here);
      part = subst (IsPart s.problem) (sym e) (box_part s tree i);
    }

pub few_columns : (p : Problem) (box : List Span) → IsNodeBox p box → length box ≤ most_columns
few_columns p box h = omega (arith, h.columns, h.limits.few_columns)
