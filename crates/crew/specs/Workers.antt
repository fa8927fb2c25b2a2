-- What a worker keeps between nodes, and what it knows of a node that it looks at.
use Rattle.std.specs.Prelude.{◌≡◌, ◌<◌, ℕ, List, ◌++◌, length, All, IfSome}
use Rattle.problem.specs.Limited.{IsModestSpan}
use Rattle.problem.specs.Problem.{Problem}
use Rattle.node_tree.specs.declared.branch.Branch.{Branch}
use Rattle.node_tree.specs.Nodes.{branch_at}
use Rattle.derivation_book.specs.declared.cut.Cut.{Cut}
use Rattle.dual_simplex.specs.Prepared.{IsRelaxationOf}
use Rattle.event_core.specs.States.{State, tree_of, box_of, cutoff}
use Rattle.expand.specs.Verdicts.{IsPart}
use Rattle.crew.specs.declared.node_view.NodeView.{NodeView}
use Rattle.crew.specs.declared.worker.Worker.{Worker}

-- the relaxation has all cuts of the worker's book, and there are costs for each column
pub record IsPrepared (p : Problem) (w : Worker) : Type 0 where
  pub all_cuts : w.relaxation.cuts ≡ length w.book.cuts
  pub prepared : IsRelaxationOf p w.book.cuts w.relaxation
  pub costs : length w.costs ≡ length p.spans

-- the state's cuts begin with these
abbrev pub HasFirst : List Cut → State → Type 0
HasFirst cs s = (rest : List Cut) × (s.cuts ≡ cs ++ rest)

-- the worker is prepared for the state's problem, and its book has the first cuts of the state
pub record Knows (p : Problem) (w : Worker) (s : State) : Type 0 where
  pub problem : s.problem ≡ p
  pub first : HasFirst w.book.cuts s
  pub prepared : IsPrepared p w

-- a node of a state
pub record IsViewOf (s : State) (node : ℕ) (v : NodeView) : Type 0 where
  pub area : v.area ≡ box_of s node
  pub cutoff : v.cutoff ≡ cutoff s
  pub branch : v.branch ≡ branch_at (tree_of s) node

-- a node of a search of this problem: a box of its columns within its box, and a branch in one of its columns
pub record IsNodeOf (p : Problem) (v : NodeView) : Type 0 where
  pub columns : length v.area ≡ length p.spans
  pub modest : All IsModestSpan v.area
  pub part : IsPart p v.area
  pub branch : IfSome v.branch (λ (b : Branch). b.column < length p.spans)
