-- The assumptions on the way to a node.
use Rattle.std.specs.Prelude.{ℕ, zero, suc, List, [], ◌∷◌, map}
use Rattle.std.specs.List.{Contains}
use Rattle.std.proofs.Common.{ap, arith}
use Rattle.node_tree.specs.declared.branch.Branch.{Branch}
use Rattle.node_tree.specs.Paths.{path_at}
use Rattle.event_core.specs.States.{State, tree_of}
use Rattle.cert_merge.specs.Numbers.{assumption_line}

-- those of node i, the deepest first
abbrev pub path_lines : State → ℕ → List ℕ
path_lines s i = map (λ (e : ℕ × Branch). assumption_line s e.0) (path_at (tree_of s) i)

pub Contains-map : {X Y : Type 0} (f : X → Y) (xs : List X) (x : X) → Contains xs x → Contains (map f xs) (f x)
Contains-map f [] x h = absurd (omega (arith, h.1))
Contains-map f (y ∷ ys) x (zero, l, e) = (0, omega arith, ap f e)
Contains-map f (y ∷ ys) x (suc k, l, e) = let r = Contains-map f ys x (k, omega (arith, l), e) in (suc r.0, omega (arith, r.1), r.2)
