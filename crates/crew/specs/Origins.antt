-- The splits that made nodes, as far as one worker knows them.
use Rattle.std.specs.Prelude.{◌≡◌, ◌⊎◌, ℕ, Option, Some, None}
use Rattle.std.specs.Option.{option_map}
use Rattle.std.specs.Ordering.{nat_cmp}
use Rattle.std.specs.BTreeMap.{get, Updates, IsUnchanged}
use Rattle.node_tree.specs.declared.branch.Branch.{Branch}
use Rattle.node_tree.specs.declared.branch.Side.{Side as BoundSide}
use Rattle.node_tree.specs.declared.branch.Side.TheVariants.{Low, High}
use Rattle.pseudo_cost.specs.declared.side.Side.{Side}
use Rattle.pseudo_cost.specs.declared.side.Side.TheVariants.{Down, Up}
use Rattle.expand.specs.declared.finding.Finding.{Finding}
use Rattle.expand.specs.declared.finding.Finding.TheVariants.{Cuts, Shut, Whole, Solved, Loose}
use Rattle.expand.specs.declared.origin.Origin.{Origin}
use Rattle.crew.specs.declared.split_values.SplitValues.{SplitValues}

-- where the lower bound is set the child is the one above, else the one below
abbrev pub side_of : BoundSide → Side
side_of Low = Up
side_of High = Down

-- the split that made the node to which the branch leads, where its parent's optimal value was noted
abbrev pub origin_in : SplitValues → Option Branch → Option Origin
origin_in s None = None
origin_in s (Some b) = option_map (λ v. record { column = b.column; side = side_of b.side; value = v }) (get nat_cmp s.values b.parent)

-- the optimal value of the node is noted where what was found of it is a fractional optimum, and no other value changes
abbrev pub Notes : SplitValues → SplitValues → ℕ → Finding → Type 0
Notes old new node (Solved k x mult v (Some j)) = Updates nat_cmp old.values new.values node (Some v)
Notes old new node (Solved k x mult v None) = new ≡ old
Notes old new node (Cuts mults) = new ≡ old
Notes old new node (Shut proof) = new ≡ old
Notes old new node (Whole x) = new ≡ old
Notes old new node (Loose reason j b) = new ≡ old

-- without memory nothing is noted
abbrev pub MayNote : SplitValues → SplitValues → ℕ → Finding → Type 0
MayNote old new node f = Notes old new node f ⊎ IsUnchanged old.values new.values
