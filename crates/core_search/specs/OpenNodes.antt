-- The open nodes with their boxes, as a list.
use Rattle.std.specs.Prelude.{◌≡◌, ◌⊎◌, ◌<◌, ◌+◌, ◌-◌, ℕ, ℤ, pos, ◌+ℤ◌, true, List, [], ◌∷◌, length, All, Option, None, IfSome}
use Rattle.std.specs.Option.{option_map}
use Rattle.fraction.specs.Rational.{ℚ}
use Rattle.problem_box.specs.declared.span.Span.{Span}
use Rattle.problem_box.specs.Changes.{cut_low, cut_high}
use Rattle.event_core.specs.States.{State, is_open, box_of}
use Rattle.pseudo_cost.specs.declared.side.Side.{Side}
use Rattle.pseudo_cost.specs.declared.side.Side.TheVariants.{Down, Up}
use Rattle.expand.specs.declared.origin.Origin.{Origin}
use Rattle.core_search.specs.declared.open_node.OpenNode.{OpenNode}

-- the node is open, this is its box, and the split that made it was in one of the problem's columns
pub record IsOpenNode (s : State) (o : OpenNode) : Type 0 where
  pub opened : is_open s o.number ≡ true
  pub area : o.area ≡ box_of s o.number
  pub origin : IfSome o.origin (λ g. g.column < length s.problem.spans)

-- the numbers rise
abbrev pub HaveRisingNumbers : List OpenNode → Type 0
HaveRisingNumbers [] = Unit {0}
HaveRisingNumbers (o ∷ os) = All (λ (p : OpenNode). o.number < p.number) os × HaveRisingNumbers os

-- node k is one of these
abbrev pub IsAmong : List OpenNode → ℕ → Type 0
IsAmong [] k = ⊥
IsAmong (o ∷ os) k = (o.number ≡ k) ⊎ IsAmong os k

-- all open nodes with their boxes, by rising number
pub record AreOpenNodes (s : State) (os : List OpenNode) : Type 0 where
  pub nodes : All (IsOpenNode s) os
  pub rising : HaveRisingNumbers os
  pub listed : (k : ℕ) → is_open s k ≡ true → IsAmong os k

-- nothing is known of the split that made the node
abbrev pub HasNoOrigin : OpenNode → Type 0
HasNoOrigin o = o.origin ≡ None

-- the split that made a child, where the parent's optimal value is known
abbrev pub origin_of : ℕ → Side → Option ℚ → Option Origin
origin_of j side value = option_map (λ v. record { column = j; side = side; value = v }) value

-- the two children of a node with this box that is split by x <= b and x >= b + 1 in column j; the left one has number k
abbrev pub children : ℕ → List Span → ℕ → ℤ → Option ℚ → List OpenNode
children k box j b value =
    record { number = k; area = cut_high box j b; origin = origin_of j Down value }
    ∷ record { number = k + 1; area = cut_low box j (b +ℤ pos 1); origin = origin_of j Up value } ∷ []

-- how many nodes may still be made, and how many are open: each step makes this less
abbrev pub work_left : ℕ → State → List OpenNode → ℕ
work_left budget s os = budget - length s.nodes + length os
