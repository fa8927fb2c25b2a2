-- What is kept for each node.
use Rattle.std.specs.Prelude.{ℤ, List, map}
use Rattle.node_tree.specs.declared.branch.Node.{Node}
use Rattle.node_tree.specs.declared.nodes.Entry.{Entry}

-- the nodes of the tree's entries, in their order
abbrev pub nodes_of : List Entry → List Node
nodes_of es = map (λ (e : Entry). e.node) es

-- the bound that each node's branch replaced
abbrev pub replaced_of : List Entry → List ℤ
replaced_of es = map (λ (e : Entry). e.replaced) es
