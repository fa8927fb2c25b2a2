-- Where the lines of a certificate begin: rows, bounds, cuts, assumptions, nodes from the greatest number down to 0.
use Rattle.std.specs.Prelude.{◌+◌, ◌-◌, length}
use Rattle.derivation_book.specs.Known.{first_cut}
use Rattle.event_core.specs.States.{State}
use Rattle.cert_merge.specs.declared.layout.Layout.{Layout}

-- of a state: each node but node 0 has an assumption, and each node has a line
abbrev pub layout_of : State → Layout
layout_of s = record {
  cuts = first_cut s.problem;
  assumptions = first_cut s.problem + length s.cuts;
  nodes = first_cut s.problem + length s.cuts + (length s.nodes - 1);
  lines = first_cut s.problem + length s.cuts + (length s.nodes - 1) + length s.nodes;
}
