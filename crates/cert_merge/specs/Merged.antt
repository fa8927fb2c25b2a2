-- The certificate of a search that has ended: a table from its state, and from the proofs with which its nodes were closed. Nothing here says that
-- the lines are valid.
use Rattle.std.specs.Prelude.{ℕ, zero, suc, ◌+◌, pos, negsuc, Bool, true, false, List, [], ◌∷◌, ◌++◌, length, Option, Some, None, codes}
use Rattle.std.specs.Fmt.{decimal}
use Rattle.fraction.specs.Rational.{ℚ, whole}
use Rattle.problem_box.specs.declared.span.Span.{Span}
use Rattle.problem.specs.declared.row.Sense.{Sense}
use Rattle.problem.specs.declared.row.Sense.TheVariants.{G, L}
use Rattle.problem.specs.declared.row.Row.{Row}
use Rattle.problem.specs.Linear.{Point, Terms, Multipliers}
use Rattle.problem.specs.Rows.{Rows}
use Rattle.problem.specs.Problem.{Problem}
use Rattle.cert_rows.specs.declared.line.CertRow.{CertRow}
use Rattle.cert_rows.specs.declared.line.Why.{Why}
use Rattle.cert_rows.specs.declared.line.Why.TheVariants.{Asm, Lin, Rnd, Uns}
use Rattle.cert_rows.specs.declared.certificate.Goal.{Goal}
use Rattle.cert_rows.specs.declared.certificate.Goal.TheVariants.{Infeas, Range}
use Rattle.cert_rows.specs.declared.certificate.Part.{Part}
use Rattle.cert_rows.specs.declared.certificate.Cert.{Cert}
use Rattle.cert_rows.specs.Validity.{lower_row, upper_row, objective_row}
use Rattle.problem.specs.Directions.{aim, directed}
use Rattle.node_events.specs.declared.proof.Proof.{Proof}
use Rattle.node_events.specs.declared.proof.Proof.TheVariants.{Empty, Refute, Bound}
use Rattle.node_tree.specs.declared.branch.Side.{Side}
use Rattle.node_tree.specs.declared.branch.Side.TheVariants.{Low, High}
use Rattle.node_tree.specs.declared.branch.Branch.{Branch}
use Rattle.node_tree.specs.declared.branch.Node.{Node}
use Rattle.node_tree.specs.Nodes.{children_at}
use Rattle.derivation_book.specs.declared.cut.Cut.{Cut}
use Rattle.derivation_book.specs.Known.{known_lines}
use Rattle.incumbent.specs.Offers.{point_of}
use Rattle.event_core.specs.declared.entry.Entry.{Entry}
use Rattle.event_core.specs.States.{State, tree_of, best_value}
use Rattle.event_core.specs.Histories.{state_of}
use Rattle.cert_merge.specs.Closing.{closing_multipliers, placed}
use Rattle.cert_merge.specs.Endings.{proof_of}
use Rattle.cert_merge.specs.Numbers.{assumption_line, node_line, line_of_bound, sources_of}

-- ---- labels
-- a letter with a number
abbrev pub label_of : List ℕ → ℕ → List ℕ
label_of letter i = letter ++ decimal i

-- a row with its label
abbrev pub labelled : List ℕ → Row → CertRow
labelled label r = record { label = label; sense = r.sense; rhs = r.rhs; terms = r.terms }

-- ---- the problem part
-- R0, R1 and so on
abbrev pub row_lines : ℕ → Rows → List CertRow
row_lines i [] = []
row_lines i (r ∷ rs) = labelled (label_of (codes "R") i) r ∷ row_lines (i + 1) rs

-- L0, U0, L1, U1 and so on
abbrev pub bound_lines : ℕ → List Span → List CertRow
bound_lines j [] = []
bound_lines j (s ∷ ss) = labelled (label_of (codes "L") j) (lower_row j s) ∷ labelled (label_of (codes "U") j) (upper_row j s) ∷ bound_lines (j + 1) ss

-- the problem as certificates list it: its names, its own objective with its sense, its rows, and behind them the bounds as rows
abbrev pub part_of : Problem → Part
part_of p = record { names = p.names; objective = p.objective; sense = p.sense; rows = row_lines 0 p.rows ++ bound_lines 0 p.spans }

-- ---- the claim
-- the incumbent's value is the best one, or no point is feasible
abbrev pub claim_of : Option ℚ → Goal
claim_of (Some v) = Range v v
claim_of None = Infeas

-- the best point, where there is one
abbrev pub points_of : Option Point → List Point
points_of (Some x) = x ∷ []
points_of None = []

-- `0 >= 1`
abbrev pub absurd_row : Row
absurd_row = record { sense = G; rhs = whole (pos 1); terms = [] }

-- what node 0 has to show: `objective >= value`, or where it is maximised `objective <= value`; or `0 >= 1`
abbrev pub goal_row : Problem → Option ℚ → Row
goal_row p (Some v) = objective_row p v
goal_row p None = absurd_row

-- ---- cuts, numbered from i on
-- the line of cut i: the rounded combination of its multipliers
abbrev pub cut_line : ℕ → Cut → CertRow × Why
cut_line i c = (labelled (label_of (codes "K") i) c.row, Rnd c.mult)

-- the lines of cuts, the first of which has number i
abbrev pub cut_lines : ℕ → List Cut → List (CertRow × Why)
cut_lines i [] = []
cut_lines i (c ∷ cs) = cut_line i c ∷ cut_lines (i + 1) cs

-- ---- assumptions
-- a lower bound is a row of sense G, an upper one of sense L
abbrev pub sense_for : Side → Sense
sense_for Low = G
sense_for High = L

-- `x >= bound` or `x <= bound`
abbrev pub branch_row : Branch → Row
branch_row b = record { sense = sense_for b.side; rhs = whole b.bound; terms = (b.column, whole (pos 1)) ∷ [] }

-- the assumption of the branch that leads to node i; none for node 0
abbrev pub assumption_of : ℕ → Option Branch → List (CertRow × Why)
assumption_of i None = []
assumption_of i (Some b) = (labelled (label_of (codes "A") i) (branch_row b), Asm) ∷ []

-- those of the nodes from number i on
abbrev pub assumption_lines : ℕ → List Node → List (CertRow × Why)
assumption_lines i [] = []
assumption_lines i (n ∷ ns) = assumption_of i n.branch ++ assumption_lines (i + 1) ns

-- ---- nodes
-- the multipliers of a node for a target: those of its proof, and those of the bounds of its box
abbrev pub node_multipliers : State → ℕ → Terms → Multipliers → Multipliers
node_multipliers s i target mult = closing_multipliers (known_lines s.problem s.cuts) target mult (sources_of s i)

-- the bounds of a column that cross: lower less upper
abbrev pub crossing : State → ℕ → ℕ → Multipliers
crossing s i j = placed (line_of_bound s i j Low, whole (pos 1)) ((line_of_bound s i j High, whole (negsuc 0)) ∷ [])

-- by rounding, or without
abbrev pub bound_reason : Bool → Multipliers → Why
bound_reason true mult = Rnd mult
bound_reason false mult = Lin mult

-- a node that was closed with this proof. A bound is one of the aim from below, and so of a maximised objective from above, by the negated multipliers
abbrev pub closed_line : State → ℕ → Proof → Row × Why
closed_line s i (Empty j) = (absurd_row, Lin (crossing s i j))
closed_line s i (Refute mult) = (absurd_row, Lin (node_multipliers s i [] mult))
closed_line s i (Bound mult rounded) =
    (goal_row s.problem (best_value s), bound_reason rounded (directed s.problem.sense (node_multipliers s i (aim s.problem) mult)))

-- a node that was split into these two
abbrev pub split_line : State → ℕ × ℕ → Row × Why
split_line s c = (goal_row s.problem (best_value s), Uns (node_line s c.0) (assumption_line s c.0) (node_line s c.1) (assumption_line s c.1))

-- node i by its children and its proof; what an open node has to show would be assumed
abbrev pub line_by : State → ℕ → Option (ℕ × ℕ) → Option Proof → Row × Why
line_by s i (Some c) proof = split_line s c
line_by s i None (Some proof) = closed_line s i proof
line_by s i None None = (goal_row s.problem (best_value s), Asm)

-- a row with its reason, as the line of node i
abbrev pub for_node : ℕ → Row × Why → CertRow × Why
for_node i l = (labelled (label_of (codes "N") i) l.0, l.1)

-- the line of node i, by how it was closed or split
abbrev pub node_of : State → List Entry → ℕ → CertRow × Why
node_of s es i = for_node i (line_by s i (children_at (tree_of s) i) (proof_of es i))

-- the nodes below k, from the greatest number down
abbrev pub node_lines : State → List Entry → ℕ → List (CertRow × Why)
node_lines s es zero = []
node_lines s es (suc i) = node_of s es i ∷ node_lines s es i

-- ---- the whole
-- of a state, and of the events that led to it
abbrev pub certificate_of : State → List Entry → Cert
certificate_of s es = record {
  part = part_of s.problem;
  claim = claim_of (best_value s);
  points = points_of (point_of s.incumbent);
  lines = cut_lines 0 s.cuts ++ assumption_lines 0 s.nodes ++ node_lines s es (length s.nodes);
}

-- of the events of a search
abbrev pub merged : Problem → List Entry → Cert
merged p es = certificate_of (state_of p es) es
