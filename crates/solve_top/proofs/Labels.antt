-- The labels of a merged certificate are words: a letter and a number.
use Rattle.std.specs.Prelude.{◌<◌, ◌+◌, ℕ, zero, suc, List, [], ◌∷◌, ◌++◌, Option, Some, None, length, codes, All}
use Rattle.std.specs.Fmt.{decimal}
use Rattle.std.proofs.Common.{arith}
use Rattle.std.proofs.lemmas.List.Elements.{All-nil, All-cons, All-append}
use Rattle.problem.specs.Problem.{Problem}
use Rattle.problem.specs.declared.row.Row.{Row}
use Rattle.problem_box.specs.declared.span.Span.{Span}
use Rattle.cert_rows.specs.Validity.{lower_row, upper_row}
use Rattle.cert_rows.specs.declared.line.CertRow.{CertRow}
use Rattle.cert_rows.specs.declared.line.Why.{Why}
use Rattle.node_tree.specs.declared.branch.Branch.{Branch}
use Rattle.node_tree.specs.declared.branch.Node.{Node}
use Rattle.derivation_book.specs.declared.cut.Cut.{Cut}
use Rattle.event_core.specs.declared.entry.Entry.{Entry}
use Rattle.event_core.specs.States.{State}
use Rattle.event_core.specs.Histories.{state_of}
use Rattle.cert_merge.specs.Merged.{label_of, labelled, row_lines, bound_lines, cut_lines, assumption_of, assumption_lines, node_of, node_lines, merged}
use Rattle.vipr_print.specs.Lemmas.Numerals.{decimal_word}
use Rattle.vipr_print.specs.Unique.{IsWord}

-- ---- a letter and a number
label_word : (letter i : ℕ) → 32 < letter → IsWord (label_of (letter ∷ []) i)
label_word letter i h = All-cons (λ b. 32 < b) letter (decimal i) h (decimal_word i)

-- ---- rows of the problem
abbrev IsLabelled : CertRow → Type 0
IsLabelled r = IsWord r.label

rows_labelled : (i : ℕ) (rs : List Row) → All IsLabelled (row_lines i rs)
rows_labelled i [] = All-nil IsLabelled
rows_labelled i (r ∷ rs) = All-cons IsLabelled (labelled (label_of (codes "R") i) r) (row_lines (i + 1) rs) (label_word 82 i (omega arith)) (rows_labelled (i + 1) rs)

bounds_labelled : (j : ℕ) (ss : List Span) → All IsLabelled (bound_lines j ss)
bounds_labelled j [] = All-nil IsLabelled
bounds_labelled j (s ∷ ss) =
    All-cons IsLabelled (labelled (label_of (codes "L") j) (lower_row j s)) (labelled (label_of (codes "U") j) (upper_row j s) ∷ bound_lines (j + 1) ss) (label_word 76 j (omega arith))
    (All-cons IsLabelled (labelled (label_of (codes "U") j) (upper_row j s)) (bound_lines (j + 1) ss) (label_word 85 j (omega arith)) (bounds_labelled (j + 1) ss))

pub part_labelled : (p : Problem) → All (λ r. IsWord r.label) (row_lines 0 p.rows ++ bound_lines 0 p.spans)
part_labelled p = All-append IsLabelled (row_lines 0 p.rows) (bound_lines 0 p.spans) (rows_labelled 0 p.rows) (bounds_labelled 0 p.spans)

-- ---- derived lines
abbrev IsLabelledLine : CertRow × Why → Type 0
IsLabelledLine l = IsWord l.0.label

cuts_labelled : (i : ℕ) (cs : List Cut) → All IsLabelledLine (cut_lines i cs)
cuts_labelled i [] = All-nil IsLabelledLine
cuts_labelled i (c ∷ cs) = All-cons IsLabelledLine _ (cut_lines (i + 1) cs) (label_word 75 i (omega arith)) (cuts_labelled (i + 1) cs)

assumption_labelled : (i : ℕ) (b : Option Branch) → All IsLabelledLine (assumption_of i b)
assumption_labelled i None = All-nil IsLabelledLine
assumption_labelled i (Some b) = All-cons IsLabelledLine _ [] (label_word 65 i (omega arith)) (All-nil IsLabelledLine)

assumptions_labelled : (i : ℕ) (ns : List Node) → All IsLabelledLine (assumption_lines i ns)
assumptions_labelled i [] = All-nil IsLabelledLine
assumptions_labelled i (n ∷ ns) =
    All-append IsLabelledLine (assumption_of i n.branch) (assumption_lines (i + 1) ns) (assumption_labelled i n.branch) (assumptions_labelled (i + 1) ns)

nodes_labelled : (s : State) (es : List Entry) (k : ℕ) → All IsLabelledLine (node_lines s es k)
nodes_labelled s es zero = All-nil IsLabelledLine
nodes_labelled s es (suc i) = All-cons IsLabelledLine (node_of s es i) (node_lines s es i) (label_word 78 i (omega arith)) (nodes_labelled s es i)

state_labelled : (s : State) (es : List Entry) → All IsLabelledLine (cut_lines 0 s.cuts ++ assumption_lines 0 s.nodes ++ node_lines s es (length s.nodes))
state_labelled s es =
    All-append IsLabelledLine (cut_lines 0 s.cuts ++ assumption_lines 0 s.nodes) (node_lines s es (length s.nodes))
    (All-append IsLabelledLine (cut_lines 0 s.cuts) (assumption_lines 0 s.nodes) (cuts_labelled 0 s.cuts) (assumptions_labelled 0 s.nodes))
    (nodes_labelled s es (length s.nodes))

pub lines_labelled : (p : Problem) (es : List Entry) → All (λ d. IsWord d.0.label) (merged p es).lines
lines_labelled p es = state_labelled (state_of p es) es
