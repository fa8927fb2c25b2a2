use Rattle.std.proofs.Common.{◌≡◌, ◌∙◌, ◌++◌, Some, ap, subst, sym}
use Rattle.std.specs.Prelude.{List, option_map, slice_get}
use Rattle.derivation_book.specs.declared.cut.Cut.{Cut}
use Rattle.cert_merge.specs.FeedLines.{lines_from, nodes_behind}
use Rattle.cert_merge.specs.Merged.{assumption_lines, cut_line}
use Rattle.cert_merge.proofs.Feeding.{cut_first}
use Rattle.cert_merge.proofs.stream.line_at.Goals as goal

pub returns-in_ok-cut_line-in-Cut-clause-line : goal.returns-in_ok-cut_line-in-Cut-clause-line
returns-in_ok-cut_line-in-Cut-clause-line c =
    let s = c.args.state.now.state in
    let es = c.args.state.now.history in
    let i = c.in-Cut.index in
    let l = c.in_ok-cut_line-in-Cut.field-0 in
    let there : option_map (cut_line i) (slice_get s.cuts i) ≡ Some l = subst (λ (cs : List Cut). option_map (cut_line i) (slice_get cs i) ≡ Some l) c.book.ensures c.in_ok-cut_line-in-Cut.ensures in
    sym (cut_first s.cuts i l (assumption_lines 0 s.nodes ++ nodes_behind s es) there) ∙ ap (λ p. slice_get (lines_from s es p) 0) (sym c.in-Cut.is)
