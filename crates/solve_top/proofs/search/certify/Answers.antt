use Rattle.std.proofs.Common.{◌∙◌, ap, inr, length, subst}
use Rattle.cert_tree.specs.Laws.{MergedIsValid, MergedIsTrue, InfeasibilityIsExact}
use Rattle.solve_top.specs.Changes.{sink_change}
use Rattle.solve_top.proofs.Feeding.{merges}
use Rattle.solve_top.proofs.Texts.{has_finished, valid_end, prefix_end, finished_lines_are, solved_end}
use Rattle.solve_top.proofs.search.certify.Goals as goal

pub returns-in-Ok-clause-solution : goal.returns-in-Ok-clause-solution
returns-in-Ok-clause-solution g c =
    let k = c.conditions_hold.ensures in
    let l = c.finished_searches_are_certified.ensures in
    let m = merges _ _ _ c.in_ok-head.ensures.head c.in_ok-head.ensures.lines in
    let valid = subst MergedIsValid c.problem.ensures l.valid in (
      solved_end c.args.state.now k.state _ k.legal c.requires.ended m _ valid
          (subst MergedIsTrue c.problem.ensures l.answered) (subst InfeasibilityIsExact c.problem.ensures l.exact)
          (c.text_spells_no_other.ensures _ m (valid_end c.args.state.now k.state _ k.legal c.requires.ended m valid) c.in-Ok.ensures.short)
          c.in-Ok.ensures.whole c.in-Ok.ensures.kept,
      c.in-Ok.ensures.cause,
      finished_lines_are c.args.state.now k.state _ k.legal c.requires.ended m c.args.request.now _ _ _
          (c.len.ensures ∙ ap length c.tree.ensures.nodes) (c.len-2.ensures ∙ ap length c.book.ensures) c.in_ok-lines.ensures,
    )

pub returns-in-Err-Sink-clause-solution : goal.returns-in-Err-Sink-clause-solution
returns-in-Err-Sink-clause-solution g c =
    let k = c.conditions_hold.ensures in
    let m = merges _ _ _ c.in_ok-head.ensures.head c.in_ok-head.ensures.lines in (
      has_finished c.args.state.now k.state _ k.legal c.requires.ended m,
      prefix_end c.args.state.now k.state _ k.legal c.requires.ended m
          (sink_change g.C.Sink.tells g.C.Sink.taken g.C.Sink.kept g.C.Sink.faults c.args.cert.now c.keep.new.cert) c.in-Err-Sink.ensures.prefix,
      (rw c.in-Err-Sink.field-0-is at c.in-Err-Sink.ensures.cause).1,
    )

pub returns-clause-solution : goal.returns-clause-solution
returns-clause-solution g c =
    let k = c.conditions_hold.ensures in
    let m = merges _ _ _ c.in_ok-head.ensures.head c.in_ok-head.ensures.lines in (
      inr (
        has_finished c.args.state.now k.state _ k.legal c.requires.ended m,
        prefix_end c.args.state.now k.state _ k.legal c.requires.ended m
            (sink_change g.C.Sink.tells g.C.Sink.taken g.C.Sink.kept g.C.Sink.faults c.args.cert.now c.keep.new.cert) c.in-Err-Memory.ensures.prefix,
      ),
      rw c.in-Err-Memory.field-0-is at c.in-Err-Memory.ensures.cause,
    )
