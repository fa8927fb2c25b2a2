use Rattle.std.proofs.Common.{ap, sym, ◌∙◌, Some}
use Rattle.tableau.proofs.Pushing.{when_true, when_false}
use Rattle.tableau.proofs.Substituting.{substituted_none, substituted_some}
use Rattle.tableau.proofs.sparse_row.SparseRow.substitute_into.Goals as goal

pub returns-then-not-branch : goal.returns-then-not-branch
returns-then-not-branch c =
    substituted_none c.self.inside.width c.source.inside.width c.args.variable c.self.inside.entries c.source.inside.entries c.as_slice.result.now c.as_slice-2.result.now
    c.args.self.now c.args.source.now c.coefficient-factor.result c.self.invariant c.source.invariant c.self.view_is c.source.view_is c.coefficient-factor.ensures c.as_slice.ensures c.as_slice-2.ensures
    (when_false _ _ c.in_ok-push_merged.field-0 c.in_ok-push_merged.ensures.entries c.if-not-branch.true)

pub set-requires : goal.set-requires
set-requires c = (
    substituted_some c.self.inside.width c.source.inside.width c.args.variable c.self.inside.entries c.source.inside.entries c.as_slice.result.now c.as_slice-2.result.now c.clear.new.self c.push_merged.new.self
    c.args.self.now c.args.source.now c.coefficient-factor.result c.self.invariant c.source.invariant c.self.view_is c.source.view_is c.coefficient-factor.ensures c.as_slice.ensures c.as_slice-2.ensures
    c.clear.ensures c.in_ok-push_merged.ensures.fractions (when_true _ _ c.in_ok-push_merged.field-0 c.in_ok-push_merged.ensures.entries c.if-not-branch.false)).1

pub returns : goal.returns
returns c = (
    substituted_some c.self.inside.width c.source.inside.width c.args.variable c.self.inside.entries c.source.inside.entries c.as_slice.result.now c.as_slice-2.result.now c.clear.new.self c.push_merged.new.self
    c.args.self.now c.args.source.now c.coefficient-factor.result c.self.invariant c.source.invariant c.self.view_is c.source.view_is c.coefficient-factor.ensures c.as_slice.ensures c.as_slice-2.ensures
    c.clear.ensures c.in_ok-push_merged.ensures.fractions (when_true _ _ c.in_ok-push_merged.field-0 c.in_ok-push_merged.ensures.entries c.if-not-branch.false)).0 ∙ ap Some (sym c.in_ok-set.ensures)
