use Rattle.std.proofs.Common.{◌<◌, ◌∙◌, None, ap, length, refl, arith}
use Rattle.std.proofs.lemmas.List.{get_or_default}
use Rattle.cert_merge.specs.Setters.{with_set}
use Rattle.cert_merge.proofs.Keeping.{column_there, parent_below, kept_up}
use Rattle.cert_merge.proofs.path_setters.PathSetters.leave.Goals as goal

pub set-requires : goal.set-requires
set-requires c =
    omega (arith, column_there c.args.tree.now c.conditions_hold.ensures.tree c.args.self.now.place c.branch_to-branch.result c.branch_to-branch.ensures, c.requires.kept.columns)

pub returns-clause-kept : goal.returns-clause-kept
returns-clause-kept c =
    let s = c.args.self.now in
    let b = c.branch_to-branch.result in
    let there : s.place < length s.replaced.items = omega (arith, c.requires.kept.there, c.requires.kept.nodes) in
    kept_up c.args.tree.now c.conditions_hold.ensures.tree s (record { place = b.parent; table = c.set.new.self; replaced = s.replaced }) b c.requires.kept c.branch_to-branch.ensures refl
    (c.set.ensures ∙ ap (with_set s.table b.column b.side) (c.index-replaced.ensures ∙ get_or_default s.replaced.items s.place c.index-replaced.result.now None there)) refl

pub returns-clause-up : goal.returns-clause-up
returns-clause-up c = parent_below c.args.tree.now c.conditions_hold.ensures.tree c.args.self.now.place c.branch_to-branch.result c.branch_to-branch.ensures
