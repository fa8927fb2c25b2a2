use Rattle.std.proofs.Common.{ap, refl, arith, slice_set}
use Rattle.cert_merge.proofs.Keeping.{column_there, child_there, parent_is, kept_down}
use Rattle.cert_merge.proofs.path_setters.PathSetters.enter.Goals as goal

pub branch_to-branch-requires-clause-there : goal.branch_to-branch-requires-clause-there
branch_to-branch-requires-clause-there c = (child_there c.args.tree.now c.conditions_hold.ensures.tree c.args.node c.args.self.now.place c.requires.child).1

pub branch_to-branch-requires-clause-below : goal.branch_to-branch-requires-clause-below
branch_to-branch-requires-clause-below c = (child_there c.args.tree.now c.conditions_hold.ensures.tree c.args.node c.args.self.now.place c.requires.child).0

pub get-requires : goal.get-requires
get-requires c =
    omega (arith, column_there c.args.tree.now c.conditions_hold.ensures.tree c.args.node c.branch_to-branch.result c.branch_to-branch.ensures, c.requires.kept.columns)

pub set-requires : goal.set-requires
set-requires c =
    omega (arith, column_there c.args.tree.now c.conditions_hold.ensures.tree c.args.node c.branch_to-branch.result c.branch_to-branch.ensures, c.requires.kept.columns)

pub returns-clause-kept : goal.returns-clause-kept
returns-clause-kept c =
    let t = c.args.tree.now in
    let tree = c.conditions_hold.ensures.tree in
    let s = c.args.self.now in
    let b = c.branch_to-branch.result in
    kept_down t tree s (record { place = c.args.node; table = c.set.new.self; replaced = Rattle.std.specs.Vec.with_item s.replaced c.args.node c.get.result })
    c.args.node b c.requires.kept c.branch_to-branch.ensures (parent_is t tree c.args.node s.place b c.requires.child c.branch_to-branch.ensures) refl c.set.ensures
    (ap (slice_set s.replaced.items c.args.node) c.get.ensures)
