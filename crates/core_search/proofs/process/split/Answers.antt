use Rattle.std.specs.Prelude.{◌≡◌, ◌<◌, ◌+◌, ◌++◌, length}
use Rattle.std.proofs.Common.{sym, ap, ◌∙◌, subst, arith}
use Rattle.std.proofs.lemmas.Bool.{false≢true}
use Rattle.std.proofs.lemmas.Result.{on_err_weaker, on_ok_weaker}
use Rattle.node_tree.specs.Trees.{IsTree}
use Rattle.event_core.specs.States.{State, tree_of, box_of}
use Rattle.event_core.specs.Rooms.{Recorded}
use Rattle.event_core.specs.Sound.{IsSound}
use Rattle.event_core.specs.Lemmas.Boxes.{both_within}
use Rattle.expand.specs.declared.settlement.Settlement.TheVariants.{Branched}
use Rattle.expand.specs.Lemmas.Events.{settlement_fits}
use Rattle.core_search.specs.OpenNodes.{children}
use Rattle.core_search.proofs.Closing.{settles_legally, split_spends, split_unspent}
use Rattle.core_search.proofs.OpenLists.{last_node, last_greatest}
use Rattle.core_search.proofs.Stepping.{on_any_ok, split_settles, exhausted, bound_modest, ends_split}
use Rattle.core_search.proofs.Visiting.{no_change, unended_stays}
use Rattle.core_search.proofs.process.split.Goals as goal

pub settle_node-requires-clause-legal : goal.settle_node-requires-clause-legal
settle_node-requires-clause-legal g c =
    let s = c.args.pool.now.state.state in
    let o = c.args.node in
    settles_legally s o.number (Branched c.args.branching) c.requires.held (split_settles s o (last_node s c.args.nodes.now.items o c.requires.nodes) c.args.branching c.requires.branching)

pub settle_node-requires-clause-fits : goal.settle_node-requires-clause-fits
settle_node-requires-clause-fits g c =
    let s = c.args.pool.now.state.state in
    let o = c.args.node in
    settlement_fits s (box_of s o.number) o.number (Branched c.args.branching) (split_settles s o (last_node s c.args.nodes.now.items o c.requires.nodes) c.args.branching c.requires.branching)

pub returns-then-saturating_sub-lt2-clause-spent : goal.returns-then-saturating_sub-lt2-clause-spent
returns-then-saturating_sub-lt2-clause-spent g c = λ _.
    let s = c.args.pool.now.state.state in
    let size : length c.tree.result.now.nodes ≡ length s.nodes = ap length (c.tree.ensures.nodes ∙ ap (λ (r : Recorded). r.state.nodes) c.state-2.ensures) in
    exhausted s c.args.node (last_node s c.args.nodes.now.items c.args.node c.requires.nodes) c.args.branching c.requires.branching c.args.pool.now.budget
    (omega (arith, c.saturating_sub.ensures, c.len-number.ensures, c.budget.ensures, size, c.if-saturating_sub-lt2.true)) (last_greatest s c.args.nodes.now.items c.args.node c.requires.nodes)

-- nothing is made there
pub returns-then-saturating_sub-lt2-clause-processed : goal.returns-then-saturating_sub-lt2-clause-processed
returns-then-saturating_sub-lt2-clause-processed g c =
    let a = c.args.pool.now in
    let s = a.state.state in
    let size : length c.tree.result.now.nodes ≡ length s.nodes = ap length (c.tree.ensures.nodes ∙ ap (λ (r : Recorded). r.state.nodes) c.state-2.ensures) in
    let over : a.budget < length s.nodes + 2 = omega (arith, c.saturating_sub.ensures, c.len-number.ensures, c.budget.ensures, size, c.if-saturating_sub-lt2.true) in
    on_ok_weaker c.settle_node.result (λ e. absurd (false≢true (sym e ∙ split_spends a.budget (length s.nodes) c.args.node.number c.args.branching over))) c.settle_node.ensures.within

pub returns-then-saturating_sub-lt2-clause-unended : goal.returns-then-saturating_sub-lt2-clause-unended
returns-then-saturating_sub-lt2-clause-unended g c = on_err_weaker c.settle_node.result (unended_stays c.args.pool.now.state c.settle_node.new.pool.state) c.settle_node.ensures.unmade

pub returns-in_default-clause-unended : goal.returns-in_default-clause-unended
returns-in_default-clause-unended g c = unended_stays c.args.pool.now.state c.args.pool.now.state (no_change c.args.pool.now.state)

pub push_children-requires-clause-column : goal.push_children-requires-clause-column
push_children-requires-clause-column g c = both_within c.args.node.area c.args.branching.place.column c.args.branching.place.bound c.requires.branching.both

pub push_children-requires-clause-bound : goal.push_children-requires-clause-bound
push_children-requires-clause-bound g c =
    bound_modest c.args.node.area c.args.branching.place.column c.args.branching.place.bound c.requires.branching.both c.node_conditions_hold.ensures.modest

pub settle_node-requires-2-clause-legal : goal.settle_node-requires-2-clause-legal
settle_node-requires-2-clause-legal g c =
    let s = c.args.pool.now.state.state in
    let o = c.args.node in
    settles_legally s o.number (Branched c.args.branching) c.requires.held (split_settles s o (last_node s c.args.nodes.now.items o c.requires.nodes) c.args.branching c.requires.branching)

pub settle_node-requires-2-clause-fits : goal.settle_node-requires-2-clause-fits
settle_node-requires-2-clause-fits g c =
    let s = c.args.pool.now.state.state in
    let o = c.args.node in
    settlement_fits s (box_of s o.number) o.number (Branched c.args.branching) (split_settles s o (last_node s c.args.nodes.now.items o c.requires.nodes) c.args.branching c.requires.branching)

pub returns-clause-spent : goal.returns-clause-spent
returns-clause-spent g c = λ e.
    let a = c.args.pool.now in
    let s = a.state.state in
    let size : length c.tree.result.now.nodes ≡ length s.nodes = ap length (c.tree.ensures.nodes ∙ ap (λ (r : Recorded). r.state.nodes) c.state-2.ensures) in
    absurd
    (split_unspent a.budget (length s.nodes) c.args.node.number c.args.branching
    (omega (arith, c.saturating_sub.ensures, c.len-number.ensures, c.budget.ensures, size, c.if-saturating_sub-lt2.false)) (c.settle_node-2.ensures.spent e))

pub returns-clause-processed : goal.returns-clause-processed
returns-clause-processed g c =
    let s = c.args.pool.now.state.state in
    let os = c.args.nodes.now.items in
    let o = c.args.node in
    let b = c.args.branching in
    let same : c.state.result.now.state ≡ s = ap (λ (r : Recorded). r.state) c.state.ensures in
    let tree = subst (λ (u : State). IsTree (tree_of u)) same c.node_conditions_hold.ensures.tree in
    let sound = subst IsSound same c.node_conditions_hold.ensures.sound in
    let columns = subst (λ (u : State). length o.area ≡ length u.problem.spans) same c.node_conditions_hold.ensures.columns in
    let size : length c.tree.result.now.nodes ≡ length s.nodes = ap length (c.tree.ensures.nodes ∙ ap (λ (r : Recorded). r.state.nodes) c.state-2.ensures) in
    let number : c.len-number.result ≡ length s.nodes = c.len-number.ensures ∙ size in
    let column = both_within o.area b.place.column b.place.bound c.requires.branching.both in
    on_ok_weaker c.settle_node-2.result
    (λ h.
    ends_split c.args.pool.now.budget s c.settle_node-2.new.pool.state.state os c.push_children.new.nodes.items o b.place.column b.place.bound b.value
    h.state
    (c.in-Ok.ensures ∙ ap (λ n. os ++ children n o.area b.place.column b.place.bound b.value) number) c.requires.held c.requires.nodes
    tree sound.lengths (omega (arith, column, columns))
    (omega (arith, c.saturating_sub.ensures, c.budget.ensures, number, c.if-saturating_sub-lt2.false))) c.settle_node-2.ensures.made

pub returns-clause-unchanged : goal.returns-clause-unchanged
returns-clause-unchanged g c = on_err_weaker c.settle_node-2.result (λ h. h.state) c.settle_node-2.ensures.unmade

pub returns-clause-grown : goal.returns-clause-grown
returns-clause-grown g c =
    let b = c.args.branching in
    let size = ap length (c.tree.ensures.nodes ∙ ap (λ (r : Recorded). r.state.nodes) c.state-2.ensures) in
    on_any_ok c.settle_node-2.result
    (c.in-Ok.ensures ∙ ap (λ n. c.args.nodes.now.items ++ children n c.args.node.area b.place.column b.place.bound b.value) (c.len-number.ensures ∙ size))

pub returns-clause-unended : goal.returns-clause-unended
returns-clause-unended g c = on_err_weaker c.settle_node-2.result (unended_stays c.args.pool.now.state c.settle_node-2.new.pool.state) c.settle_node-2.ensures.unmade
