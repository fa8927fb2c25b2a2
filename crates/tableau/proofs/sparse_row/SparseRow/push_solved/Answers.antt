use Rattle.std.proofs.Common.{◌≡◌, ap, sym, ◌∙◌, take, drop, length, ◌+◌, ℕ}
use Rattle.problem.specs.Linear.{Terms}
use Rattle.tableau.specs.Sparse.{own_entry, before_variable, from_variable}
use Rattle.tableau.specs.SparseSteps.{IsPosition}
use Rattle.tableau.proofs.Pushing.{when_true, when_false}
use Rattle.tableau.proofs.View.{sparse_rise, take_position, drop_position}
use Rattle.tableau.proofs.Solving.{quotients_are, front_stops, own_stops, back_stops, all_go}
use Rattle.tableau.proofs.sparse_row.SparseRow.push_solved.Goals as goal

pub position-earlier-requires : goal.position-earlier-requires
position-earlier-requires c = sparse_rise c.self.inside.width c.self.inside.entries c.self.invariant

pub position-later-requires : goal.position-later-requires
position-later-requires c = sparse_rise c.self.inside.width c.self.inside.entries c.self.invariant

front_is : (es ts fs : Terms) (r p : ℕ) → IsPosition r es p → ts ≡ es → fs ≡ take p ts → fs ≡ before_variable r es
front_is es ts fs r p h e f = f ∙ ap (take p) e ∙ take_position r es p h

back_is : (es ts fs : Terms) (r p : ℕ) → IsPosition r es p → ts ≡ es → fs ≡ drop p ts → fs ≡ from_variable r es
back_is es ts fs r p h e f = f ∙ ap (drop p) e ∙ drop_position r es p h

pub returns-then-not-branch-clause-entries : goal.returns-then-not-branch-clause-entries
returns-then-not-branch-clause-entries c =
    let es = c.self.inside.entries in
    sym (quotients_are c.args.pivot c.self.inside.width c.args.row c.args.column c.args.self.now es c.front.result.now (from_variable (c.args.row + 1) es) c.self.view_is c.self.invariant
    (front_is es c.as_slice.result.now c.front.result.now c.args.row c.position-earlier.result c.position-earlier.ensures c.as_slice.ensures c.front.ensures) (λ i. from_variable (c.args.row + 1) es))
    ∙ front_stops c.args.pivot c.args.column c.front.result.now (own_entry (length c.args.self.now) c.args.row) (from_variable (c.args.row + 1) es)
    (λ others. when_false _ _ c.in_ok-push_quotients.field-0 (c.in_ok-push_quotients.ensures.entries others) c.if-not-branch.true)

pub returns-then-not-branch-2-clause-entries : goal.returns-then-not-branch-2-clause-entries
returns-then-not-branch-2-clause-entries c =
    let es = c.self.inside.entries in
    sym (quotients_are c.args.pivot c.self.inside.width c.args.row c.args.column c.args.self.now es c.front.result.now (from_variable (c.args.row + 1) es) c.self.view_is c.self.invariant
    (front_is es c.as_slice.result.now c.front.result.now c.args.row c.position-earlier.result c.position-earlier.ensures c.as_slice.ensures c.front.ensures) (λ i. from_variable (c.args.row + 1) es))
    ∙ own_stops c.args.pivot c.args.column c.front.result.now (own_entry (length c.args.self.now) c.args.row) (from_variable (c.args.row + 1) es) _ _
    (λ others. when_true _ _ c.in_ok-push_quotients.field-0 (c.in_ok-push_quotients.ensures.entries others) c.if-not-branch.false)
    (λ others. when_false _ _ c.in_ok-push_own.field-0 (c.in_ok-push_own.ensures.entries others) c.if-not-branch-2.true)

pub returns-then-not-branch-3-clause-entries : goal.returns-then-not-branch-3-clause-entries
returns-then-not-branch-3-clause-entries c =
    let es = c.self.inside.entries in
    sym (quotients_are c.args.pivot c.self.inside.width c.args.row c.args.column c.args.self.now es c.front.result.now c.rest.result.now c.self.view_is c.self.invariant
    (front_is es c.as_slice.result.now c.front.result.now c.args.row c.position-earlier.result c.position-earlier.ensures c.as_slice.ensures c.front.ensures)
    (back_is es c.as_slice-2.result.now c.rest.result.now (c.args.row + 1) c.position-later.result c.position-later.ensures c.as_slice-2.ensures c.rest.ensures))
    ∙ back_stops c.args.pivot c.args.column c.front.result.now (own_entry (length c.args.self.now) c.args.row) c.rest.result.now _ _ _
    (λ others. when_true _ _ c.in_ok-push_quotients.field-0 (c.in_ok-push_quotients.ensures.entries others) c.if-not-branch.false)
    (λ others. when_true _ _ c.in_ok-push_own.field-0 (c.in_ok-push_own.ensures.entries others) c.if-not-branch-2.false)
    (λ others. when_false _ _ c.in_ok-push_quotients-2.field-0 (c.in_ok-push_quotients-2.ensures.entries others) c.if-not-branch-3.true)

pub returns-clause-entries : goal.returns-clause-entries
returns-clause-entries c =
    let es = c.self.inside.entries in
    sym (quotients_are c.args.pivot c.self.inside.width c.args.row c.args.column c.args.self.now es c.front.result.now c.rest.result.now c.self.view_is c.self.invariant
    (front_is es c.as_slice.result.now c.front.result.now c.args.row c.position-earlier.result c.position-earlier.ensures c.as_slice.ensures c.front.ensures)
    (back_is es c.as_slice-2.result.now c.rest.result.now (c.args.row + 1) c.position-later.result c.position-later.ensures c.as_slice-2.ensures c.rest.ensures))
    ∙ all_go c.args.pivot c.args.column c.front.result.now (own_entry (length c.args.self.now) c.args.row) c.rest.result.now _ _ _ _ c.requires.none
    (λ others. when_true _ _ c.in_ok-push_quotients.field-0 (c.in_ok-push_quotients.ensures.entries others) c.if-not-branch.false)
    (λ others. when_true _ _ c.in_ok-push_own.field-0 (c.in_ok-push_own.ensures.entries others) c.if-not-branch-2.false)
    (λ others. when_true _ _ c.in_ok-push_quotients-2.field-0 (c.in_ok-push_quotients-2.ensures.entries others) c.if-not-branch-3.false)
