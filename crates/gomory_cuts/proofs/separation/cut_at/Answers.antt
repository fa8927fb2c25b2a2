use Rattle.std.proofs.Common.{refl, sym, ap, ◌∙◌, Some, None, length, map}
use Rattle.std.specs.Prelude.{if◌then◌else◌}
use Rattle.std.specs.Option.{option_and_then}
use Rattle.derivation_book.specs.declared.cut.Cut.{Cut}
use Rattle.derivation_book.specs.Known.{first_cut}
use Rattle.gomory_cuts.specs.Multipliers.{filled, row_multipliers}
use Rattle.gomory_cuts.specs.Separation.{if_violated}
use Rattle.gomory_cuts.proofs.Rising.{are_plain, plain_known, filled_between}
use Rattle.gomory_cuts.proofs.Candidates.{from_plain}
use Rattle.gomory_cuts.proofs.separation.cut_at.Goals as goal

pub is_refused-requires-clause-known : goal.is_refused-requires-clause-known
is_refused-requires-clause-known c =
    plain_known c.args.problem.now c.args.book.now.cuts c.in-Some.of_rows c.in-Some-2.of_cuts
    (are_plain c.args.problem.now c.args.book.now.cuts c.args.sign c.args.rest.now 0 (length c.args.problem.now.rows) c.in-Some.of_rows c.in-Some-2.of_cuts (sym c.in_ok-of_rows.ensures ∙ c.in-Some.is) (sym c.in_ok-of_cuts.ensures ∙ c.in-Some-2.is))

pub filled-requires-clause-known : goal.filled-requires-clause-known
filled-requires-clause-known c =
    plain_known c.args.problem.now c.args.book.now.cuts c.in-Some.of_rows c.in-Some-2.of_cuts
    (are_plain c.args.problem.now c.args.book.now.cuts c.args.sign c.args.rest.now 0 (length c.args.problem.now.rows) c.in-Some.of_rows c.in-Some-2.of_cuts (sym c.in_ok-of_rows.ensures ∙ c.in-Some.is) (sym c.in_ok-of_cuts.ensures ∙ c.in-Some-2.is))

pub make-mult-requires-clause-rising : goal.make-mult-requires-clause-rising
make-mult-requires-clause-rising c =
    (filled_between c.args.problem.now c.args.book.now.cuts c.args.tableau.now c.in-Some.of_rows c.in-Some-2.of_cuts c.in-Some-3.multipliers
    (are_plain c.args.problem.now c.args.book.now.cuts c.args.sign c.args.rest.now 0 (length c.args.problem.now.rows) c.in-Some.of_rows c.in-Some-2.of_cuts (sym c.in_ok-of_rows.ensures ∙ c.in-Some.is) (sym c.in_ok-of_cuts.ensures ∙ c.in-Some-2.is))
    (sym c.in_ok-multipliers.ensures ∙ c.in-Some-3.is)).rising

pub make-mult-requires-clause-nonzero : goal.make-mult-requires-clause-nonzero
make-mult-requires-clause-nonzero c =
    (filled_between c.args.problem.now c.args.book.now.cuts c.args.tableau.now c.in-Some.of_rows c.in-Some-2.of_cuts c.in-Some-3.multipliers
    (are_plain c.args.problem.now c.args.book.now.cuts c.args.sign c.args.rest.now 0 (length c.args.problem.now.rows) c.in-Some.of_rows c.in-Some-2.of_cuts (sym c.in_ok-of_rows.ensures ∙ c.in-Some.is) (sym c.in_ok-of_cuts.ensures ∙ c.in-Some-2.is))
    (sym c.in_ok-multipliers.ensures ∙ c.in-Some-3.is)).nonzero

pub returns-in_default : goal.returns-in_default
returns-in_default c =
    let of_cuts = row_multipliers c.args.sign c.args.rest.now (length c.args.problem.now.rows) (first_cut c.args.problem.now) (map (λ (c : Cut). c.row) c.args.book.now.cuts) in
    sym (from_plain c.args.problem.now c.args.book.now.cuts c.args.tableau.now c.args.point.now c.args.column c.args.sign c.args.rest.now c.in_ok-of_rows.field-0 of_cuts c.requires.rest c.in_ok-of_rows.ensures refl
    ∙ ap (λ o. option_and_then (if_violated c.args.problem.now c.args.book.now.cuts c.args.point.now) (option_and_then (λ us. option_and_then (λ vs. filled c.args.problem.now c.args.book.now.cuts c.args.tableau.now us vs) of_cuts) o)) c.in_default.is)

pub returns-in_default-2 : goal.returns-in_default-2
returns-in_default-2 c =
    sym (from_plain c.args.problem.now c.args.book.now.cuts c.args.tableau.now c.args.point.now c.args.column c.args.sign c.args.rest.now c.in_ok-of_rows.field-0 c.in_ok-of_cuts.field-0 c.requires.rest c.in_ok-of_rows.ensures c.in_ok-of_cuts.ensures
    ∙ (λ i. option_and_then (if_violated c.args.problem.now c.args.book.now.cuts c.args.point.now) (option_and_then (λ us. option_and_then (λ vs. filled c.args.problem.now c.args.book.now.cuts c.args.tableau.now us vs) (c.in_default-2.is i)) (c.in-Some.is i))))

pub returns-then-branch : goal.returns-then-branch
returns-then-branch c =
    sym (from_plain c.args.problem.now c.args.book.now.cuts c.args.tableau.now c.args.point.now c.args.column c.args.sign c.args.rest.now c.in_ok-of_rows.field-0 c.in_ok-of_cuts.field-0 c.requires.rest c.in_ok-of_rows.ensures c.in_ok-of_cuts.ensures
    ∙ (λ i. option_and_then (if_violated c.args.problem.now c.args.book.now.cuts c.args.point.now) (option_and_then (λ us. option_and_then (λ vs. filled c.args.problem.now c.args.book.now.cuts c.args.tableau.now us vs) (c.in-Some-2.is i)) (c.in-Some.is i)))
    ∙ c.in_ok-is_refused.ensures c.if-branch.true)

pub returns-in_default-3 : goal.returns-in_default-3
returns-in_default-3 c =
    sym (from_plain c.args.problem.now c.args.book.now.cuts c.args.tableau.now c.args.point.now c.args.column c.args.sign c.args.rest.now c.in_ok-of_rows.field-0 c.in_ok-of_cuts.field-0 c.requires.rest c.in_ok-of_rows.ensures c.in_ok-of_cuts.ensures
    ∙ (λ i. option_and_then (if_violated c.args.problem.now c.args.book.now.cuts c.args.point.now) (option_and_then (λ us. option_and_then (λ vs. filled c.args.problem.now c.args.book.now.cuts c.args.tableau.now us vs) (c.in-Some-2.is i)) (c.in-Some.is i)))
    ∙ ap (option_and_then (if_violated c.args.problem.now c.args.book.now.cuts c.args.point.now)) (sym c.in_ok-multipliers.ensures ∙ c.in_default-3.is))

pub returns-then-branch-2 : goal.returns-then-branch-2
returns-then-branch-2 c =
    sym (from_plain c.args.problem.now c.args.book.now.cuts c.args.tableau.now c.args.point.now c.args.column c.args.sign c.args.rest.now c.in_ok-of_rows.field-0 c.in_ok-of_cuts.field-0 c.requires.rest c.in_ok-of_rows.ensures c.in_ok-of_cuts.ensures
    ∙ (λ i. option_and_then (if_violated c.args.problem.now c.args.book.now.cuts c.args.point.now) (option_and_then (λ us. option_and_then (λ vs. filled c.args.problem.now c.args.book.now.cuts c.args.tableau.now us vs) (c.in-Some-2.is i)) (c.in-Some.is i)))
    ∙ ap (option_and_then (if_violated c.args.problem.now c.args.book.now.cuts c.args.point.now)) (sym c.in_ok-multipliers.ensures ∙ c.in-Some-3.is ∙ ap Some (sym c.make-mult.ensures))
    ∙ c.in_ok-has_violated_row.ensures
    ∙ ap (λ b. if b then Some c.make-mult.result else None) c.if-branch-2.true)

pub returns : goal.returns
returns c =
    sym (from_plain c.args.problem.now c.args.book.now.cuts c.args.tableau.now c.args.point.now c.args.column c.args.sign c.args.rest.now c.in_ok-of_rows.field-0 c.in_ok-of_cuts.field-0 c.requires.rest c.in_ok-of_rows.ensures c.in_ok-of_cuts.ensures
    ∙ (λ i. option_and_then (if_violated c.args.problem.now c.args.book.now.cuts c.args.point.now) (option_and_then (λ us. option_and_then (λ vs. filled c.args.problem.now c.args.book.now.cuts c.args.tableau.now us vs) (c.in-Some-2.is i)) (c.in-Some.is i)))
    ∙ ap (option_and_then (if_violated c.args.problem.now c.args.book.now.cuts c.args.point.now)) (sym c.in_ok-multipliers.ensures ∙ c.in-Some-3.is ∙ ap Some (sym c.make-mult.ensures))
    ∙ c.in_ok-has_violated_row.ensures
    ∙ ap (λ b. if b then Some c.make-mult.result else None) c.if-branch-2.false)
