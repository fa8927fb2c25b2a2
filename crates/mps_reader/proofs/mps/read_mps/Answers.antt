use Rattle.std.proofs.Common.{◌≡◌, ◌≤◌, Ok, arith, length, ◌∙◌}
use Rattle.std.proofs.lemmas.Result.{IfOk-weaker, IfErr-weaker}
use Rattle.mps_reader.specs.Refusals.{IsRefusedWith}
use Rattle.mps_reader.proofs.Refusals.{read_is, refused_at_end, refused_by, too_long}
use Rattle.mps_reader.specs.Reading.{Reads, finish, text_limit}
use Rattle.mps_reader.proofs.mps.read_mps.Goals as goal
use Rattle.mps_reader.specs.TextTables.{IsFaultOf}

pub returns-then-text-gt-TEXT_LIMIT-clause-refused : goal.returns-then-text-gt-TEXT_LIMIT-clause-refused
returns-then-text-gt-TEXT_LIMIT-clause-refused g c = too_long c.args.text.now c.args.upper (omega arith)

pub returns-in-Err-clause-refused : goal.returns-in-Err-clause-refused
returns-in-Err-clause-refused g c = refused_by c.args.text.now c.args.upper c.in-Err.fault (omega arith) c.in-Err.ensures.refused

pub problem_of-requires-clause-sections : goal.problem_of-requires-clause-sections
problem_of-requires-clause-sections g c = (c.args.text.now, c.in-Ok.ensures.read)

pub returns-clause-read : goal.returns-clause-read
returns-clause-read g c =
    let text = c.args.text.now in
    let upper = c.args.upper in
    let h = c.in-Ok.ensures.read in
    let l : length text ≤ text_limit = omega arith in
    IfOk-weaker c.problem_of.result (λ p. finish upper (Ok h.s) ≡ Ok p) (λ p. Reads text upper p) (λ p e. read_is text c.in-Ok.tables h upper l ∙ e) (c.problem_of.ensures.ok h.s h.tables)

pub returns-clause-refused : goal.returns-clause-refused
returns-clause-refused g c =
    let text = c.args.text.now in
    let upper = c.args.upper in
    let h = c.in-Ok.ensures.read in
    let l : length text ≤ text_limit = omega arith in
    IfErr-weaker c.problem_of.result (λ f. IsFaultOf f (finish upper (Ok h.s))) (λ f. IsRefusedWith text upper f)
    (λ f e. refused_at_end text upper h.s f (read_is text c.in-Ok.tables h upper l) e) (c.problem_of.ensures.err h.s h.tables)
