use Rattle.std.proofs.Common.{◌≡◌, ◌∙◌, rules, [], ◌∷◌, ◌++◌}
use Rattle.node_journal.specs.Frames.{tail_of}
use Rattle.node_journal.specs.Records.{records, Intact}
use Rattle.node_journal.specs.Whole.{payloads_in}
use Rattle.node_journal.proofs.Added.{written_rests, leaves_with, leaves_none, can_leave, remains_with}
use Rattle.node_journal.specs.Lemmas.Histories.{some_none, remains_begun}
use Rattle.node_journal.proofs.write_payload.write_payload.Goals as goal

pub returns-then-next-ge-SIZE_LIMIT-clause-any_moment : goal.returns-then-next-ge-SIZE_LIMIT-clause-any_moment
returns-then-next-ge-SIZE_LIMIT-clause-any_moment g c told =
    let whole = c.requires.whole told in
    leaves_none (payloads_in (g.D.Disk.now c.args.disk.now)) c.args.payload.now whole.small c.requires.small whole.rests whole.end_is (g.D.Disk.past c.args.disk.now)

pub returns-then-next-ge-SIZE_LIMIT-clause-before : goal.returns-then-next-ge-SIZE_LIMIT-clause-before
returns-then-next-ge-SIZE_LIMIT-clause-before g c told = some_none (g.D.Disk.past c.args.disk.now) (λ f. records f ≡ Intact (payloads_in (g.D.Disk.now c.args.disk.now)))

pub returns-then-is_err-clause-any_moment : goal.returns-then-is_err-clause-any_moment
returns-then-is_err-clause-any_moment g c told =
    let whole = c.requires.whole told in
    leaves_none (payloads_in (g.D.Disk.now c.args.disk.now)) c.args.payload.now whole.small c.requires.small whole.rests whole.end_is (g.D.Disk.past c.args.disk.now)

pub returns-then-is_err-clause-before : goal.returns-then-is_err-clause-before
returns-then-is_err-clause-before g c told = some_none (g.D.Disk.past c.args.disk.now) (λ f. records f ≡ Intact (payloads_in (g.D.Disk.now c.args.disk.now)))

pub returns-in-Ok-clause-done : goal.returns-in-Ok-clause-done
returns-in-Ok-clause-done g c told =
    let whole = c.requires.whole told in
    let is : c.stage.new.frame.items ≡ tail_of c.args.payload.now = search rules in
    written_rests (payloads_in (g.D.Disk.now c.args.disk.now)) c.args.payload.now whole.small c.requires.small whole.rests whole.end_is (c.in-Ok.ensures.done told) (c.as_slice.ensures.value ∙ is)

pub returns-in-Ok-clause-any_moment : goal.returns-in-Ok-clause-any_moment
returns-in-Ok-clause-any_moment g c told =
    let whole = c.requires.whole told in
    let is : c.stage.new.frame.items ≡ tail_of c.args.payload.now = search rules in
    leaves_with (payloads_in (g.D.Disk.now c.args.disk.now)) c.args.payload.now whole.small c.requires.small whole.rests whole.end_is (c.as_slice.ensures.value ∙ is) (c.open_behind.ensures.any_moment told)

pub returns-in-Err-clause-any_moment : goal.returns-in-Err-clause-any_moment
returns-in-Err-clause-any_moment g c told =
    let whole = c.requires.whole told in
    let is : c.stage.new.frame.items ≡ tail_of c.args.payload.now = search rules in
    leaves_with (payloads_in (g.D.Disk.now c.args.disk.now)) c.args.payload.now whole.small c.requires.small whole.rests whole.end_is (c.as_slice.ensures.value ∙ is) (c.open_behind.ensures.any_moment told)

pub returns-in-Ok-clause-before : goal.returns-in-Ok-clause-before
returns-in-Ok-clause-before g c told =
    let whole = c.requires.whole told in
    can_leave (payloads_in (g.D.Disk.now c.args.disk.now)) c.args.payload.now whole.small c.requires.small whole.rests whole.end_is _ (g.D.Disk.past c.open_behind.new.disk) (c.open_behind.ensures.before told)

pub returns-in-Err-clause-before : goal.returns-in-Err-clause-before
returns-in-Err-clause-before g c told =
    let whole = c.requires.whole told in
    can_leave (payloads_in (g.D.Disk.now c.args.disk.now)) c.args.payload.now whole.small c.requires.small whole.rests whole.end_is _ (g.D.Disk.past c.open_behind.new.disk) (c.open_behind.ensures.before told)

pub returns-then-next-ge-SIZE_LIMIT-clause-remains : goal.returns-then-next-ge-SIZE_LIMIT-clause-remains
returns-then-next-ge-SIZE_LIMIT-clause-remains g c told = remains_begun (g.D.Disk.past c.args.disk.now) (g.D.Disk.now c.args.disk.now) (λ f. records f ≡ Intact (payloads_in (g.D.Disk.now c.args.disk.now) ++ c.args.payload.now ∷ []))

pub returns-then-is_err-clause-remains : goal.returns-then-is_err-clause-remains
returns-then-is_err-clause-remains g c told = remains_begun (g.D.Disk.past c.args.disk.now) (g.D.Disk.now c.args.disk.now) (λ f. records f ≡ Intact (payloads_in (g.D.Disk.now c.args.disk.now) ++ c.args.payload.now ∷ []))

pub returns-in-Ok-clause-remains : goal.returns-in-Ok-clause-remains
returns-in-Ok-clause-remains g c told =
    let whole = c.requires.whole told in
    let is : c.stage.new.frame.items ≡ tail_of c.args.payload.now = search rules in
    remains_with (payloads_in (g.D.Disk.now c.args.disk.now)) c.args.payload.now whole.small c.requires.small whole.rests whole.end_is (c.as_slice.ensures.value ∙ is) (c.open_behind.ensures.any_moment told) (c.open_behind.ensures.remains told)

pub returns-in-Err-clause-remains : goal.returns-in-Err-clause-remains
returns-in-Err-clause-remains g c told =
    let whole = c.requires.whole told in
    let is : c.stage.new.frame.items ≡ tail_of c.args.payload.now = search rules in
    remains_with (payloads_in (g.D.Disk.now c.args.disk.now)) c.args.payload.now whole.small c.requires.small whole.rests whole.end_is (c.as_slice.ensures.value ∙ is) (c.open_behind.ensures.any_moment told) (c.open_behind.ensures.remains told)
