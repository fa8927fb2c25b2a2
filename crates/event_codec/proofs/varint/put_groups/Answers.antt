use Rattle.std.proofs.Common.{◌++◌, ◌/◌, ◌∙◌, ap, List, ℕ}
use Rattle.event_codec.specs.Varints.{varint_code}
use Rattle.event_codec.proofs.Varints.{put_more, put_last}
use Rattle.event_codec.proofs.varint.put_groups.Goals as goal

pub loop-rest-preserved : goal.loop-rest-preserved
loop-rest-preserved c =
    ap (λ (l : List ℕ). l ++ varint_code (c.loop-rest.rest / 128)) c.in_ok-push.ensures.items
    ∙ put_more c.args.out.now.items c.loop-rest.out.items (varint_code c.args.number) c.loop-rest.rest c.loop-rest-test.true c.loop-rest.invariant

pub returns : goal.returns
returns c = c.in_ok-push-2.ensures.items ∙ put_last c.args.out.now.items c.loop-rest.out.items (varint_code c.args.number) c.loop-rest.rest c.loop-rest-test.false c.loop-rest.invariant
