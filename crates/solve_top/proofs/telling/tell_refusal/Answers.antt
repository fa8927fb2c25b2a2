use Rattle.std.specs.Prelude.{◌≡◌, Err, refl}
use Rattle.std.proofs.Common.{sym, subst}
use Rattle.solve_top.specs.declared.outcome.Refusal.{Refusal}
use Rattle.solve_top.specs.declared.outcome.Refusal.TheVariants as refusal
use Rattle.solve_top.specs.declared.status.Status.{Status}
use Rattle.solve_top.specs.Changes.{SinkChange, sink_change}
use Rattle.solve_top.specs.Statuses.{refused_line}
use Rattle.solve_top.specs.Outcomes.{IsToldAs}
use Rattle.solve_top.proofs.telling.tell_refusal.Goals as goal

told_as : (out : SinkChange) (q r : Refusal) (s : Status) → q ≡ r → IsToldAs out (Err r) s → IsToldAs out (Err q) s
told_as out q r s e h = subst (λ (x : Refusal). IsToldAs out (Err x) s) (sym e) h

pub returns-in-Model : goal.returns-in-Model
returns-in-Model g c =
    told_as (sink_change g.O.Sink.tells g.O.Sink.taken g.O.Sink.kept g.O.Sink.faults c.args.out.now c.tell_line.new.out) c.args.refusal (refusal.Model c.in-Model.line c.in-Model.kind) _ c.in-Model.is (c.tell_line.ensures (refused_line c.in-Model.line c.in-Model.kind) c.refused_text.ensures)

pub returns-in-Read : goal.returns-in-Read
returns-in-Read g c =
    told_as (sink_change g.O.Sink.tells g.O.Sink.taken g.O.Sink.kept g.O.Sink.faults c.args.out.now c.tell-in-Read.new.out) c.args.refusal refusal.Read _ c.in-Read.is (refl, c.tell-in-Read.ensures)

pub returns-in-Disk : goal.returns-in-Disk
returns-in-Disk g c =
    told_as (sink_change g.O.Sink.tells g.O.Sink.taken g.O.Sink.kept g.O.Sink.faults c.args.out.now c.tell-in-Disk.new.out) c.args.refusal refusal.Disk _ c.in-Disk.is (refl, c.tell-in-Disk.ensures)

pub returns-in-Sink : goal.returns-in-Sink
returns-in-Sink g c =
    told_as (sink_change g.O.Sink.tells g.O.Sink.taken g.O.Sink.kept g.O.Sink.faults c.args.out.now c.tell_no_place.new.out) c.args.refusal refusal.Sink _ c.in-Sink.is c.tell_no_place.ensures
