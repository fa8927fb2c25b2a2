use Rattle.std.proofs.Common.{refl, sym, ap, ◌∙◌, subst, Option, ℕ, None}
use Rattle.node_journal.specs.History.{KeepsHistory}
use Rattle.node_journal.specs.Whole.{payloads_in}
use Rattle.node_pool.proofs.Crashes.{leaves_sound}
use Rattle.node_pool.proofs.Releasing.{unhalted_since}
use Rattle.node_pool.proofs.Standing.{after_sound}
use Rattle.node_pool.proofs.pool.Pool.make.Goals as goal

pub invariant_of-result : goal.invariant_of-result
invariant_of-result g c =
    let journal = c.args.journal in
    let past = g.D.Disk.past journal.disk in
    let now = g.D.Disk.now journal.disk in
    record {
      listed = c.in-Ok.ensures.nodes;
      room = c.in-Ok.ensures.room;
      few = c.requires.few;
      stands = λ told. after_sound (payloads_in now) c.args.state.history None (c.requires.stands told);
      upgraded = c.requires.upgraded;
      crashes = λ told.
          leaves_sound journal.opened past now c.args.state.history None (subst (λ (f : Option ℕ). KeepsHistory journal.opened past now (payloads_in now) f) c.requires.sound (journal.kept told)) (c.requires.stands told) refl;
      halts = record { sound = c.requires.sound; unchanged = ap (λ d. g.D.Disk.count d) (sym c.disk.ensures) ∙ sym c.faults-faults.ensures };
      released = unhalted_since None _ _ refl;
    }
