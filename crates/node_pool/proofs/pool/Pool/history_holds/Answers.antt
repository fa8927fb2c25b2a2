use Rattle.std.proofs.Common.{◌≤◌, ℕ, Option, Some, None, Fits, w64, arith, rules}
use Rattle.event_core.specs.States.{State}
use Rattle.node_pool.specs.declared.halt.Halt.{Halt}
use Rattle.node_pool.specs.declared.halt.Halt.TheVariants as halt
use Rattle.node_journal.specs.Whole.{payloads_in}
use Rattle.node_pool.specs.Halting.{IsHalt}
use Rattle.node_pool.proofs.Standing.{journal_sound}
use Rattle.node_pool.proofs.pool.Pool.history_holds.Goals as goal

-- a count that fits its type is never above a later one
risen : (faults budget count : ℕ) (fault : Option ℕ) (s : State) (h : Option Halt) → faults ≤ 18446744073709551615 → IsHalt faults budget count fault s h → faults ≤ count
risen faults budget count fault s None fits h = omega (arith, h.unchanged)
risen faults budget count fault s (Some halt.Memory) fits h = omega (arith, h.unchanged)
risen faults budget count fault s (Some (halt.Disk n e)) fits h = omega (arith, fits, h.counted, h.rose)
risen faults budget count fault s (Some (halt.Budget e)) fits h = omega (arith, h.sound.unchanged)

pub returns-clause-stands : goal.returns-clause-stands
returns-clause-stands g c told sound =
    let now = c.args.self.now in
    journal_sound now.faults now.budget (g.D.Disk.count now.journal.disk) now.journal.fault now.state.state now.state.history sound (payloads_in (g.D.Disk.now now.journal.disk)) now.halt now.halts (now.stands told)

pub returns-clause-rising : goal.returns-clause-rising
returns-clause-rising g c =
    let now = c.args.self.now in
    let f : Fits w64 now.faults = search rules in
    risen now.faults now.budget (g.D.Disk.count now.journal.disk) now.journal.fault now.state.state now.halt (omega (arith, f)) now.halts
