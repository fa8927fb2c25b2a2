use Rattle.std.proofs.Common.{List, ℤ, subst, sym}
use Rattle.integer_tableau.proofs.EntrySums.{are_entries}
use Rattle.integer_tableau.specs.Entries.{AreEntries, spread}
use Rattle.integer_tableau.specs.declared.program_row.ProgramEntry.{ProgramEntry}
use Rattle.integer_tableau.proofs.program_row.ProgramRow.entries.Goals as goal

pub returns : goal.returns
returns c =
    let r = c.self.inside in
    subst (λ (cs : List ℤ). AreEntries cs c.deref.result.now) c.self.view_is
    (subst (λ (es : List ProgramEntry). AreEntries (spread 0 r.width r.entries.items) es) (sym c.deref.ensures.value) (are_entries r.width r.entries.items c.self.invariant.0))
