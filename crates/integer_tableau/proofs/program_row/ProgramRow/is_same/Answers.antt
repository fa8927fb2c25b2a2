use Rattle.std.proofs.Common.{◌≡◌, ◌==◌, ◌∙◌, ap, sym}
use Rattle.std.specs.Bool.{Decides}
use Rattle.std.specs.Ordering.{int_eq}
use Rattle.std.specs.Prelude.{◌&&◌}
use Rattle.std.proofs.lemmas.Bool.Decides.{Decides-and, Decides-eqb, Decides-int_eq, Decides-like}
use Rattle.std.proofs.lemmas.Slice.Eq.{slice_eq-Decides}
use Rattle.integer_tableau.specs.Entries.{spread}
use Rattle.integer_tableau.specs.declared.program_row.ProgramEntry.{ProgramEntry}
use Rattle.integer_tableau.proofs.program_row.ProgramRow.is_same.Goals as goal

entry_equal : (a b : ProgramEntry) → Decides ((a.place == b.place) && int_eq a.number b.number) (a ≡ b)
entry_equal a b =
    Decides-like _ (λ p. λ i. record { place = p.0 i; number = p.1 i }) (λ e. (ap (λ (e : ProgramEntry). e.place) e, ap (λ (e : ProgramEntry). e.number) e))
    (Decides-and (a.place == b.place) (int_eq a.number b.number) (Decides-eqb a.place b.place) (Decides-int_eq a.number b.number))

pub returns-then-self-other : goal.returns-then-self-other
returns-then-self-other c = λ same.
    let entries = (slice_eq-Decides entry_equal _ _ _ c.eq.ensures).0 same in
    sym c.self.view_is ∙ (λ i. spread 0 (c.if-self-other.true i) (entries i)) ∙ c.other.view_is
