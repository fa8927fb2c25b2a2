use Rattle.std.proofs.Common.{◌≡◌, ◌∙◌, ap, sym, subst, inr, List, ℕ, drop, false}
use Rattle.node_journal.specs.Records.{Intact, is_gate_open}
use Rattle.node_journal.specs.Index.{IsIndexed, ReadsTo}
use Rattle.node_journal.proofs.Steps.{closed, ends}
use Rattle.node_journal.proofs.reading.parse.Goals as goal

pub returns-clause-records : goal.returns-clause-records
returns-clause-records c =
    let same = c.deref-2.ensures.value in
    let is = subst (λ (f : List ℕ). IsIndexed f c.in_ok-gates.gates.places.items c.in_ok-gates.gates.end) same c.in_ok-gates.ensures.indexed in
    let shut = subst (λ (f : List ℕ). is_gate_open (drop c.in_ok-gates.gates.end f) ≡ false) same c.in_ok-gates.ensures.closed in
    closed c.args.file.items c.in_ok-gates.gates.places.items c.in_ok-gates.gates.end is shut ∙ sym (ap Intact c.in_ok-from_gates.ensures.payloads)

pub returns-clause-scanned : goal.returns-clause-scanned
returns-clause-scanned c =
    let same = c.deref-2.ensures.value in
    let is = subst (λ (f : List ℕ). IsIndexed f c.in_ok-gates.gates.places.items c.in_ok-gates.gates.end) same c.in_ok-gates.ensures.indexed in
    let shut = subst (λ (f : List ℕ). is_gate_open (drop c.in_ok-gates.gates.end f) ≡ false) same c.in_ok-gates.ensures.closed in
    record {
      size = c.in_ok-from_gates.ensures.size;
      reads = subst (λ (ps : List (List ℕ)). ReadsTo c.args.file.items ps) (sym c.in_ok-from_gates.ensures.payloads) (inr (ends c.args.file.items c.in_ok-gates.gates.places.items c.in_ok-gates.gates.end is shut));
    }
