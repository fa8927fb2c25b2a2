-- Lemmas: what was found of a node, while others do something.
use Rattle.std.specs.Prelude.{◌≡◌, ◌<◌, ◌≤◌, ℕ, true, List, [], ◌∷◌, ◌++◌, length, Option, Some, None}
use Rattle.std.proofs.Common.{sym, ap, ◌∙◌, subst, arith}
use Rattle.std.proofs.lemmas.List.{append-nil, length-append, take-append-le}
use Rattle.std.proofs.lemmas.List.Elements.{All-weaker}
use Rattle.fraction.specs.Rational.{ℚ}
use Rattle.problem_box.specs.declared.span.Span.{Span}
use Rattle.problem.specs.declared.row.Row.{Row}
use Rattle.problem.specs.Linear.{Multipliers, Point}
use Rattle.problem.specs.Problem.{Problem}
use Rattle.node_tree.specs.Lemmas.Splitting.{splits_share}
use Rattle.node_events.specs.declared.event.Event.{Event}
use Rattle.node_events.specs.declared.event.Event.TheVariants.{Claim, Release, Cut as CutEvent, Offer, Split, Close}
use Rattle.node_events.specs.declared.proof.Proof.{Proof}
use Rattle.node_events.specs.declared.reason.Reason.{Reason}
use Rattle.node_events.specs.declared.reason.Reason.TheVariants.{Fractional, Cramped, Stalled}
use Rattle.derivation_book.specs.declared.cut.Cut.{Cut}
use Rattle.derivation_book.specs.Rounded.{rounded_row}
use Rattle.derivation_book.specs.Legal.{is_legal_proof, IsAtMost}
use Rattle.derivation_book.specs.Lemmas.Deciding.{decides-legal}
use Rattle.derivation_book.specs.Lemmas.Staying.{still_rounded, still_legal, same_cutoff}
use Rattle.dual_simplex.specs.Answers.{answer}
use Rattle.dual_simplex.specs.Meaning.{IsOptimal}
use Rattle.event_core.specs.States.{State, tree_of, box_of, cutoff}
use Rattle.event_core.specs.After.{after, after_cut}
use Rattle.event_core.specs.Histories.{IsLegal}
use Rattle.event_core.specs.Lemmas.Passing.{split_passed}
use Rattle.event_core.specs.Lemmas.Ended.{left_within, leaves-length}
use Rattle.event_core.specs.Lemmas.Sounding.{IsKept, is_improvement, better_cutoff}
use Rattle.expand.specs.declared.finding.Finding.{Finding}
use Rattle.expand.specs.declared.finding.Finding.TheVariants.{Cuts, Shut, Whole, Solved, Loose}
use Rattle.expand.specs.Findings.{HasRow, IsOfRun, IsTrueFinding}
use Rattle.problem.specs.Directions.{aim_at}

-- ---- more cuts, and a smaller cutoff
module _ (p : Problem) (cs more : List Cut) (box : List Span) (old lower : Option ℚ) (at_most : IsAtMost lower old) where
  longer : (k : ℕ) → k ≤ length cs → k ≤ length (cs ++ more)
  longer k h = omega (arith, h, length-append cs more)

  still_row : (mult : Multipliers) → HasRow p cs mult → HasRow p (cs ++ more) mult
  still_row mult h = (h.0, still_rounded p cs more mult h.0 h.1)

  still_shut : (proof : Proof) → is_legal_proof p cs box old proof ≡ true → is_legal_proof p (cs ++ more) box lower proof ≡ true
  still_shut proof e = (decides-legal p (cs ++ more) box lower proof).1 (still_legal p cs more box old lower proof at_most ((decides-legal p cs box old proof).0 e))

  still_run : (r : Reason) → IsOfRun p cs box r → IsOfRun p (cs ++ more) box r
  still_run (Fractional k x) h = h
  still_run (Cramped k pivots) h = (longer k h.0, ap (λ ds. answer p ds box) (take-append-le k cs more h.0) ∙ h.1)
  still_run (Stalled k) h = (longer k h.0, ap (λ ds. answer p ds box) (take-append-le k cs more h.0) ∙ h.1)

  pub still_found : (f : Finding) → IsTrueFinding p cs box old f → IsTrueFinding p (cs ++ more) box lower f
  still_found (Cuts mults) h = record { some = h.some; few = h.few; rows = All-weaker (HasRow p cs) (HasRow p (cs ++ more)) still_row mults h.rows }
  still_found (Shut proof) h = still_shut proof h
  still_found (Whole x) h = h
  still_found (Solved k x mult v column) h = record {
    nonempty = h.nonempty;
    few_cuts = longer k h.few_cuts;
    optimal = subst (λ (ds : List Cut). IsOptimal p ds box x mult v) (sym (take-append-le k cs more h.few_cuts)) h.optimal;
    fractional = h.fractional;
  }
  still_found (Loose reason j b) h = record { nonempty = h.nonempty; run = still_run reason h.run; middle = h.middle }

-- ---- events
-- it holds at the node
abbrev pub HoldsAt : ℕ → Finding → State → Type 0
HoldsAt node f s = IsTrueFinding s.problem s.cuts (box_of s node) (cutoff s) f

found_cut : (node : ℕ) (f : Finding) (s : State) (mult : Multipliers) (o : Option Row) → HoldsAt node f s → HoldsAt node f (after_cut s mult o)
found_cut node f s mult None h = h
found_cut node f s mult (Some r) h = still_found s.problem s.cuts (record { row = r; mult = mult } ∷ []) (box_of s node) (cutoff s) (cutoff s) (same_cutoff (cutoff s)) f h

found_offer : (node : ℕ) (f : Finding) (s : State) (o : Option ℕ) (x : Point) → IsLegal s o (Offer x) → HoldsAt node f s → HoldsAt node f (after s o (Offer x))
found_offer node f s o x l h =
    let lower = better_cutoff s.incumbent (aim_at s.problem x) (is_improvement s o x l).better in
    subst (λ (cs : List Cut). IsTrueFinding s.problem cs (box_of s node) (Some (aim_at s.problem x)) f) (append-nil s.cuts)
    (still_found s.problem s.cuts [] (box_of s node) (cutoff s) (Some (aim_at s.problem x)) lower f h)

-- what was found of a node that is there holds after each legal event
pub found_after : (node : ℕ) (f : Finding) (s : State) (o : Option ℕ) (e : Event) → IsKept s → node < length s.nodes → IsLegal s o e → HoldsAt node f s → HoldsAt node f (after s o e)
found_after node f s o (Claim i) k n l h = h
found_after node f s o (Release i) k n l h = h
found_after node f s o (CutEvent mult) k n l h = found_cut node f s mult (rounded_row s.problem s.cuts mult) h
found_after node f s o (Offer x) k n l h = found_offer node f s o x l h
found_after node f s o (Split i j b r) k n l h =
    let there = left_within s.ended i (split_passed s o i j b r l.admitted).opened in
    let share = splits_share (tree_of s) k.tree i j b (omega (arith, there, leaves-length s.ended s.nodes k.leaves)) in
    subst (λ (box : List Span). IsTrueFinding s.problem s.cuts box (cutoff s) f) (sym (share.box_kept node n)) h
found_after node f s o (Close i proof) k n l h = h
