-- The lines and the certificate of a state that is handed back, as those of its search.
use Rattle.std.specs.Prelude.{◌≡◌, ◌↔◌, ◌<◌, ◌+◌, ℕ, zero, suc, eqb, if◌then◌else◌, List, length}
use Rattle.std.proofs.Common.{◌∙◌, ap, sym, subst, arith}
use Rattle.std.proofs.Math.Dec.{eqb-suc-zero}
use Rattle.problem.specs.Best.{IsVoid}
use Rattle.cert_rows.specs.declared.certificate.Cert.{Cert}
use Rattle.cert_rows.specs.declared.certificate.Goal.TheVariants.{Infeas}
use Rattle.cert_rows.specs.Validity.{IsValid}
use Rattle.event_core.specs.States.{State, open_count, best_value}
use Rattle.event_core.specs.Histories.{AreLegal, state_of}
use Rattle.event_core.specs.Rooms.{Recorded}
use Rattle.core_search.specs.Endings.{AdmitsSplit, IsSpent}
use Rattle.core_search.specs.Laws.{SplitsHavePoints}
use Rattle.cert_merge.specs.Merged.{merged, claim_of}
use Rattle.cert_tree.specs.Laws.{IsTrueClaim, MergedIsValid, MergedIsTrue, InfeasibilityIsExact}
use Rattle.vipr_print.specs.Spelling.{text_of}
use Rattle.vipr_print.specs.Unique.{SpellsOnly}
use Rattle.solve_top.specs.Changes.{SinkChange, Takes, TakesPrefix, KeepsAll}
use Rattle.solve_top.specs.Output.{answer_line, answer_lines, finished_lines, spent_lines}
use Rattle.solve_top.specs.declared.request.Request.{Request}
use Rattle.solve_top.specs.declared.request.Request.TheVariants.{Solve, Resume, Show, Drill}
use Rattle.solve_top.specs.Searches.{search_of, HasFinished, HasSpent, HasTooFewNodes, IsSolved, certificate_text, lines_at, lines_due, answer_due, lines_for}

-- ---- lines
while_none : (n : ℕ) (a b : List ℕ) → n ≡ 0 → (if eqb n 0 then a else b) ≡ a
while_none n a b h = rw h

while_open : (n : ℕ) (a b : List ℕ) → 0 < n → (if eqb n 0 then a else b) ≡ b
while_open zero a b h = absurd (omega arith)
while_open (suc n) a b h = rw eqb-suc-zero

-- ---- what is handed back
module _ (r : Recorded) (stands : r.state ≡ state_of r.state.problem r.history) where
  due_at : lines_at r.state ≡ lines_due (search_of r)
  unfolding lines_due
  due_at = ap lines_at stands

  pub spent_lines_are : (text : List ℕ) (nodes cuts open_nodes : ℕ) → nodes ≡ length r.state.nodes → cuts ≡ length r.state.cuts → open_nodes ≡ open_count r.state
      → 0 < open_count r.state → text ≡ spent_lines nodes cuts open_nodes → text ≡ lines_due (search_of r)
  spent_lines_are text nodes cuts open_nodes a b d left h =
      h ∙ ap (λ n. spent_lines n cuts open_nodes) a ∙ ap (λ n. spent_lines (length r.state.nodes) n open_nodes) b
      ∙ ap (λ n. spent_lines (length r.state.nodes) (length r.state.cuts) n) d ∙ sym (while_open (open_count r.state) _ _ left) ∙ due_at

  pub has_spent : (budget : ℕ) → IsSpent budget r.state → HasSpent budget (search_of r)
  has_spent budget h = record { splits = subst AdmitsSplit stands h.splits; full = subst (λ (t : State). budget < length t.nodes + 2) stands h.full }

  pub few_nodes : (budget : ℕ) → AreLegal r.state.problem r.history → SplitsHavePoints r.state.problem → IsSpent budget r.state → HasTooFewNodes r.state.problem budget
  few_nodes budget legal law h =
      let s : HasSpent budget (search_of r) = has_spent budget h in omega (arith, law r.history legal s.splits, s.full)

  -- ---- of a search that is finished
  module _ (c : Cert) (legal : AreLegal r.state.problem r.history) (ended : open_count r.state ≡ 0) (merges : c ≡ merged r.state.problem r.history) where
    pub has_finished : HasFinished (search_of r)
    has_finished = record { legal = legal; none_open = ap open_count (sym stands) ∙ ended }

    claim_is : c.claim ≡ claim_of (best_value r.state)
    claim_is = ap (λ (d : Cert). d.claim) merges ∙ ap (λ (t : State). claim_of (best_value t)) (sym stands)

    answer_lines_are : (text : List ℕ) (nodes cuts : ℕ) → nodes ≡ length r.state.nodes → cuts ≡ length r.state.cuts
        → text ≡ answer_lines c.claim nodes cuts → text ≡ lines_due (search_of r)
    answer_lines_are text nodes cuts a b h =
        h ∙ ap (λ n. answer_lines c.claim n cuts) a ∙ ap (λ n. answer_lines c.claim (length r.state.nodes) n) b
        ∙ ap (λ g. answer_lines g (length r.state.nodes) (length r.state.cuts)) claim_is ∙ sym (while_none (open_count r.state) _ _ ended) ∙ due_at

    answer_is : (text : List ℕ) → text ≡ answer_line c.claim → text ≡ answer_due (search_of r)
    unfolding answer_due
    answer_is text h = h ∙ ap answer_line claim_is ∙ ap (λ (t : State). answer_line (claim_of (best_value t))) stands

    pub finished_lines_are : (q : Request) (text : List ℕ) (nodes cuts : ℕ) → nodes ≡ length r.state.nodes → cuts ≡ length r.state.cuts
        → text ≡ finished_lines q c.claim nodes cuts → text ≡ lines_for q (search_of r)
    finished_lines_are (Solve limits upper) text nodes cuts a b h = answer_lines_are text nodes cuts a b h
    finished_lines_are (Resume limits) text nodes cuts a b h = answer_lines_are text nodes cuts a b h
    finished_lines_are Show text nodes cuts a b h = answer_lines_are text nodes cuts a b h
    finished_lines_are (Drill seed limits) text nodes cuts a b h = answer_is text h

    pub valid_end : MergedIsValid r.state.problem → IsValid r.state.problem c
    valid_end law = subst (IsValid r.state.problem) (sym merges) (law r.history has_finished)

    pub prefix_end : (cert : SinkChange) → TakesPrefix cert (text_of c) → TakesPrefix cert (certificate_text (search_of r))
    unfolding certificate_text
    prefix_end cert h = subst (λ (d : Cert). TakesPrefix cert (text_of d)) merges h

    pub solved_end : (cert : SinkChange) → MergedIsValid r.state.problem → MergedIsTrue r.state.problem → InfeasibilityIsExact r.state.problem
        → SpellsOnly c → Takes cert (text_of c) → KeepsAll cert → IsSolved (search_of r) cert
    solved_end cert valid true_claim exact only spells lasts = record {
      certificate = c;
      finished = has_finished;
      merges = merges;
      spells = spells;
      only = only;
      valid = valid_end valid;
      claim = subst (λ (d : Cert). IsTrueClaim r.state.problem d.points d.claim) (sym merges) (true_claim r.history has_finished);
      exact = subst (λ (d : Cert). IsVoid r.state.problem ↔ (d.claim ≡ Infeas)) (sym merges) (exact r.history has_finished);
      lasts = lasts;
    }
