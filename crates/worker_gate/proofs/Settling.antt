-- How a finding settles a node, by a pool's list.
use Rattle.std.specs.Prelude.{◌≡◌, ◌≤◌, ◌+◌, ◌-◌, ℕ, true, List, [], ◌∷◌, length, map, take, Some, Result, Ok, Err, IfOk, refl}
use Rattle.std.specs.declared.alloc.AllocError.{AllocError}
use Rattle.std.proofs.Common.{sym, ap, ◌∙◌, subst, arith}
use Rattle.std.proofs.lemmas.List.{length-take}
use Rattle.problem_box.specs.declared.span.Span.{Span}
use Rattle.problem.specs.Linear.{Multipliers}
use Rattle.node_events.specs.declared.event.Event.TheVariants as event
use Rattle.node_tree.specs.Nodes.{Tree}
use Rattle.node_tree.specs.Paths.{box_at}
use Rattle.event_core.specs.States.{State, box_of, cutoff, is_open}
use Rattle.event_core.specs.After.{after}
use Rattle.event_core.specs.Histories.{state_from, AreLegalFrom}
use Rattle.event_core.specs.Lemmas.Frames.{cuts_after}
use Rattle.expand.specs.declared.finding.Finding.{Finding}
use Rattle.expand.specs.declared.finding.Finding.TheVariants.{Cuts, Shut, Whole, Solved, Loose}
use Rattle.expand.specs.declared.settlement.Settlement.{Settlement}
use Rattle.expand.specs.declared.settlement.Settlement.TheVariants.{Separated, Closed, Improved, Branched}
use Rattle.expand.specs.Findings.{IsTrueFinding}
use Rattle.expand.specs.Laws.{entries_of}
use Rattle.expand.specs.Settling.{settled}
use Rattle.expand.specs.Settlements.{events_of, IsSettlement}
use Rattle.expand.specs.Lemmas.Events.{settlement_legal}
use Rattle.expand.specs.Lemmas.Rooms.{IsNotSeparated, without_cuts}
use Rattle.worker_gate.specs.declared.entry.PoolEntry.{PoolEntry}
use Rattle.worker_gate.specs.Entries.{opening_in, state_in}
use Rattle.worker_gate.specs.Legal.{IsLegalList}
use Rattle.worker_gate.specs.Limits.{cuts_limit, KeepsToLimit}
use Rattle.worker_gate.specs.Conditions.{HoldsNode, IsFound}
use Rattle.worker_gate.specs.Lemmas.Staying.{kept_in}
use Rattle.worker_gate.proofs.Asking.{is_open_held}

-- ---- the limit on cuts
no_cuts_fit : (at : List PoolEntry) (g : Settlement) → IsNotSeparated g → KeepsToLimit at g
no_cuts_fit at (Separated mults) n = absurd (n mults refl)
no_cuts_fit at (Closed proof) n = tt
no_cuts_fit at (Improved x proof) n = tt
no_cuts_fit at (Branched b) n = tt

first_fit : (limit made more most : ℕ) → limit ≤ most → made ≤ most → more ≤ limit - made → made + more ≤ most
first_fit limit made more most l m h = omega (arith, l, m, h)

fits : (at : List PoolEntry) (box : List Span) (f : Finding) → length (state_in at).cuts ≤ cuts_limit at → KeepsToLimit at (settled (state_in at) box (opening_in at).cuts f)
fits at box (Cuts mults) few =
    let n = length-take ((opening_in at).cuts - length (state_in at).cuts) mults in
    first_fit (opening_in at).cuts (length (state_in at).cuts) (length (take ((opening_in at).cuts - length (state_in at).cuts) mults)) (cuts_limit at) (grind arith) few (grind (arith, n))
fits at box (Shut proof) few = tt
fits at box (Whole x) few = no_cuts_fit at _ (without_cuts (state_in at) box (opening_in at).cuts (Whole x) (λ mults e. cc))
fits at box (Solved k x mult v column) few = no_cuts_fit at _ (without_cuts (state_in at) box (opening_in at).cuts (Solved k x mult v column) (λ mults e. cc))
fits at box (Loose reason j b) few = no_cuts_fit at _ (without_cuts (state_in at) box (opening_in at).cuts (Loose reason j b) (λ mults e. cc))

-- ---- the settlement
pub same_box : (s : State) (t : Tree) (node : ℕ) (box : List Span) → t.root ≡ s.problem.spans → t.nodes ≡ s.nodes → box ≡ box_at t node → box ≡ box_of s node
same_box s t node box root nodes e = e ∙ (λ i. box_at (record { root = root i; nodes = nodes i; room = 0 }) node)

-- by this state, box and limit, which are those of the list
module _ (at : List PoolEntry) (legal : IsLegalList at) (node : ℕ) (f : Finding) (s : State) (there : s ≡ state_in at) (box : List Span) (area : box ≡ box_of s node) (limit : ℕ) (cuts : limit ≡ (opening_in at).cuts) where
  -- the finding is true there
  pub found_there : IsFound node f at → IsTrueFinding s.problem s.cuts box (cutoff s) f
  found_there h =
      subst (λ (b : List Span). IsTrueFinding s.problem s.cuts b (cutoff s) f) (sym area) (subst (λ (t : State). IsTrueFinding t.problem t.cuts (box_of t node) (cutoff t) f) (sym there) h)

  of_list : settled s box limit f ≡ settled (state_in at) (box_of (state_in at) node) (opening_in at).cuts f
  of_list =
      ap (λ b. settled s b limit f) area ∙ ap (λ (t : State). settled t (box_of t node) limit f) there ∙ ap (λ n. settled (state_in at) (box_of (state_in at) node) n f) cuts

  pub settled_there : (r : Result Settlement AllocError) → IfOk r (λ g. g ≡ settled s box limit f) → IfOk r (λ g. g ≡ settled (state_in at) (box_of (state_in at) node) (opening_in at).cuts f)
  settled_there (Ok g) e = e ∙ of_list
  settled_there (Err x) e = tt

  pub legal_there : (r : Result Settlement AllocError) → IfOk r (λ g. IsSettlement s box g) → IfOk r (λ g. IsSettlement (state_in at) (box_of (state_in at) node) g)
  legal_there (Ok g) e = subst (λ (t : State). IsSettlement t (box_of t node) g) there (subst (λ (b : List Span). IsSettlement s b g) area e)
  legal_there (Err x) e = tt

  pub fits_there : (r : Result Settlement AllocError) → IfOk r (λ g. g ≡ settled s box limit f) → IfOk r (λ g. KeepsToLimit at g)
  fits_there (Ok g) e = subst (λ (k : Settlement). KeepsToLimit at k) (sym (e ∙ of_list)) (fits at (box_of (state_in at) node) f legal.few_cuts)
  fits_there (Err x) e = tt

-- ---- events
-- each cut makes one more at most
cuts_more : (s : State) (w : ℕ) (mults : List Multipliers) → length (state_from s (entries_of w (map event.Cut mults))).cuts ≤ length s.cuts + length mults
cuts_more s w [] = omega arith
cuts_more s w (m ∷ ms) = omega (arith, cuts_more (after s (Some w) (event.Cut m)) w ms, (cuts_after s (Some w) (event.Cut m)).1)

module _ (at : List PoolEntry) (legal : IsLegalList at) (w node : ℕ) where
  abbrev s : State
  s = state_in at

  -- the events keep to the limit on cuts
  pub cuts_kept : (g : Settlement) → KeepsToLimit at g → length (state_from s (entries_of w (events_of node g))).cuts ≤ cuts_limit at
  cuts_kept (Separated mults) few = omega (arith, few, cuts_more s w mults)
  cuts_kept (Closed proof) few = legal.few_cuts
  cuts_kept (Improved x proof) few = legal.few_cuts
  cuts_kept (Branched b) few = legal.few_cuts

  module _ (here : HoldsNode w node at) where
    pub opened_here : is_open s node ≡ true
    opened_here = is_open_held s w node (kept_in at legal) here

    -- they are legal, one after another
    pub events_here : (g : Settlement) → IsSettlement s (box_of s node) g → AreLegalFrom s (entries_of w (events_of node g))
    events_here g settles = settlement_legal s w node g opened_here here settles
