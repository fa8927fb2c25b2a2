-- How lists of entries grow, and stay legal.
use Rattle.std.specs.Prelude.{◌≡◌, ◌≤◌, ◌+◌, max, ℕ, false, List, [], ◌∷◌, ◌++◌, length, take, drop, All, Option, Some, None, nat_lt, refl, cond, Bool, true, ◌&&◌}
use Rattle.std.specs.List.{list_any}
use Rattle.std.proofs.Common.{sym, ap, ◌∙◌, subst, arith}
use Rattle.std.proofs.lemmas.Bool.{or_parts}
use Rattle.std.proofs.lemmas.List.{append_assoc, drop-append-le, take-append-le}
use Rattle.std.proofs.lemmas.List.Elements.{All-append}
use Rattle.std.proofs.Math.Seq.{drop-length}
use Rattle.node_tree.specs.declared.branch.Node.{Node}
use Rattle.node_events.specs.declared.event.Event.{Event}
use Rattle.event_core.specs.declared.entry.Entry.{Entry}
use Rattle.event_core.specs.States.{State}
use Rattle.event_core.specs.After.{after}
use Rattle.event_core.specs.Histories.{entries_by, state_from, AreLegalFrom}
use Rattle.node_pool.specs.Free.{SplitsAlone}
use Rattle.node_pool.specs.Halting.{passes_budget, spends}
use Rattle.node_pool.specs.declared.halt.Halt.{Halt}
use Rattle.worker_gate.specs.declared.entry.Opening.{Opening}
use Rattle.worker_gate.specs.declared.entry.PoolEntry.{PoolEntry}
use Rattle.worker_gate.specs.declared.entry.PoolEntry.TheVariants.{Halted}
use Rattle.worker_gate.specs.Entries.{happened, opening_in, events_in, state_in}
use Rattle.worker_gate.specs.Legal.{IsByOneOf, IsRecorded, IsLegalList}
use Rattle.worker_gate.specs.Limits.{cuts_limit}
use Rattle.worker_gate.specs.Kins.{entries_with}
use Rattle.worker_gate.specs.Lemmas.Lists.{events-append, opening-append, opened-append, state-append, happened-append}
use Rattle.event_core.specs.Frames.{is_split}
use Rattle.event_core.specs.Lemmas.Frames.{keeps_frame}
use Rattle.event_core.specs.Lemmas.Running.{legal_both}

-- ---- entries
pub entries-grow : (first stop : ℕ) (h : Option Halt) (history es : List Entry) → first ≤ stop → stop ≤ length history
    → entries_with first h stop (history ++ es) ≡ entries_with first h stop history ++ happened es
entries-grow first stop None history es l m = ap happened (drop-append-le first history es (omega (arith, l, m))) ∙ happened-append (drop first history) es
entries-grow first stop (Some c) history es l m =
    ap (λ (xs : List Entry). happened (drop first xs) ++ Halted c ∷ happened (drop stop (history ++ es))) (take-append-le stop history es m)
    ∙ ap (λ (xs : List PoolEntry). happened (drop first (take stop history)) ++ Halted c ∷ xs) (ap happened (drop-append-le stop history es m) ∙ happened-append (drop stop history) es)
    ∙ sym (append_assoc (happened (drop first (take stop history))) (Halted c ∷ happened (drop stop history)) (happened es))

take-all : {X : Type 0} (xs : List X) → take (length xs) xs ≡ xs
take-all [] = refl
take-all (x ∷ xs) = ap (λ ys. x ∷ ys) (take-all xs)

pub entries-halt : (first stop : ℕ) (c : Halt) (history : List Entry) → entries_with first (Some c) (length history) history ≡ entries_with first None stop history ++ Halted c ∷ []
entries-halt first stop c history =
    ap (λ (xs : List Entry). happened (drop first xs) ++ Halted c ∷ happened (drop (length history) history)) (take-all history)
    ∙ ap (λ (xs : List Entry). happened (drop first history) ++ Halted c ∷ happened xs) (drop-length history)

-- ---- nodes
-- one event
event_within : (budget : ℕ) (s : State) (o : Option ℕ) (e : Event) → passes_budget budget (length s.nodes) e ≡ false → length (after s o e).nodes ≤ max budget (length s.nodes)
event_within budget s o e h = step (is_split e) (keeps_frame s o e).node_count h
  where
    few : (m n : ℕ) → m ≡ n + 2 → nat_lt budget (n + 2) ≡ false → m ≤ max budget n
    few m n e f = grind arith

    same : (m n : ℕ) → m ≡ n + 0 → m ≤ max budget n
    same m n e = grind arith

    step : (b : Bool) → length (after s o e).nodes ≡ length s.nodes + cond b 2 0 → (b && nat_lt budget (length s.nodes + 2)) ≡ false → length (after s o e).nodes ≤ max budget (length s.nodes)
    step true n w = few (length (after s o e).nodes) (length s.nodes) n w
    step false n w = same (length (after s o e).nodes) (length s.nodes) n

-- events that split no node
unsplit : (s : State) (o : Option ℕ) (es : List Event) → list_any is_split es ≡ false → length (state_from s (entries_by o es)).nodes ≡ length s.nodes
unsplit s o [] h = refl
unsplit s o (e ∷ es) h =
    let k = or_parts (is_split e) (list_any is_split es) h in
    unsplit (after s o e) o es k.1 ∙ ap (λ (ns : List Node). length ns) ((keeps_frame s o e).nodes k.0)

-- a list of events, where a split is alone
pub nodes_within : (budget : ℕ) (s : State) (o : Option ℕ) (es : List Event) → SplitsAlone es → spends budget (length s.nodes) es ≡ false → length (state_from s (entries_by o es)).nodes ≤ max budget (length s.nodes)
nodes_within budget s o es alone h = step (list_any is_split es) refl
  where
    one : (fs : List Event) → length fs ≡ 1 → spends budget (length s.nodes) fs ≡ false → length (state_from s (entries_by o fs)).nodes ≤ max budget (length s.nodes)
    one [] size k = absurd (omega (arith, size))
    one (e ∷ []) size k = event_within budget s o e (or_parts (passes_budget budget (length s.nodes) e) false k).0
    one (e ∷ f ∷ fs) size k = absurd (omega (arith, size))

    same : (m n : ℕ) → m ≡ n → m ≤ max budget n
    same m n e = grind arith

    step : (b : Bool) → list_any is_split es ≡ b → length (state_from s (entries_by o es)).nodes ≤ max budget (length s.nodes)
    step true e = one es (alone e) h
    step false e = same (length (state_from s (entries_by o es)).nodes) (length s.nodes) (unsplit s o es e)

-- one after the other

-- ---- legal lists
module _ (list own : List PoolEntry) (legal : IsLegalList list) where
  pub still_legal : AreLegalFrom (state_in list) (events_in own) → All (IsByOneOf (opening_in list).workers) (events_in own)
      → length (state_from (state_in list) (events_in own)).cuts ≤ cuts_limit list
      → length (state_from (state_in list) (events_in own)).nodes ≤ max (opening_in list).budget (length (opening_in list).state.state.nodes)
      → IsLegalList (list ++ own)
  still_legal events workers cuts nodes = record {
    opened = opened-append list own legal.opened;
    recorded = subst (λ (o : Opening). IsRecorded o.state) (sym same) legal.recorded;
    events =
        subst (λ (o : Opening). AreLegalFrom o.state.state (events_in (list ++ own))) (sym same)
        (subst (λ (es : List Entry). AreLegalFrom (opening_in list).state.state es) (sym (events-append list own)) (legal_both (opening_in list).state.state (events_in list) (events_in own) legal.events events));
    workers =
        subst (λ (o : Opening). All (IsByOneOf o.workers) (events_in (list ++ own))) (sym same)
        (subst (λ (es : List Entry). All (IsByOneOf (opening_in list).workers) es) (sym (events-append list own)) (All-append (IsByOneOf (opening_in list).workers) (events_in list) (events_in own) legal.workers workers));
    few_cuts =
        subst (λ (o : Opening). length (state_in (list ++ own)).cuts ≤ max o.cuts (length o.state.state.cuts)) (sym same)
        (subst (λ (s : State). length s.cuts ≤ cuts_limit list) (sym (state-append list own legal.opened)) cuts);
    few_nodes =
        subst (λ (o : Opening). length (state_in (list ++ own)).nodes ≤ max o.budget (length o.state.state.nodes)) (sym same)
        (subst (λ (s : State). length s.nodes ≤ max (opening_in list).budget (length (opening_in list).state.state.nodes)) (sym (state-append list own legal.opened)) nodes);
  }
    where
      same : opening_in (list ++ own) ≡ opening_in list
      same = opening-append list own legal.opened
