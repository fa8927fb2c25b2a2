-- A list of events, applied one after another.
use Rattle.std.specs.Prelude.{◌≡◌, ◌≤◌, ◌+◌, ◌*◌, ℕ, Bool, true, false, cond, List, [], ◌∷◌, ◌++◌, length, Option, Some, None, refl}
use Rattle.std.proofs.Common.{sym, ap, ◌∙◌, arith}
use Rattle.std.proofs.lemmas.List.{append-nil, append_assoc, length_push}
use Rattle.problem.specs.Linear.{Multipliers}
use Rattle.problem.specs.Problem.{Problem}
use Rattle.node_events.specs.declared.event.Event.{Event}
use Rattle.node_events.specs.declared.event.Event.TheVariants.{Claim, Release, Cut, Offer, Split, Close}
use Rattle.derivation_book.specs.declared.cut.Cut.{Cut as MadeCut}
use Rattle.derivation_book.specs.Rounded.{rounded_row}
use Rattle.event_core.specs.declared.entry.Entry.{Entry}
use Rattle.event_core.specs.declared.entry.Holder.{Holder}
use Rattle.event_core.specs.declared.made.Made.{Made}
use Rattle.event_core.specs.States.{State}
use Rattle.event_core.specs.After.{after}
use Rattle.event_core.specs.Frames.{is_split, nodes_made, cut_by, cuts_of}
use Rattle.event_core.specs.Histories.{entries_by}
use Rattle.event_core.specs.Rooms.{Recorded, HasNumbers, HasEntryRoom, HasRoom, HasRoomFor, IsReady, AreReady, LeavesRooms, split_count}
use Rattle.node_tree.specs.Limits.{most_nodes}
use Rattle.event_core.specs.Made.{made_for, made_for_each, cut_added, cuts_with}
use Rattle.event_core.specs.Lemmas.Frames.{keeps_frame}
use Rattle.event_core.specs.Lemmas.Counting.{splits_are}
use Rattle.event_core.specs.Lemmas.Holds.{length-without_hold}
use Rattle.event_core.specs.Lemmas.Running.{after-problem}
use Rattle.event_core.proofs.Applying.{cut_holds}

-- ---- room
numbers_next : (s : State) (e : Event) (es : List Event) → length s.nodes + 2 * split_count (e ∷ es) ≤ most_nodes → HasNumbers s e
numbers_next s (Claim i) es most = tt
numbers_next s (Release i) es most = tt
numbers_next s (Cut mult) es most = tt
numbers_next s (Offer x) es most = tt
numbers_next s (Split i j b reason) es most = omega (arith, most, splits_are (Split i j b reason) es)
numbers_next s (Close i proof) es most = tt

entries_next : (s : State) (n : ℕ) (e : Event) (es : List Event) → length s.holds + 2 * length (e ∷ es) ≤ n → HasEntryRoom s n e
entries_next s n (Claim i) es room = omega (arith, room)
entries_next s n (Release i) es room = tt
entries_next s n (Cut mult) es room = omega (arith, room)
entries_next s n (Offer x) es room = omega (arith, room)
entries_next s n (Split i j b reason) es room = omega (arith, room)
entries_next s n (Close i proof) es room = omega (arith, room)

room_next : (c : Recorded) (e : Event) (es : List Event) → HasRoomFor c.room (e ∷ es) → HasRoom c.room e
room_next c (Claim i) es room = omega (arith, room.holds)
room_next c (Release i) es room = tt
room_next c (Cut mult) es room = omega (arith, room.cuts)
room_next c (Offer x) es room = tt
room_next c (Split i j b reason) es room = let n = splits_are (Split i j b reason) es in (omega (arith, room.splits, n), omega (arith, room.nodes, n))
room_next c (Close i proof) es room = tt

-- the first event is ready
pub ready_next : (c : Recorded) (e : Event) (es : List Event) → AreReady c (e ∷ es) → IsReady c e
ready_next c e es ready = record {
  numbers = numbers_next c.state e es ready.numbers;
  entries = entries_next c.state c.entries e es ready.entries;
  room = room_next c e es ready.room;
}

one_hold : (s : State) (w : Option ℕ) (e : Event) → length (after s w e).holds ≤ length s.holds + 1
one_hold s None (Claim i) = let n = ap (λ (hs : List Holder). length hs) (append-nil s.holds) in omega (arith, n)
one_hold s (Some w) (Claim i) = let n = length_push s.holds (record { worker = w; node = i }) in omega (arith, n)
one_hold s w (Release i) = let n = length-without_hold i s.holds in omega (arith, n)
one_hold s w (Cut mult) = let n = ap (λ (hs : List Holder). length hs) (cut_holds s mult (rounded_row s.problem s.cuts mult)) in omega (arith, n)
one_hold s w (Offer x) = omega arith
one_hold s w (Split i j b reason) = let n = length-without_hold i s.holds in omega (arith, n)
one_hold s w (Close i proof) = let n = length-without_hold i s.holds in omega (arith, n)

two_nodes : (e : Event) → nodes_made e ≡ 2 * cond (is_split e) 1 0
two_nodes e = step (is_split e)
  where
    step : (b : Bool) → cond b 2 0 ≡ 2 * cond b 1 0
    step true = refl
    step false = refl

-- those behind it are ready once it is applied
pub ready_rest : (c d : Recorded) (w : Option ℕ) (e : Event) (es : List Event) → AreReady c (e ∷ es) → d.state ≡ after c.state w e → LeavesRooms c.room e d.room → c.entries ≤ d.entries + 1 → AreReady d es
ready_rest c d w e es ready is left entries = record {
  numbers = omega (arith, ready.numbers, ap (λ (s : State). length s.nodes) is, (keeps_frame c.state w e).node_count, two_nodes e, splits_are e es);
  entries = omega (arith, ready.entries, ap (λ (s : State). length s.holds) is, one_hold c.state w e, entries);
  room = record {
    splits = omega (arith, ready.room.splits, left.splits, splits_are e es, splits_are e []);
    nodes = omega (arith, ready.room.nodes, left.nodes, splits_are e es, splits_are e []);
    cuts = omega (arith, ready.room.cuts, left.cuts);
    holds = omega (arith, ready.room.holds, left.holds);
  };
}

-- ---- what was made
added_same : (s : State) (o : Option Multipliers) → cuts_of s o ≡ cut_added s.problem s.cuts o
added_same s None = refl
added_same s (Some mult) = refl

cuts_follow : (s : State) (w : Option ℕ) (e : Event) → (after s w e).cuts ≡ cuts_with s.problem s.cuts e
cuts_follow s w e = (keeps_frame s w e).cuts ∙ ap (λ (l : List MadeCut). s.cuts ++ l) (added_same s (cut_by e))

-- what was made for the first event is what it needs, and what was made for those behind it is what they need once it is applied
pub record MadeNext (s : State) (w : Option ℕ) (e : Event) (es : List Event) (m : Made) (ms : List Made) : Type 0 where
  pub first : m ≡ made_for s.problem s.cuts e
  pub rest : ms ≡ made_for_each (after s w e).problem (after s w e).cuts es

pub made_next : (s : State) (w : Option ℕ) (e : Event) (es : List Event) (m : Made) (ms : List Made) → m ∷ ms ≡ made_for_each s.problem s.cuts (e ∷ es) → MadeNext s w e es m ms
made_next s w e es m ms h = record {
  first = cc;
  rest = behind ∙ ap (λ (p : Problem). made_for_each p (cuts_with s.problem s.cuts e) es) (sym (after-problem s w e)) ∙ ap (λ (cs : List MadeCut). made_for_each (after s w e).problem cs es) (sym (cuts_follow s w e));
}
  where
    behind : ms ≡ made_for_each s.problem (cuts_with s.problem s.cuts e) es
    behind = cc

-- ---- the history
pub entries_more : (es : List Entry) (w : Option ℕ) (e : Event) (fs : List Event) → (es ++ record { worker = w; event = e } ∷ []) ++ entries_by w fs ≡ es ++ entries_by w (e ∷ fs)
entries_more es w e fs = append_assoc es (record { worker = w; event = e } ∷ []) (entries_by w fs)
