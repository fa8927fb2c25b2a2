-- What calls of a pool make of its list.
use Rattle.std.specs.Prelude.{◌≡◌, ◌<◌, ℕ, Bool, true, false, not, ◌||◌, List, [], ◌∷◌, length, Option, Some, None, is_some, unwrap_or, option_copied, Ok, refl}
use Rattle.std.proofs.Common.{Bor, sym, ap, ◌∙◌, subst, arith}
use Rattle.std.proofs.lemmas.Bool.{and_parts}
use Rattle.std.proofs.lemmas.List.{append-nil}
use Rattle.outside.specs.declared.disk.Disk.{Ghosts}
use Rattle.node_tree.specs.declared.branch.Node.{Node}
use Rattle.node_events.specs.declared.event.Event.TheVariants as event
use Rattle.event_core.specs.declared.admit.Admit.TheVariants.{Yes, NotOpen, NotYours}
use Rattle.event_core.specs.States.{State, is_open}
use Rattle.event_core.specs.Holds.{is_held, is_holding, is_yours, holds_node}
use Rattle.event_core.specs.Histories.{IsLegal}
use Rattle.event_core.specs.Lemmas.Passing.{passing}
use Rattle.event_core.specs.Lemmas.Ended.{left_within, leaves-length}
use Rattle.event_core.specs.Lemmas.Sounding.{IsKept as IsKeptState}
use Rattle.node_pool.specs.Applied.{Applies, AppliesNothing}
use Rattle.node_pool.specs.Free.{is_free}
use Rattle.node_pool.specs.Answers.{IsClaim}
use Rattle.node_pool.specs.declared.halt.Halt.{Halt}
use Rattle.node_pool.specs.declared.halt.Halt.TheVariants as halt
use Rattle.node_pool.specs.declared.answers.Claim.{Claim}
use Rattle.node_pool.specs.declared.answers.Claim.TheVariants as claim
use Rattle.node_pool.specs.declared.pool.Pool.{Pool}
use Rattle.worker_gate.specs.declared.entry.PoolEntry.{PoolEntry}
use Rattle.worker_gate.specs.Entries.{opening_in, halt_in, state_in}
use Rattle.worker_gate.specs.Conditions.{HoldsNone, HoldsNode}
use Rattle.worker_gate.specs.Gates.{Makes}
use Rattle.worker_gate.specs.Calls.{entry_by, claimed, Claims, Releases, Halts, halting}
use Rattle.worker_gate.specs.Kins.{list_of, IsKept}
use Rattle.worker_gate.specs.Lemmas.Holding.{held_open}
use Rattle.worker_gate.specs.Lemmas.Staying.{kept_in}
use Rattle.worker_gate.proofs.Following.{Lasts, Follows, follows_nothing, follows_all}
use Rattle.worker_gate.proofs.Keeping.{several_kept, list_grows, events_kept, halt_kept, list_halts}
use Rattle.worker_gate.proofs.Making.{made_nothing, made_events, made_halt}

-- ---- one event
neither : (a b : Bool) → not a ≡ true → b ≡ false → not (a || b) ≡ true
neither true b e f = cc
neither false b e f = ap not f

claim_legal : (s : State) (w n : ℕ) → is_free s n ≡ true → is_holding s w ≡ false → IsLegal s (Some w) (event.Claim n)
claim_legal s w n free none =
    let k = and_parts (is_open s n) (not (is_held s n)) free in
    record {
      admitted = passing (is_open s n) NotOpen _ k.0 (passing (not (is_held s n || is_holding s w)) NotYours Yes (neither (is_held s n) (is_holding s w) k.1 none) refl);
      stands = tt;
    }

-- a node that is held is open, and is there
pub is_open_held : (s : State) (w node : ℕ) → IsKeptState s → holds_node s w node ≡ true → is_open s node ≡ true
is_open_held s w node k h = held_open w node s.ended s.holds k.holds_open h

pub is_there : (s : State) (w node : ℕ) → IsKeptState s → holds_node s w node ≡ true → node < length s.nodes
is_there s w node k h = let l = left_within s.ended node (is_open_held s w node k h) in omega (arith, l, leaves-length s.ended s.nodes k.leaves)

release_legal : (s : State) (w node : ℕ) → IsKeptState s → holds_node s w node ≡ true → IsLegal s (Some w) (event.Release node)
release_legal s w node k h = record {
  admitted = passing (is_open s node) NotOpen _ (is_open_held s w node k h) (passing (is_yours s (Some w) node) NotYours Yes h refl);
  stands = tt;
}

-- ---- calls
module _ {D : Type 0} {d : Ghosts D} (first a : Pool D d) (count stop cuts workers w : ℕ) (kept : IsKept first a count stop cuts workers) where
  abbrev list : List PoolEntry
  list = list_of first a stop cuts workers

  -- nothing is applied
  module _ (b : Pool D d) (f : Follows a b []) (halt : b.halt ≡ a.halt) where
    pub same_kept : IsKept first b count stop cuts workers
    same_kept = events_kept first a b count stop cuts workers kept [] f halt tt (λ i x l. absurd (omega (arith, l))) kept.legal.few_cuts kept.legal.few_nodes

    pub same_list : list_of first b stop cuts workers ≡ list
    same_list = list_grows first a b count stop cuts workers kept [] f halt ∙ append-nil list

  -- a claim
  abbrev IsClaimed : Pool D d → Claim → Type 0
  IsClaimed b r = IsKept first b count stop cuts workers × Makes w list (list_of first b stop cuts workers) (Claims w (Ok r) list)

  module _ (none : HoldsNone w list) (member : w < workers) (b : Pool D d) (lasts : Lasts a b) (halt : b.halt ≡ a.halt) where
    unclaimed : (r : Claim) → AppliesNothing a.state b.state → IsClaim (halt_in list) (state_in list) r → [] ≡ claimed w r → IsClaimed b r
    unclaimed r s answer nothing_made =
        let f = follows_nothing a b s lasts in
        let k = same_kept b f halt in
        (k, made_nothing w list (list_of first b stop cuts workers) (Claims w (Ok r) list) (same_list b f halt) k.legal (answer, nothing_made))

    claimed_node : (n : ℕ) → Applies a.state (Some w) (event.Claim n) b.state → IsClaim (halt_in list) (state_in list) (claim.Node n) → is_free (state_in list) n ≡ true → IsClaimed b (claim.Node n)
    claimed_node n s answer free =
        let f = follows_all a b w (event.Claim n ∷ []) s lasts in
        let k = several_kept first a b count stop cuts workers kept w (event.Claim n ∷ []) f halt (claim_legal (state_in list) w n free none, tt) member kept.legal.few_cuts (λ split. refl) refl in
        (k, made_events w list (list_of first b stop cuts workers) (Claims w (Ok (claim.Node n)) list) (event.Claim n ∷ []) (list_grows first a b count stop cuts workers kept (entry_by w (event.Claim n) ∷ []) f halt) k.legal (answer, refl))

    free_there : (h : Option Halt) (s : State) (n : ℕ) → IsClaim h s (claim.Node n) → is_free s n ≡ true
    free_there None s n i = i.free
    free_there (Some c) s n i = let bad : claim.Node n ≡ claim.Halted = i in cc

    pub claimed_by : (r : Claim) → IsClaim a.halt a.state.state r → ((n : ℕ) → r ≡ claim.Node n → Applies a.state (Some w) (event.Claim n) b.state) → (r ≡ claim.Idle → AppliesNothing a.state b.state)
        → (r ≡ claim.Done → AppliesNothing a.state b.state) → (r ≡ claim.Halted → AppliesNothing a.state b.state) → IsClaimed b r
    claimed_by r answer applied idle done halted = go r (moved r answer) applied idle done halted
      where
        moved : (q : Claim) → IsClaim a.halt a.state.state q → IsClaim (halt_in list) (state_in list) q
        moved q i = subst (λ (s : State). IsClaim (halt_in list) s q) kept.same.state (subst (λ (h : Option Halt). IsClaim h a.state.state q) kept.same.halt i)

        go : (q : Claim) → IsClaim (halt_in list) (state_in list) q → ((n : ℕ) → q ≡ claim.Node n → Applies a.state (Some w) (event.Claim n) b.state) → (q ≡ claim.Idle → AppliesNothing a.state b.state)
            → (q ≡ claim.Done → AppliesNothing a.state b.state) → (q ≡ claim.Halted → AppliesNothing a.state b.state) → IsClaimed b q
        go (claim.Node n) i applied idle done halted = claimed_node n (applied n refl) i (free_there (halt_in list) (state_in list) n i)
        go claim.Idle i applied idle done halted = unclaimed claim.Idle (idle refl) i refl
        go claim.Done i applied idle done halted = unclaimed claim.Done (done refl) i refl
        go claim.Halted i applied idle done halted = unclaimed claim.Halted (halted refl) i refl

  -- a release
  module _ (node : ℕ) (here : HoldsNode w node list) (member : w < workers) (b : Pool D d) (s : Applies a.state (Some w) (event.Release node) b.state) (lasts : Lasts a b) (halt : b.halt ≡ a.halt) where
    pub released_kept : IsKept first b count stop cuts workers
    released_kept =
        several_kept first a b count stop cuts workers kept w (event.Release node ∷ []) (follows_all a b w (event.Release node ∷ []) s lasts) halt
        (release_legal (state_in list) w node (kept_in list kept.legal) here, tt) member kept.legal.few_cuts (λ split. refl) refl

    pub released : Makes w list (list_of first b stop cuts workers) (Releases w node list)
    released = made_events w list (list_of first b stop cuts workers) (Releases w node list) (event.Release node ∷ [])
        (list_grows first a b count stop cuts workers kept (entry_by w (event.Release node) ∷ []) (follows_all a b w (event.Release node ∷ []) s lasts) halt) released_kept.legal refl

  -- a halt
  module _ (b : Pool D d) (s : AppliesNothing a.state b.state) (lasts : Lasts a b) (unhalted : a.halt ≡ None) (by_memory : b.halt ≡ Some halt.Memory) where
    pub halted_kept : IsKept first b count (length a.state.history) cuts workers
    halted_kept = halt_kept first a b count stop cuts workers kept (follows_nothing a b s lasts) halt.Memory unhalted by_memory

    pub halted_now : Makes w list (list_of first b (length a.state.history) cuts workers) (Halts list)
    halted_now = made_halt w list (list_of first b (length a.state.history) cuts workers) (Halts list) halt.Memory
        (list_halts first a b count stop cuts workers kept (follows_nothing a b s lasts) halt.Memory unhalted by_memory) halted_kept.legal
        (sym (ap halting (sym kept.same.halt ∙ unhalted)))

-- a claim, behind the call that made room for it
module _ {D : Type 0} {d : Ghosts D} (first a m b : Pool D d) (count stop cuts workers w : ℕ) (kept : IsKept first a count stop cuts workers) (stays : AppliesNothing a.state m.state) (lasts : Lasts a m) (halt : m.halt ≡ a.halt) where
  ready_kept : IsKept first m count stop cuts workers
  ready_kept = same_kept first a count stop cuts workers w kept m (follows_nothing a m stays lasts) halt

  ready_list : list_of first m stop cuts workers ≡ list_of first a stop cuts workers
  ready_list = same_list first a count stop cuts workers w kept m (follows_nothing a m stays lasts) halt

  pub claim_call : (at : List PoolEntry) → at ≡ list_of first a stop cuts workers → HoldsNone w at → w < (opening_in at).workers → Lasts m b → b.halt ≡ m.halt → (r : Claim) → IsClaim m.halt m.state.state r
      → ((n : ℕ) → r ≡ claim.Node n → Applies m.state (Some w) (event.Claim n) b.state) → (r ≡ claim.Idle → AppliesNothing m.state b.state) → (r ≡ claim.Done → AppliesNothing m.state b.state)
      → (r ≡ claim.Halted → AppliesNothing m.state b.state) → IsKept first b count stop cuts workers × Makes w at (list_of first b stop cuts workers) (Claims w (Ok r) at)
  claim_call at is none member more same r answer applied idle done halted =
      let e : list_of first m stop cuts workers ≡ at = ready_list ∙ sym is in
      let k = claimed_by first m count stop cuts workers w ready_kept (subst (HoldsNone w) (sym e) none) (subst (λ (l : List PoolEntry). w < (opening_in l).workers) is member) b more same r answer applied idle done halted in
      (k.0, subst (λ (l : List PoolEntry). Makes w l (list_of first b stop cuts workers) (Claims w (Ok r) l)) e k.1)

module _ {D : Type 0} {d : Ghosts D} (first a b : Pool D d) (count stop cuts workers : ℕ) where
  pub release_call : (w : ℕ) → IsKept first a count stop cuts workers → (at : List PoolEntry) → at ≡ list_of first a stop cuts workers → (node : ℕ) → HoldsNode w node at → w < (opening_in at).workers
      → Applies a.state (Some w) (event.Release node) b.state → Lasts a b → b.halt ≡ a.halt → IsKept first b count stop cuts workers × Makes w at (list_of first b stop cuts workers) (Releases w node at)
  release_call w kept at is node here member s lasts same =
      let h = subst (HoldsNode w node) is here in
      let m = subst (λ (l : List PoolEntry). w < (opening_in l).workers) is member in (
        released_kept first a count stop cuts workers w kept node h m b s lasts same,
        subst (λ (l : List PoolEntry). Makes w l (list_of first b stop cuts workers) (Releases w node l)) (sym is) (released first a count stop cuts workers w kept node h m b s lasts same),
      )

  pub halt_call : IsKept first a count stop cuts workers → (at : List PoolEntry) → at ≡ list_of first a stop cuts workers → AppliesNothing a.state b.state → Lasts a b → a.halt ≡ None → b.halt ≡ Some (unwrap_or a.halt halt.Memory)
      → (n : ℕ) → n ≡ length a.state.history → IsKept first b count n cuts workers × ((w : ℕ) → Makes w at (list_of first b n cuts workers) (Halts at))
  halt_call kept at is s lasts unhalted by_memory n counted =
      let m : b.halt ≡ Some halt.Memory = by_memory ∙ ap (λ (h : Option Halt). Some (unwrap_or h halt.Memory)) unhalted in (
        subst (λ j. IsKept first b count j cuts workers) (sym counted) (halted_kept first a count stop cuts workers 0 kept b s lasts unhalted m),
        λ w. subst (λ j. Makes w at (list_of first b j cuts workers) (Halts at)) (sym counted)
            (subst (λ (l : List PoolEntry). Makes w l (list_of first b (length a.state.history) cuts workers) (Halts l)) (sym is) (halted_now first a count stop cuts workers w kept b s lasts unhalted m)),
      )

-- a node that is held is there
module _ {D : Type 0} {d : Ghosts D} (first a : Pool D d) (count stop cuts workers w : ℕ) (kept : IsKept first a count stop cuts workers) (at : List PoolEntry) (is : at ≡ list_of first a stop cuts workers) (node : ℕ) (here : HoldsNode w node at) where
  pub held_in_pool : holds_node a.state.state w node ≡ true
  held_in_pool = subst (λ (s : State). holds_node s w node ≡ true) (sym kept.same.state) (subst (HoldsNode w node) is here)

  pub kept_pool : IsKeptState a.state.state
  kept_pool = subst IsKeptState (sym kept.same.state) (kept_in (list_of first a stop cuts workers) kept.legal)

  pub node_there : (nodes : List Node) → nodes ≡ a.state.state.nodes → node < length nodes
  node_there nodes same = subst (λ (ns : List Node). node < length ns) (sym same) (is_there a.state.state w node kept_pool held_in_pool)

-- a halt that is looked for and isn't there
pub none_copied : (o : Option (Bor Halt)) (h : Option Halt) → option_copied o ≡ h → is_some o ≡ false → h ≡ None
none_copied None h e f = sym e
none_copied (Some x) h e f = cc
