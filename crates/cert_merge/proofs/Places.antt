-- The table of the events that closed nodes, one event more at a time.
use Rattle.std.specs.Prelude.{◌≡◌, ◌≢◌, ◌<◌, ◌≤◌, ◌+◌, ℕ, zero, suc, Bool, true, false, cond, eqb, List, [], ◌∷◌, ◌++◌, length, take, Some, None, IsSome, slice_index, slice_index_or, slice_set, refl, Option}
use Rattle.std.specs.Option.{option_or}
use Rattle.std.proofs.Common.{sym, ap, ◌∙◌, subst, arith}
use Rattle.std.proofs.lemmas.Bool.{eqb-true, eqb-false}
use Rattle.std.proofs.lemmas.List.{length-set, length-take-le, take_more, get_or-set_same, get_or-set_other}
use Rattle.node_events.specs.declared.proof.Proof.{Proof}
use Rattle.node_events.specs.declared.event.Event.{Event}
use Rattle.node_events.specs.declared.event.Event.TheVariants.{Close}
use Rattle.event_core.specs.declared.entry.Entry.{Entry}
use Rattle.cert_merge.specs.Endings.{closing, proof_of, proof_at, AreClosings, proof_for}
use Rattle.cert_merge.specs.Lemmas.Finished.{proof_of-push}
use Rattle.event_core.specs.Frames.{closed_by}
use Rattle.event_core.specs.Lemmas.Frames.{closed_is}

-- ---- one entry more
-- what an entry closes it still closes
still_at : (es more : List Entry) (k i : ℕ) → IsSome (proof_at es k i) → proof_at (es ++ more) k i ≡ proof_at es k i
still_at [] more k i h = cc
still_at (e ∷ es) more zero i h = refl
still_at (e ∷ es) more (suc k) i h = still_at es more k i h

last_at : (es : List Entry) (e : Entry) (i : ℕ) → proof_at (es ++ e ∷ []) (length es) i ≡ closing e.event i
last_at [] e i = refl
last_at (d ∷ es) e i = last_at es e i

-- an entry that closes none of the nodes
pub other_closed : (es : List Entry) (e : Entry) (ps : List ℕ) → ((i : ℕ) → i < length ps → closing e.event i ≡ None) → AreClosings es ps → AreClosings (es ++ e ∷ []) ps
other_closed es e ps n h i l s =
    let same : proof_of (es ++ e ∷ []) i ≡ proof_of es i = proof_of-push es e i ∙ ap (λ o. option_or o (proof_of es i)) (n i l) in
    let there : IsSome (proof_of es i) = subst IsSome same s in
    let at = h i l there in
    still_at es (e ∷ []) (slice_index ps i) i (subst IsSome (sym at) there) ∙ at ∙ sym same

-- an entry that closes node k
pub one_closed : (es : List Entry) (e : Entry) (k : ℕ) (proof : Proof) (ps : List ℕ) → e.event ≡ Close k proof → AreClosings es ps → AreClosings (es ++ e ∷ []) (slice_set ps k (length es))
one_closed es e k proof ps q h i l s = step (eqb k i) refl
  where
    before : i < length ps
    before = subst (λ n. i < n) (length-set ps k (length es)) l

    closes : closing e.event i ≡ cond (eqb k i) (Some proof) None
    closes = ap (λ d. closing d i) q

    step : (b : Bool) → eqb k i ≡ b → proof_at (es ++ e ∷ []) (slice_index (slice_set ps k (length es)) i) i ≡ proof_of (es ++ e ∷ []) i
    step true f =
        let z : k ≡ i = eqb-true k i f in
        let now : closing e.event i ≡ Some proof = closes ∙ ap (λ b. cond b (Some proof) None) f in
        let at : slice_index (slice_set ps k (length es)) i ≡ length es = ap (λ n. slice_index (slice_set ps n (length es)) i) z ∙ get_or-set_same ps i (length es) 0 before in
        ap (λ n. proof_at (es ++ e ∷ []) n i) at ∙ last_at es e i ∙ now ∙ sym (proof_of-push es e i ∙ ap (λ o. option_or o (proof_of es i)) now)
    step false f =
        let other : i ≢ k = λ z. eqb-false k i f (sym z) in
        let none : closing e.event i ≡ None = closes ∙ ap (λ b. cond b (Some proof) None) f in
        let same : proof_of (es ++ e ∷ []) i ≡ proof_of es i = proof_of-push es e i ∙ ap (λ o. option_or o (proof_of es i)) none in
        let there : IsSome (proof_of es i) = subst IsSome same s in
        let at = h i before there in
        ap (λ n. proof_at (es ++ e ∷ []) n i) (get_or-set_other ps k i (length es) 0 other)
        ∙ still_at es (e ∷ []) (slice_index ps i) i (subst IsSome (sym at) there) ∙ at ∙ sym same

-- ---- as the loop has it
pub none_closed : (ps : List ℕ) → AreClosings [] ps
none_closed ps i l s = cc

module _ (es : List Entry) (n : ℕ) (e : Entry) (l : n < length es) (is : e ≡ slice_index_or es n e) where
  more : take (n + 1) es ≡ take n es ++ e ∷ []
  more = take_more es n e l ∙ ap (λ d. take n es ++ d ∷ []) (sym is)

  pub next_other : (ps : List ℕ) → ((i : ℕ) → i < length ps → closing e.event i ≡ None) → AreClosings (take n es) ps → AreClosings (take (n + 1) es) ps
  next_other ps c h = subst (λ ds. AreClosings ds ps) (sym more) (other_closed (take n es) e ps c h)

  pub next_closed : (ps : List ℕ) (k : ℕ) (proof : Proof) → e.event ≡ Close k proof → AreClosings (take n es) ps → AreClosings (take (n + 1) es) (slice_set ps k n)
  next_closed ps k proof q h =
      subst (λ ds. AreClosings ds (slice_set ps k n)) (sym more)
      (subst (λ m. AreClosings (take n es ++ e ∷ []) (slice_set ps k m)) (length-take-le n es (omega (arith, l))) (one_closed (take n es) e k proof ps q h))

-- a node that isn't there
pub past_closed : (e : Event) (k : ℕ) (proof : Proof) (ps : List ℕ) → e ≡ Close k proof → length ps ≤ k → (i : ℕ) → i < length ps → closing e i ≡ None
past_closed e k proof ps q l i m = ap (λ d. closing d i) q ∙ step (eqb k i) refl
  where
    step : (b : Bool) → eqb k i ≡ b → cond b (Some proof) None ≡ None
    step true f = absurd (omega (arith, eqb-true k i f, l, m))
    step false f = refl

-- an event that is no close
pub closes_none : (e : Event) → ((k : ℕ) (proof : Proof) → e ≡ Close k proof → ⊥) → (i : ℕ) → closing e i ≡ None
closes_none e n i = ap (proof_for i) (none (closed_by e) refl)
  where
    none : (o : Option (ℕ × Proof)) → closed_by e ≡ o → o ≡ None
    none None q = refl
    none (Some c) q = absurd (n c.0 c.1 (closed_is e c q))
