-- From one payload to the next.
use Rattle.std.specs.Prelude.{◌≡◌, ℕ, zero, suc, ◌+◌, ◌≤◌, ◌<◌, Bool, true, false, ◌||◌, if◌then◌else◌, List, [], ◌∷◌, ◌++◌, length, take, get_or, slice_index, slice_index_or, Some, Ok, refl}
use Rattle.std.specs.List.{list_any}
use Rattle.std.proofs.Common.{arith, sym, ◌∙◌, ap, subst}
use Rattle.std.proofs.Math.Seq.{take-suc}
use Rattle.std.proofs.lemmas.List.{take_all, append-nil}
use Rattle.std.proofs.lemmas.List.Folds.{list_any-append}
use Rattle.problem.specs.Problem.{Problem}
use Rattle.node_events.specs.declared.event.Event.{Event}
use Rattle.event_codec.specs.declared.enc.Enc.{Enc}
use Rattle.event_codec.specs.declared.enc.Enc.TheVariants.{One, Two}
use Rattle.event_codec.specs.Upgrades.{is_upgrade}
use Rattle.event_core.specs.declared.entry.Entry.{Entry}
use Rattle.event_core.specs.States.{State, first_state}
use Rattle.event_core.specs.Histories.{state_from, state_of}
use Rattle.event_core.specs.Rooms.{Recorded}
use Rattle.event_core.specs.Lemmas.Running.{state_from-append, legal_both, from-problem}
use Rattle.node_journal.specs.Frames.{places_from}
use Rattle.node_pool.specs.Payloads.{spelled, entries_from, model_in, is_upgraded}
use Rattle.node_tree.specs.Limits.{most_nodes}
use Rattle.resume.specs.Models.{IsModelOf}
use Rattle.node_pool.specs.Lemmas.Groups.{encoding_behind, behind_is, with_first, entries_append}
use Rattle.resume.specs.Events.{read_entries, IsReadAs, IsNextPayload, IsNoPayload, IsApplied}
use Rattle.resume.specs.Journals.{StandsFor, IsDamagedEvent, IsReplayed}
use Rattle.resume.proofs.Applying.{nobody_holds_after}
use Rattle.resume.proofs.Prefixes.{HasNext, behind_model, stands_next}

-- ---- encodings
-- the encoding of a payload behind these, the first of which is the record of a model
abbrev pub encoding_in : List (List ℕ) → Enc
encoding_in ps = if is_upgraded ps then Two else One

-- what the payload alone spells, in its encoding
spelled_alone : (enc next : Enc) (payload : List ℕ) (fs : List Event) → spelled enc payload ≡ Ok (fs, next) → entries_from enc (payload ∷ []) ≡ Some (read_entries fs)
spelled_alone enc next payload fs read =
    with_first (spelled enc payload) (λ (n : Enc). entries_from n []) fs next [] read refl ∙ ap (λ (l : List Entry). Some l) (append-nil (read_entries fs))

-- ---- one more payload
-- it is read
pub read_more : (p : Problem) (rest : List (List ℕ)) (es : List Entry) (payload : List ℕ) (fs : List Event) (next : Enc) → IsReadAs p rest es
    → IsNextPayload (encoding_behind One rest) (state_of p es) payload fs next → IsReadAs p (rest ++ payload ∷ []) (es ++ read_entries fs)
read_more p rest es payload fs n read next = record {
  written = entries_append One rest (payload ∷ []) es (read_entries fs) read.written (spelled_alone (encoding_behind One rest) n payload fs next.read);
  legal = legal_both (first_state p) es (read_entries fs) read.legal next.legal;
  few = subst (λ (s : State). length s.nodes ≤ most_nodes) (sym (state_from-append (first_state p) es (read_entries fs))) next.few;
}

-- What the first payloads, so many behind the model, lead to, and the encoding of the next one.
pub record HasRead (p : Problem) (ps : List (List ℕ)) (number : ℕ) (enc : Enc) (c : Recorded) : Type 0 where
  pub begun : 0 < number
  pub stands : StandsFor p (take number ps) c.history
  pub state : c.state ≡ state_of p c.history
  pub unheld : c.state.holds ≡ []
  pub encoding : enc ≡ encoding_in (take number ps)

pub stands_first : (p : Problem) (ps : List (List ℕ)) → 0 < length ps → IsModelOf (model_in ps) p → StandsFor p (take 1 ps) []
stands_first p [] lt model = absurd (omega (arith, lt))
stands_first p (x ∷ ps) lt model = record { rest = []; parts = refl; model = model; read = record { written = refl; legal = tt; few = omega arith } }

pub stands_more : (p : Problem) (ps : List (List ℕ)) (n : ℕ) (es : List Entry) (fs : List Event) (next : Enc) → 0 < n → n < length ps → StandsFor p (take n ps) es
    → IsNextPayload (encoding_in (take n ps)) (state_of p es) (slice_index_or ps n []) fs next → StandsFor p (take (n + 1) ps) (es ++ read_entries fs)
stands_more p ps zero es fs next pos lt stands is = absurd (omega (arith, pos))
stands_more p [] (suc m) es fs next pos lt stands is = absurd (omega (arith, lt))
stands_more p (x ∷ xs) (suc m) es fs next pos lt stands is =
    let within : m < length xs = omega (arith, lt) in
    let grown : take (suc m) xs ≡ take m xs ++ get_or xs m [] ∷ [] = take-suc xs m [] within in
    let is' : IsNextPayload (encoding_behind One (take m xs)) (state_of p es) (get_or xs m []) fs next =
    subst (λ (e : Enc). IsNextPayload e (state_of p es) (get_or xs m []) fs next) (sym (behind_is (take m xs))) is in
    let n : suc m + 1 ≡ suc (suc m) = omega arith in
    subst (λ (k : ℕ). StandsFor p (take k (x ∷ xs)) (es ++ read_entries fs)) (sym n)
    (record {
      rest = take m xs ++ get_or xs m [] ∷ [];
      parts = ap (λ (l : List (List ℕ)). x ∷ l) grown;
      model = stands.model;
      read = read_more p (take m xs) es (get_or xs m []) fs next (behind_model p x (take m xs) es stands) is';
    })

-- the encoding behind one more payload
encoding_more : (ps : List (List ℕ)) (n : ℕ) → 0 < n → n < length ps → encoding_in (take (n + 1) ps) ≡ (if is_upgrade (slice_index_or ps n []) then Two else encoding_in (take n ps))
encoding_more ps zero pos lt = absurd (omega (arith, pos))
encoding_more [] (suc m) pos lt = absurd (omega (arith, lt))
encoding_more (x ∷ xs) (suc m) pos lt =
    let within : m < length xs = omega (arith, lt) in
    let n : suc m + 1 ≡ suc (suc m) = omega arith in
    ap (λ (k : ℕ). encoding_in (take k (x ∷ xs))) n ∙ ap (λ (l : List (List ℕ)). encoding_in (x ∷ l)) (take-suc xs m [] within)
    ∙ ap (λ (b : Bool). if b then Two else One) (list_any-append is_upgrade (take m xs) (get_or xs m [] ∷ [])) ∙ either (list_any is_upgrade (take m xs)) (is_upgrade (get_or xs m []))
  where
    either : (a b : Bool) → (if a || (b || false) then Two else One) ≡ (if b then Two else (if a then Two else One))
    either true true = refl
    either true false = refl
    either false true = refl
    either false false = refl

-- it was applied
pub one_more : (p : Problem) (ps : List (List ℕ)) (n : ℕ) (enc next : Enc) (old new : Recorded) → n < length ps → HasRead p ps n enc old → IsApplied enc old (slice_index_or ps n []) new next
    → next ≡ (if is_upgrade (slice_index_or ps n []) then Two else enc) → HasRead p ps (n + 1) next new
one_more p ps n enc next old new lt has is after = record {
  begun = omega arith;
  stands = subst (λ (l : List Entry). StandsFor p (take (n + 1) ps) l) (sym is.history) (stands_more p ps n old.history is.events next has.begun lt has.stands there);
  state = is.state ∙ ap (λ (s : State). state_from s (read_entries is.events)) has.state ∙ sym (state_from-append (first_state p) old.history (read_entries is.events)) ∙ ap (λ (l : List Entry). state_of p l) (sym is.history);
  unheld = ap (λ (s : State). s.holds) is.state ∙ nobody_holds_after old.state is.events has.unheld is.is_next.legal;
  encoding = after ∙ ap (λ (e : Enc). if is_upgrade (slice_index_or ps n []) then Two else e) has.encoding ∙ sym (encoding_more ps n has.begun lt);
}
  where
    there : IsNextPayload (encoding_in (take n ps)) (state_of p old.history) (slice_index_or ps n []) is.events next
    there = subst (λ (e : Enc). IsNextPayload e (state_of p old.history) (slice_index_or ps n []) is.events next) has.encoding
        (subst (λ (s : State). IsNextPayload enc s (slice_index_or ps n []) is.events next) has.state is.is_next)

-- it may not come next
module _ (p : Problem) (ps : List (List ℕ)) (n : ℕ) (enc : Enc) (c : Recorded) (lt : n < length ps) (has : HasRead p ps n enc c) (none : IsNoPayload enc c.state (slice_index_or ps n [])) where
  never : HasNext (encoding_in (take n ps)) (state_of p c.history) (slice_index_or ps n []) → ⊥
  never h = none h.events h.encoding
      (subst (λ (s : State). IsNextPayload enc s (slice_index_or ps n []) h.events h.encoding) (sym has.state)
      (subst (λ (e : Enc). IsNextPayload e (state_of p c.history) (slice_index_or ps n []) h.events h.encoding) (sym has.encoding) h.is_next))

  pub damaged_here : (at : ℕ) → at ≡ slice_index (places_from 8 ps) n → IsDamagedEvent ps at
  damaged_here at place = record { number = n; inside = lt; problem = p; events = c.history; before = has.stands; none = λ es stands. never (next_of ps n c.history es has.begun lt has.stands stands); place = place }
    where
      next_of : (ps : List (List ℕ)) (n : ℕ) (es fs : List Entry) → 0 < n → n < length ps → StandsFor p (take n ps) es → StandsFor p (take (suc n) ps) fs → HasNext (encoding_in (take n ps)) (state_of p es) (slice_index_or ps n [])
      next_of ps zero es fs pos lt before with_next = absurd (omega (arith, pos))
      next_of [] (suc m) es fs pos lt before with_next = absurd (omega (arith, lt))
      next_of (x ∷ xs) (suc m) es fs pos lt before with_next =
          subst (λ (e : Enc). HasNext e (state_of p es) (get_or xs m [])) (behind_is (take m xs)) (stands_next p x xs m es fs (omega (arith, lt)) before with_next)

-- the problem stays
pub same_problem : (p : Problem) (ps : List (List ℕ)) (n : ℕ) (enc : Enc) (c : Recorded) → HasRead p ps n enc c → c.state.problem ≡ p
same_problem p ps n enc c has = ap (λ (s : State). s.problem) has.state ∙ from-problem (first_state p) c.history

-- all payloads were read
pub all_read : (p : Problem) (ps : List (List ℕ)) (n : ℕ) (enc : Enc) (c : Recorded) → length ps ≤ n → HasRead p ps n enc c → IsReplayed ps c
all_read p ps n enc c le has =
    let same : p ≡ c.state.problem = sym (same_problem p ps n enc c has) in
    record {
      stands = subst (λ (q : Problem). StandsFor q ps c.history) same (subst (λ (l : List (List ℕ)). StandsFor p l c.history) (take_all n ps le) has.stands);
      state = subst (λ (q : Problem). c.state ≡ state_of q c.history) same has.state;
      unheld = has.unheld;
    }

-- nothing was read but the model
pub none_read : (p : Problem) (ps : List (List ℕ)) (c : Recorded) → 0 < length ps → IsModelOf (model_in ps) p → c.state ≡ first_state p → c.history ≡ [] → HasRead p ps 1 One c
none_read p ps c some model first empty = record {
  begun = omega arith;
  stands = subst (λ (l : List Entry). StandsFor p (take 1 ps) l) (sym empty) (stands_first p ps some model);
  state = first ∙ ap (λ (l : List Entry). state_of p l) (sym empty);
  unheld = ap (λ (s : State). s.holds) first;
  encoding = not_yet ps some;
}
  where
    not_yet : (ps : List (List ℕ)) → 0 < length ps → One ≡ encoding_in (take 1 ps)
    not_yet [] lt = absurd (omega (arith, lt))
    not_yet (x ∷ xs) lt = refl
