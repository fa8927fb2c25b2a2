-- What the first payloads of a journal stand for, and what the payload behind them spells.
use Rattle.std.specs.Prelude.{◌≡◌, ℕ, zero, suc, ◌≤◌, ◌<◌, List, [], ◌∷◌, ◌++◌, length, take, drop, get_or, Some, refl}
use Rattle.std.proofs.Common.{arith, sym, ◌∙◌, ap, subst}
use Rattle.std.proofs.Math.Seq.{take-suc}
use Rattle.std.proofs.lemmas.List.{take-append-drop}
use Rattle.std.proofs.lemmas.Option.{same_Some}
use Rattle.problem.specs.Problem.{Problem}
use Rattle.node_events.specs.declared.event.Event.{Event}
use Rattle.event_codec.specs.declared.enc.Enc.{Enc}
use Rattle.event_codec.specs.declared.enc.Enc.TheVariants.{One}
use Rattle.event_core.specs.declared.entry.Entry.{Entry}
use Rattle.event_core.specs.States.{State, first_state}
use Rattle.event_core.specs.Histories.{state_from, state_of, AreLegal, AreLegalFrom}
use Rattle.event_core.specs.Lemmas.Frames.{nodes_from}
use Rattle.event_core.specs.Lemmas.Running.{state_from-append, legal_back, legal_prefix}
use Rattle.node_pool.specs.Payloads.{spelled, entries_from, entries_in, model_in}
use Rattle.node_pool.specs.Lemmas.Groups.{encoding_behind, first_spelled, entries_split}
use Rattle.node_tree.specs.Limits.{most_nodes}
use Rattle.resume.specs.Events.{read_entries, IsReadAs, IsNextPayload}
use Rattle.resume.specs.Journals.{StandsFor}
use Rattle.resume.specs.Lemmas.Standing.{read_front}

-- ---- the parts of payloads that stand for a problem
-- those behind the record of the model
pub behind_model : (p : Problem) (x : List ℕ) (xs : List (List ℕ)) (es : List Entry) → StandsFor p (x ∷ xs) es → IsReadAs p xs es
behind_model p x xs es stands =
    let whole : x ∷ xs ≡ x ∷ stands.rest = stands.parts in
    let rest : stands.rest ≡ xs = cc in
    subst (λ (l : List (List ℕ)). IsReadAs p l es) rest stands.read

pub some_parts : (p : Problem) (ps : List (List ℕ)) (es : List Entry) → StandsFor p ps es → ps ≡ [] → ⊥
some_parts p ps es stands none = let h : [] ≡ model_in ps ∷ stands.rest = sym none ∙ stands.parts in cc

-- the record of the model is the same
pub model_of_front : (ps : List (List ℕ)) (n : ℕ) (p : Problem) (es : List Entry) → StandsFor p (take n ps) es → model_in (take n ps) ≡ model_in ps
model_of_front ps zero p es stands = let h : [] ≡ model_in (take 0 ps) ∷ stands.rest = stands.parts in absurd cc
model_of_front [] (suc n) p es stands = refl
model_of_front (x ∷ xs) (suc n) p es stands = refl

-- ---- the first payloads
-- the first payloads of such a journal stand for the problem too
pub stands_front : (p : Problem) (ps : List (List ℕ)) (es : List Entry) (k : ℕ) → 0 < k → StandsFor p ps es → (fs : List Entry) × StandsFor p (take k ps) fs
stands_front p ps es zero some stands = absurd (omega (arith, some))
stands_front p [] es (suc m) some stands = absurd (some_parts p [] es stands refl)
stands_front p (x ∷ xs) es (suc m) some stands =
    let read = behind_model p x xs es stands in
    let s = entries_split One (take m xs) (drop m xs) es (ap entries_in (take-append-drop m xs) ∙ read.written) in
    (s.front, record { rest = take m xs; parts = refl; model = stands.model; read = read_front p (take m xs) s.front s.behind es s.first s.parts read.legal read.few })

-- ---- the payload behind them
-- what it spells in its encoding may come next
pub record HasNext (enc : Enc) (s : State) (payload : List ℕ) : Type 0 where
  pub events : List Event
  pub encoding : Enc
  pub is_next : IsNextPayload enc s payload events encoding

next_read : (p : Problem) (ps : List (List ℕ)) (payload : List ℕ) (es fs : List Entry) → entries_in ps ≡ Some es → IsReadAs p (ps ++ payload ∷ []) fs → HasNext (encoding_behind One ps) (state_of p es) payload
next_read p ps payload es fs written read =
    let enc : Enc = encoding_behind One ps in
    let there : State = state_of p es in
    let s = entries_split One ps (payload ∷ []) fs read.written in
    let f = first_spelled (spelled enc payload) (λ (next : Enc). entries_from next []) s.behind s.last in
    let front : s.front ≡ es = same_Some s.front es (sym s.first ∙ written) in
    let parts : fs ≡ es ++ (read_entries f.events ++ f.behind) = s.parts ∙ ap (λ (l : List Entry). l ++ s.behind) front ∙ ap (λ (l : List Entry). es ++ l) f.parts in
    let legal : AreLegalFrom there (read_entries f.events ++ f.behind) = legal_back (first_state p) es (read_entries f.events ++ f.behind) (subst (λ (l : List Entry). AreLegal p l) parts read.legal) in
    let same : state_of p fs ≡ state_from (state_from there (read_entries f.events)) f.behind =
    ap (λ (l : List Entry). state_of p l) parts ∙ state_from-append (first_state p) es (read_entries f.events ++ f.behind) ∙ state_from-append there (read_entries f.events) f.behind in
    let few : length (state_from (state_from there (read_entries f.events)) f.behind).nodes ≤ most_nodes = subst (λ (t : State). length t.nodes ≤ most_nodes) same read.few in
    record {
      events = f.events;
      encoding = f.next;
      is_next = record { read = f.read; legal = legal_prefix there (read_entries f.events) f.behind legal; few = omega (arith, nodes_from (state_from there (read_entries f.events)) f.behind, few) };
    }

-- where payloads and the one behind them stand for a problem, that one may come next
pub stands_next : (p : Problem) (x : List ℕ) (xs : List (List ℕ)) (m : ℕ) (es fs : List Entry) → m < length xs → StandsFor p (x ∷ take m xs) es → StandsFor p (x ∷ take (suc m) xs) fs
    → HasNext (encoding_behind One (take m xs)) (state_of p es) (get_or xs m [])
stands_next p x xs m es fs inside before with_next =
    let grown : take (suc m) xs ≡ take m xs ++ get_or xs m [] ∷ [] = take-suc xs m [] inside in
    next_read p (take m xs) (get_or xs m []) es fs (behind_model p x (take m xs) es before).written
    (subst (λ (l : List (List ℕ)). IsReadAs p l fs) grown (behind_model p x (take (suc m) xs) fs with_next))
