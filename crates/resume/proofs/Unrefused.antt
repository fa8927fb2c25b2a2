-- What stands for a problem is not refused.
use Rattle.std.specs.Prelude.{◌≡◌, ◌⊎◌, ℕ, suc, ◌<◌, true, List, [], length, take, slice_get, refl}
use Rattle.std.proofs.Common.{arith, sym, ◌∙◌, ap, subst, inl, inr}
use Rattle.problem.specs.Problem.{Problem}
use Rattle.event_codec.specs.Laws.{RecordsTellApart}
use Rattle.event_core.specs.declared.entry.Entry.{Entry}
use Rattle.node_journal.specs.Records.{Records, Intact, payloads_held, records}
use Rattle.node_pool.specs.Payloads.{model_in}
use Rattle.resume.specs.declared.fault.ResumeFault.{ResumeFault}
use Rattle.resume.specs.declared.fault.ResumeFault.TheVariants as fault
use Rattle.resume.specs.Models.{IsModelOf, IsOtherModel}
use Rattle.resume.specs.Journals.{StandsFor, StandsOnDisk, IsFreshOrOf, IsDamagedModel, IsDamagedEvent}
use Rattle.resume.specs.Refusals.{is_refusal, Refuses, RefusesPayloads, RefusesPayloadsFor}
use Rattle.resume.specs.Laws.{StandingIsNotRefused}
use Rattle.resume.specs.Lemmas.OneModel.{one_model}
use Rattle.resume.proofs.Prefixes.{some_parts, model_of_front, stands_front}

-- ---- payloads that stand for a problem
pub same_payloads : (ps qs : List (List ℕ)) (r : Records) → r ≡ Intact ps → r ≡ Intact qs → qs ≡ ps
same_payloads ps qs r a b = ap payloads_held (sym b ∙ a)

no_damaged_model : (p : Problem) (ps : List (List ℕ)) (es : List Entry) (at : ℕ) → StandsFor p ps es → IsDamagedModel ps at → ⊥
no_damaged_model p ps es at stands h = h.none p stands.model

pub no_other : (model first : List ℕ) (at : ℕ) → first ≡ model → IsOtherModel model first at → ⊥
no_other model first at same h = h.differs.differs (ap (λ (l : List ℕ). slice_get l at) same)

pub none_inside : (ps : List (List ℕ)) (n : ℕ) → ps ≡ [] → n < length ps → ⊥
none_inside ps n none lt = omega (arith, lt, ap length none)

-- ---- a payload of such a journal
-- with none of the payloads the first ones stand for no events
pub damaged_at : RecordsTellApart → (p o : Problem) (ps : List (List ℕ)) (es fs : List Entry) (n : ℕ) → StandsFor p ps es → StandsFor o (take n ps) fs → ((gs : List Entry) → StandsFor o (take (suc n) ps) gs → ⊥) → ⊥
damaged_at law p o ps es fs n stands before none =
    let front = stands_front p ps es (suc n) (omega arith) stands in
    let model : IsModelOf (model_in ps) o = subst (λ (l : List ℕ). IsModelOf l o) (model_of_front ps n o fs before) before.model in
    let problem : p ≡ o = one_model law (model_in ps) p o stands.model model in
    none front.0 (subst (λ (q : Problem). StandsFor q (take (suc n) ps) front.0) problem front.1)

no_damaged_event : RecordsTellApart → (p : Problem) (ps : List (List ℕ)) (es : List Entry) (at : ℕ) → StandsFor p ps es → IsDamagedEvent ps at → ⊥
no_damaged_event law p ps es at stands h = damaged_at law p h.problem ps es h.events h.number stands h.before h.none

-- ---- of a command that opens its journal whatever its model is
stands_unrefused : RecordsTellApart → (p : Problem) (r : Records) (ps : List (List ℕ)) (es : List Entry) → r ≡ Intact ps → StandsFor p ps es → (f : ResumeFault) → is_refusal f ≡ true → Refuses RefusesPayloads f r → ⊥
stands_unrefused law p r ps es held stands fault.NotAJournal is h = absurd cc
stands_unrefused law p r ps es held stands (fault.Damaged at) is (inl h) = absurd cc
stands_unrefused law p r ps es held stands (fault.Damaged at) is (inr h) =
    let here : StandsFor p h.0 es = subst (λ (l : List (List ℕ)). StandsFor p l es) (sym (same_payloads ps h.0 r held h.1)) stands in
    elim h.2 [ inl model ↦ no_damaged_model p h.0 es at here model | inr event ↦ no_damaged_event law p h.0 es at here event ]
stands_unrefused law p r ps es held stands (fault.OtherModel at) is h = h.2
stands_unrefused law p r ps es held stands fault.NoModel is h = some_parts p h.0 es (subst (λ (l : List (List ℕ)). StandsFor p l es) (sym (same_payloads ps h.0 r held h.1)) stands) h.2
stands_unrefused law p r ps es held stands fault.Disk is h = absurd cc
stands_unrefused law p r ps es held stands fault.Memory is h = absurd cc

-- ---- of a command that opens it for its model
unrefused_for : RecordsTellApart → (model : List ℕ) (r : Records) (ps : List (List ℕ)) → r ≡ Intact ps → (ps ≡ []) ⊎ ((p : Problem) × (es : List Entry) × (model_in ps ≡ model) × StandsFor p ps es)
    → (f : ResumeFault) → is_refusal f ≡ true → Refuses (RefusesPayloadsFor model) f r → ⊥
unrefused_for law model r ps held what fault.NotAJournal is h = absurd cc
unrefused_for law model r ps held what (fault.Damaged at) is (inl h) = absurd cc
unrefused_for law model r ps held (inl none) (fault.Damaged at) is (inr h) =
    let empty : h.0 ≡ [] = same_payloads ps h.0 r held h.1 ∙ none in
    elim h.2 [ inl m ↦ none_inside h.0 0 empty m.some | inr e ↦ none_inside h.0 e.1.number empty e.1.inside ]
unrefused_for law model r ps held (inr s) (fault.Damaged at) is (inr h) =
    let here : StandsFor s.0 h.0 s.1 = subst (λ (l : List (List ℕ)). StandsFor s.0 l s.1) (sym (same_payloads ps h.0 r held h.1)) s.3 in
    elim h.2 [ inl m ↦ no_damaged_model s.0 h.0 s.1 at here m | inr e ↦ no_damaged_event law s.0 h.0 s.1 at here e.1 ]
unrefused_for law model r ps held (inl none) (fault.OtherModel at) is h = none_inside h.0 0 (same_payloads ps h.0 r held h.1 ∙ none) h.2.0
unrefused_for law model r ps held (inr s) (fault.OtherModel at) is h = no_other model (model_in h.0) at (ap model_in (same_payloads ps h.0 r held h.1) ∙ s.2) h.2.1
unrefused_for law model r ps held what fault.NoModel is h = h.2
unrefused_for law model r ps held what fault.Disk is h = absurd cc
unrefused_for law model r ps held what fault.Memory is h = absurd cc

fresh_or_of : RecordsTellApart → (model : List ℕ) (p : Problem) (c : List ℕ) → IsFreshOrOf model p c → (f : ResumeFault) → is_refusal f ≡ true → Refuses (RefusesPayloadsFor model) f (records c) → ⊥
fresh_or_of law model p c (inl fresh) f is h = unrefused_for law model (records c) [] fresh (inl refl) f is h
fresh_or_of law model p c (inr s) f is h = unrefused_for law model (records c) s.0 s.2 (inr (p, s.1, s.3, s.4)) f is h

stands_on : RecordsTellApart → (p : Problem) (c : List ℕ) → StandsOnDisk p c → (f : ResumeFault) → is_refusal f ≡ true → Refuses RefusesPayloads f (records c) → ⊥
stands_on law p c s f is h = stands_unrefused law p (records c) s.0 s.1 s.2 s.3 f is h

pub not_refused : RecordsTellApart → StandingIsNotRefused
not_refused law = record { any = stands_on law; own = fresh_or_of law }
