use Rattle.std.proofs.Common.{◌≡◌, ℕ, List, Option, ◌++◌, Result, Ok, Err, OnOk, not, ◌==◌, length, map, ap, ◌∙◌, rules}
use Rattle.std.proofs.lemmas.Iterator.{YieldsList, YieldsList-from_take}
use Rattle.std.proofs.lemmas.Iterator.Adapters.{fact_from_extend}
use Rattle.std.proofs.lemmas.Iterator.Consumers.{YieldsList-at, YieldsList-from_filter}
use Rattle.std.proofs.lemmas.Iterator.Splits.{YieldsList-from_slice_split}
use Rattle.std.specs.Iterator.{Drains, Yields}
use Rattle.std.specs.Result.{MatchResult}
use denote.Ref.{Bor}
use Rattle.mps_lines.specs.Lines.{is_blank}
use Rattle.mps_lines.proofs.lines.kept_fields.Goals as goal

when_ok : {T E P : Type 0} (r : Result T E) (t : T) → r ≡ Ok t → OnOk r P → P
when_ok (Ok a) t e p = p
when_ok (Err x) t e p = cc

filled : {T A C E Q : Type 0} {steps : T → Option A → T → Type 0} {all : List C} {P : List A → Type 0} {s : T} (v : A → C) (r : Result (Unit {0}) E)
    → ((it : T) × (xs : List A) × (it ≡ s) × P xs × MatchResult r (λ _. Drains steps it xs) (λ _. (t : T) × Yields steps it xs t))
    → YieldsList steps v s all → ((xs : List A) → map v xs ≡ all → P xs → Q) → OnOk r Q
filled v r ran road says = fact_from_extend v r ran (λ it b. YieldsList-at b road) says

pub returns : goal.returns
returns c = when_ok c.extend.result c.in_ok-extend.field-0 c.in_ok-extend.was
    (filled (λ (f : Bor (List ℕ)). f.now) c.extend.result c.extend.ensures.ran
    (YieldsList-from_take 6 (YieldsList-at c.take.ensures.source (YieldsList-from_filter _ (λ (field : List ℕ). not (length field == 0))
    (YieldsList-from_slice_split _ is_blank c.args.line.now (ap (λ s. s.rest.now) c.filter.ensures.source ∙ c.split.ensures.rest) (ap (λ s. s.done) c.filter.ensures.source ∙ c.split.ensures.done) (ap (λ s. s.pred) c.filter.ensures.source ∙ c.split.ensures.closure) (λ x b q k. search rules)) c.filter.ensures.closure (λ x b q k. search rules))) c.take.ensures.count)
    (λ xs e h. ap (map (λ f. f.now)) (h.0 ∙ ap (λ os. os ++ xs) c.in_ok-fields.ensures.items) ∙ e))
