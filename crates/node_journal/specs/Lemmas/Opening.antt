-- What a journal keeps once it was opened.
use Rattle.std.specs.Prelude.{◌≡◌, ℕ, List, [], ◌∷◌, ◌++◌, length, None}
use Rattle.std.proofs.Common.{subst, sym, ◌∙◌}
use Rattle.outside.specs.Images.{LeavesOnly}
use Rattle.outside.specs.Lemmas.Passing.{weaker}
use Rattle.outside.specs.declared.moment.Moment.{Moment}
use Rattle.node_journal.specs.History.{SomeFrom, RemainsFrom, BeginsWith, KeepsHistory}
use Rattle.node_journal.specs.Lemmas.Histories.{longer, prefixes_begin, history_begins, some_weaker}
use Rattle.node_journal.specs.Records.{Records, Intact, records}

-- the journal was opened
pub kept_opened : (from : ℕ) (past : List Moment) (now : Moment) (past' : List Moment) (now' : Moment) (ps : List (List ℕ)) (r : Records) → r ≡ Intact ps → from ≡ length past
    → LeavesOnly past now past' now' (λ c. records c ≡ r) → SomeFrom (length past) past' (λ c. records c ≡ r)
    → ((qs : List (List ℕ)) → RemainsFrom (length past) (past' ++ now' ∷ []) (λ c. BeginsWith qs (records c))) → KeepsHistory from past' now' ps None
kept_opened from past now past' now' ps r holds at run some remains = subst (λ (k : ℕ). KeepsHistory k past' now' ps None) (sym at) (record {
  begun = longer past now past' now' (λ c. records c ≡ Intact ps) each;
  history = history_begins past now past' now' ps each one remains;
  prefixes = λ sound. prefixes_begin past now past' now' ps each one;
})
  where
    each : LeavesOnly past now past' now' (λ c. records c ≡ Intact ps)
    each = weaker past now past' now' (λ c. records c ≡ r) (λ c. records c ≡ Intact ps) (λ c e. e ∙ holds) run

    one : SomeFrom (length past) past' (λ c. records c ≡ Intact ps)
    one = some_weaker (length past) past' (λ c. records c ≡ r) (λ c. records c ≡ Intact ps) (λ c e. e ∙ holds) some
