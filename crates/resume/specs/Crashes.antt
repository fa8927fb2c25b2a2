-- What a crash leaves while a journal is opened.
use Rattle.std.specs.Prelude.{◌≡◌, ◌⊎◌, ℕ, Bool, false, List, [], ◌∷◌, ◌++◌}
use Rattle.outside.specs.declared.moment.Moment.{Moment}
use Rattle.node_journal.specs.Records.{Records, Intact, Foreign, BrokenAt, records}
use Rattle.node_journal.specs.History.{EachFrom, IsPrefixOf, IsHistory}
use Rattle.node_journal.specs.Whole.{payloads_in}
use Rattle.node_pool.specs.Payloads.{with_upgrade}

-- the records with that of the upgrade as the last one where it isn't there; where there is no payload, none is added
abbrev pub upgraded : Records → Records
upgraded (Intact []) = Intact []
upgraded (Intact (model ∷ ps)) = Intact (with_upgrade (model ∷ ps))
upgraded Foreign = Foreign
upgraded (BrokenAt place) = BrokenAt place

-- the disk holds these payloads, or these with the record of the upgrade
abbrev pub IsUpgradedOrNot : List (List ℕ) → List ℕ → Type 0
IsUpgradedOrNot ps c = (records c ≡ Intact ps) ⊎ (records c ≡ Intact (with_upgrade ps))

-- the disk holds the records from before, or these with that of the upgrade
abbrev pub IsAsBefore : Records → List ℕ → Type 0
IsAsBefore before c = (records c ≡ before) ⊎ (records c ≡ upgraded before)

-- or, where there were none, the record of this model, or this and that of the upgrade
abbrev pub IsAsBeforeOrBegun : Records → List ℕ → List ℕ → Type 0
IsAsBeforeOrBegun before model c = IsAsBefore before c ⊎ ((before ≡ Intact []) × IsAsBefore (Intact (model ∷ [])) c)

-- What crashes leave at the moments of a call that has ended, from the moment of this number on: a history, and unless the disk failed each leaves a
-- prefix of the payloads that it holds at the end.
pub record LeavesHistory (from : ℕ) (past : List Moment) (now : Moment) (failed : Bool) : Type 0 where
  pub history : IsHistory from (past ++ now ∷ [])
  pub prefixes : failed ≡ false → EachFrom from (past ++ now ∷ []) (λ c. IsPrefixOf (payloads_in now) (records c))
