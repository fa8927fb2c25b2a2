-- What comes behind a halt, over plain values.
use Rattle.std.specs.Prelude.{◌≡◌, ◌&&◌, ℕ, Bool, true, List, [], ◌∷◌, ◌++◌, length, drop, Option, Some, None, is_some, refl}
use Rattle.std.specs.List.{list_all}
use Rattle.std.proofs.Common.{sym, ap, ◌∙◌, subst}
use Rattle.std.proofs.lemmas.List.{append-nil, append_assoc}
use Rattle.std.proofs.lemmas.List.Folds.{list_all-append}
use Rattle.node_events.specs.declared.event.Event.TheVariants.{Release}
use Rattle.event_core.specs.declared.entry.Entry.{Entry}
use Rattle.node_pool.specs.declared.halt.Halt.{Halt}
use Rattle.node_pool.specs.Releases.{is_release, OnlyReleases, history_at}

-- what stands behind the first of two lists
behind : {A : Type 0} (xs ys : List A) → drop (length xs) (xs ++ ys) ≡ ys
behind [] ys = refl
behind (x ∷ xs) ys = behind xs ys

abbrev gives_back : Entry → Bool
gives_back e = is_release e.event

-- a history with releases behind it goes on by releases alone
released_by : (before more : List Entry) → list_all gives_back more ≡ true → OnlyReleases before (before ++ more)
released_by before more all = record {
  goes_on = ap (λ (l : List Entry). before ++ l) (sym (behind before more));
  releases = ap (λ (l : List Entry). list_all gives_back l) (behind before more) ∙ all;
}

-- ---- the calls of a pool
-- the pool is halted now
pub none_since : (before es : List Entry) → before ≡ es → OnlyReleases before es
none_since before es same = subst (λ (l : List Entry). OnlyReleases before l) (append-nil before ∙ same) (released_by before [] refl)

-- it isn't halted
pub unhalted_since : (h : Option Halt) (before es : List Entry) → h ≡ None → is_some h ≡ true → OnlyReleases before es
unhalted_since None before es none halted = cc
unhalted_since (Some h) before es none halted = cc

-- its history stays
pub same_since : (before es fs : List Entry) → fs ≡ es → OnlyReleases before es → OnlyReleases before fs
same_since before es fs same only = subst (λ (l : List Entry). OnlyReleases before l) (sym same) only

-- a node is given back
pub more_since : (before es fs : List Entry) (w : Option ℕ) (node : ℕ) → fs ≡ es ++ record { worker = w; event = Release node } ∷ [] → OnlyReleases before es → OnlyReleases before fs
more_since before es fs w node more only =
    subst (λ (l : List Entry). OnlyReleases before l) (sym whole)
    (released_by before (since ++ last ∷ []) (list_all-append gives_back since (last ∷ []) ∙ ap (λ (b : Bool). b && true) only.releases))
  where
    last : Entry
    last = record { worker = w; event = Release node }

    since : List Entry
    since = drop (length before) es

    whole : fs ≡ before ++ (since ++ last ∷ [])
    whole = more ∙ ap (λ (l : List Entry). l ++ last ∷ []) only.goes_on ∙ append_assoc before since (last ∷ [])

-- ---- the history when the pool was halted
-- the call halted it
pub history_now : (h : Option Halt) (k : Halt) (before found : List Entry) → h ≡ None → history_at h (Some k) before found ≡ found
history_now None k before found none = refl
history_now (Some h) k before found none = cc

-- its halt stays
pub history_kept : (h k : Option Halt) (before found : List Entry) → k ≡ h → history_at h k before found ≡ before
history_kept None None before found same = refl
history_kept None (Some k) before found same = cc
history_kept (Some h) k before found same = refl
