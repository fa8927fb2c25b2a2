-- A sync of a disk that is read as some payloads, and then calls at each moment of which a crash leaves these.
use Rattle.std.specs.Prelude.{◌≡◌, ℕ, ◌+◌, List, [], ◌∷◌, ◌++◌, length, None, refl}
use Rattle.std.proofs.Common.{arith, ap, subst, sym, ◌∙◌, length-append}
use Rattle.outside.specs.Images.{IsImage, AtRest, LeavesOnly, OneMomentPasses, Fails, moment_after_sync}
use Rattle.outside.specs.Lemmas.Passing.{started, goes_on, fails_on, joined, weaker}
use Rattle.outside.specs.declared.moment.Moment.{Moment}
use Rattle.node_journal.specs.History.{EachFrom, SomeFrom, Anything, KeepsHistory}
use Rattle.node_journal.specs.Records.{Intact, records}
use Rattle.node_journal.specs.Lemmas.Histories.{run_each, remains_each, some_each, some_fails, some_goes, some_joined, some_none}
use Rattle.node_journal.specs.Lemmas.Opening.{kept_opened}
use Rattle.node_journal.specs.Lemmas.Resting.{rested}

-- what a crash leaves before a sync of a disk at rest, and after it
before : (n : Moment) → AtRest n → (c : List ℕ) → IsImage n c → records c ≡ records n.seen
before n rests c is = ap records (rests c is)

after : (n : Moment) (c : List ℕ) → IsImage (moment_after_sync n) c → records c ≡ records n.seen
after n c is = ap records (rested n.seen c is)

here : (n : Moment) → IsImage n n.seen → (c : List ℕ) × IsImage n c × (records c ≡ records n.seen)
here n seen = (n.seen, seen, refl)

-- the sync fails
pub sync_fails : {p : List Moment} {n : Moment} {p1 : List Moment} {n1 : Moment} → AtRest n → Fails p n p1 n1 (moment_after_sync n) → LeavesOnly p n p1 n1 (λ c. records c ≡ records n.seen)
sync_fails {p = p} {n = n} {p1 = p1} {n1 = n1} rests f =
    fails_on p p p1 n n n1 (moment_after_sync n) (λ c. records c ≡ records n.seen) (started p n (λ c. records c ≡ records n.seen) (before n rests)) f (before n rests) (after n)

pub sync_may_fail : {p : List Moment} {n : Moment} {p1 : List Moment} {n1 : Moment} → IsImage n n.seen → Fails p n p1 n1 (moment_after_sync n) → SomeFrom (length p) p1 (λ c. records c ≡ records n.seen)
sync_may_fail {p = p} {n = n} {p1 = p1} {n1 = n1} seen f =
    some_fails (length p) p n p1 n1 (moment_after_sync n) (λ c. records c ≡ records n.seen) (some_none p (λ c. records c ≡ records n.seen)) (here n seen) f

-- it succeeds, and the calls behind it are made
module _ {p : List Moment} {n : Moment} {p1 : List Moment} {n1 : Moment} {p2 : List Moment} {n2 : Moment} (ps : List (List ℕ)) (held : records n.seen ≡ Intact ps)
    (g : OneMomentPasses p n p1 n1 (moment_after_sync n)) (run : LeavesOnly p1 n1 p2 n2 (λ c. records c ≡ Intact ps)) where
  same_run : LeavesOnly p1 n1 p2 n2 (λ c. records c ≡ records n.seen)
  same_run = weaker p1 n1 p2 n2 (λ c. records c ≡ Intact ps) (λ c. records c ≡ records n.seen) (λ c e. e ∙ sym held) run

  pub all_leave : AtRest n → LeavesOnly p n p2 n2 (λ c. records c ≡ records n.seen)
  all_leave rests = joined p p1 p2 n n1 n2 (λ c. records c ≡ records n.seen)
      (goes_on p p p1 n n n1 (moment_after_sync n) (λ c. records c ≡ records n.seen) (started p n (λ c. records c ≡ records n.seen) (before n rests)) g (after n)) same_run

  pub all_can : IsImage n n.seen → SomeFrom (length p1) p2 Anything → SomeFrom (length p) p2 (λ c. records c ≡ records n.seen)
  all_can seen some = some_joined (length p) p1 n1 p2 n2 (λ c. records c ≡ records n.seen) (λ c. records c ≡ records n.seen) same_run
      (some_goes (length p) p n p1 n1 (moment_after_sync n) (λ c. records c ≡ records n.seen) (some_none p (λ c. records c ≡ records n.seen)) (here n seen) g)
      (some_each p1 n1 p2 n2 (λ c. records c ≡ records n.seen) same_run some)

  pub opened_at : (t : ℕ) → t ≡ length p1 → t ≡ length p + 1
  opened_at t at = at ∙ omega (arith, ap length g.passed, length-append p (n ∷ []))

  pub leave_since : (t : ℕ) → t ≡ length p1 → EachFrom t (p2 ++ n2 ∷ []) (λ c. records c ≡ Intact ps)
  leave_since t at = subst (λ (k : ℕ). EachFrom k (p2 ++ n2 ∷ []) (λ c. records c ≡ Intact ps)) (sym at) (run_each p1 n1 p2 n2 (λ c. records c ≡ Intact ps) run)

  pub kept_since : (t : ℕ) → t ≡ length p1 → SomeFrom (length p1) p2 Anything → IsImage n2 n2.seen → KeepsHistory t p2 n2 ps None
  kept_since t at some seen = kept_opened t p1 n1 p2 n2 ps (Intact ps) refl at run can (remains_each p1 n1 p2 n2 (Intact ps) run can seen)
    where
      can : SomeFrom (length p1) p2 (λ c. records c ≡ Intact ps)
      can = some_each p1 n1 p2 n2 (λ c. records c ≡ Intact ps) run some
