-- Lemmas: the lines of a finished tree are valid, and the last one assumes nothing.
use Rattle.std.specs.Prelude.{◌≡◌, ◌⊎◌, ◌<◌, ◌≤◌, ℕ, zero, suc, ◌+◌, ◌-◌, false, eqb, List, [], ◌∷◌, ◌++◌, length, All, slice_index_or, refl}
use Rattle.std.specs.List.{Contains}
use Rattle.std.proofs.Common.{sym, ap, ◌∙◌, subst, inl, inr, arith, length-append}
use Rattle.std.proofs.Math.ListN.{get_or-append}
use Rattle.std.proofs.Math.Seq.{get_or-append_seam}
use Rattle.std.proofs.lemmas.Bool.{eq-eqb, cases_lt, both_ways}
use Rattle.std.proofs.lemmas.List.Elements.{All-head, All-weaker}
use Rattle.fraction.specs.Rational.{ℚ}
use Rattle.problem.specs.declared.row.Sense.{Sense}
use Rattle.problem.specs.declared.row.Row.{Row}
use Rattle.cert_rows.specs.declared.line.Why.{Why}
use Rattle.cert_rows.specs.declared.line.Why.TheVariants.{Asm, Lin, Rnd, Uns}
use Rattle.cert_rows.specs.Lines.{CertLine, row_of, row_at, assumed_by, no_cert_line}
use Rattle.cert_rows.specs.Domination.{Dominates, ExcludesZero, IsAsTight}
use Rattle.problem.specs.declared.row.Sense.TheVariants.{G, L, E}
use Rattle.cert_rows.specs.Assumptions.{assumes, without}
use Rattle.cert_rows.specs.Validity.{IsSplit, IsInequality, IsAssumption, Follows, derived_line_of, with_derived, AllFollow}
use Rattle.cert_merge.specs.Tree.{NodeLine, derived_of, IsChild, IsNodeLine, AreNodeLines, paths_with, IsConcluded}
use Rattle.cert_merge.specs.Laws.{FinishedTreesFollow}
use Rattle.cert_merge.specs.Lemmas.Closings.{union_holds, without_holds}
use Rattle.cert_merge.specs.Lemmas.LongerLines.{BeginsWith, same_row, same_assumed, same_all_assumed, still_linear, still_rounded}

-- ---- nodes so far
-- the line of a node dominates the goal and assumes no more than its path
record IsDone (goal : Row) (l : CertLine) (path : List ℕ) : Type 0 where
  dominates : Dominates l.row goal
  within : All (Contains path) l.assumes

record AreDone (B : List CertLine) (goal : Row) (ls : List CertLine) (paths : List (List ℕ)) : Type 0 where
  begins : BeginsWith B ls
  long : length ls ≡ length B + length paths
  done : (q : ℕ) → q < length paths → IsDone goal (slice_index_or ls (length B + q) no_cert_line) (slice_index_or paths q [])

behind : (l k : ℕ) (path : List ℕ) → Contains (l ∷ path) k → eqb l k ≡ false → Contains path k
behind l k path (zero, h, e) f = absurd (both_ways (eqb l k) f (eq-eqb l k e))
behind l k path (suc n, h, e) f = (n, omega (arith, h), e)

excludes_inequality : (s : Sense) (rhs : ℚ) → ExcludesZero s rhs → IsInequality s
excludes_inequality G rhs h = tt
excludes_inequality L rhs h = tt
excludes_inequality E rhs h = absurd h

tight_inequality : (s : Sense) (a b : ℚ) → IsAsTight s a b → IsInequality s
tight_inequality G a b h = tt
tight_inequality L a b h = tt
tight_inequality E a b h = absurd h

-- only a G or L row dominates itself
of_itself : (g : Row) → Dominates g g → IsInequality g.sense
of_itself g (inl h) = excludes_inequality g.sense g.rhs h.excludes
of_itself g (inr h) = tight_inequality g.sense g.rhs g.rhs h.rhs

module _ (B : List CertLine) (goal : Row) (itself : Dominates goal goal) (ls : List CertLine) (paths : List (List ℕ)) (d : AreDone B goal ls paths) where
  -- what is left of a child's assumptions lies on the parent's path
  child_within : (path : List ℕ) (i l : ℕ) → IsChild B paths path i l → All (Contains path) (without l (assumed_by ls i))
  child_within path i l c =
      without_holds (Contains path) l (assumed_by ls i)
      (All-weaker (Contains (l ∷ path)) (λ k. (eqb l k ≡ false) → Contains path k) (λ k h f. behind l k path h f) (assumed_by ls i)
      (subst (λ n. All (Contains (l ∷ path)) (assumed_by ls n)) (sym c.line)
      (subst (λ (ns : List ℕ). All (Contains ns) (assumed_by ls (length B + c.place))) c.path_is (d.done c.place c.there).within)))

  child_dominates : (path : List ℕ) (i l : ℕ) → IsChild B paths path i l → Dominates (row_at ls i) goal
  child_dominates path i l c = subst (λ n. Dominates (row_at ls n) goal) (sym c.line) (d.done c.place c.there).dominates

  still_assumption : (l : ℕ) → IsAssumption B l → IsAssumption ls l
  still_assumption l a = record { earlier = omega (arith, a.earlier, d.begins.longer); itself = same_assumed B ls d.begins l a.earlier ∙ a.itself }

  follows_node : (row : Row) (path : List ℕ) (w : Why) → IsNodeLine B goal paths row path w
      → Follows ls row w × Dominates row goal × All (Contains path) (assumes ls w)
  follows_node row path Asm h = absurd h
  follows_node row path (Lin mult) h =
      (still_linear B ls d.begins row mult h.follows, h.dominates, subst (All (Contains path)) (sym (same_all_assumed B ls d.begins mult h.follows.combined.earlier)) h.within)
  follows_node row path (Rnd mult) h =
      (still_rounded B ls d.begins row mult h.follows, h.dominates, subst (All (Contains path)) (sym (same_all_assumed B ls d.begins mult h.follows.combined.earlier)) h.within)
  follows_node row path (Uns i1 l1 i2 l2) h = (
    record {
      inequality = subst IsInequality (sym (ap (λ (r : Row). r.sense) h.row_is)) (of_itself goal itself);
      first_earlier = omega (arith, d.long, h.first.there, h.first.line);
      second_earlier = omega (arith, d.long, h.second.there, h.second.line);
      first_dominates = subst (λ (r : Row). Dominates (row_at ls i1) r) (sym h.row_is) (child_dominates path i1 l1 h.first);
      second_dominates = subst (λ (r : Row). Dominates (row_at ls i2) r) (sym h.row_is) (child_dominates path i2 l2 h.second);
      first_assumption = still_assumption l1 h.first.is_assumption;
      second_assumption = still_assumption l2 h.second.is_assumption;
      split = subst (λ (r : Row). IsSplit r (row_at ls l2)) (sym (same_row B ls d.begins l1 h.first.is_assumption.earlier))
          (subst (λ (r : Row). IsSplit (row_at B l1) r) (sym (same_row B ls d.begins l2 h.second.is_assumption.earlier)) h.split);
    },
    subst (λ (r : Row). Dominates r goal) (sym h.row_is) itself,
    union_holds (Contains path) (without l1 (assumed_by ls i1)) (without l2 (assumed_by ls i2)) (child_within path i1 l1 h.first) (child_within path i2 l2 h.second),
  )

  -- one node more
  one_done : (y : CertLine) (path : List ℕ) → IsDone goal y path → AreDone B goal (ls ++ y ∷ []) (paths ++ path ∷ [])
  one_done y path h = record {
    begins = record {
      longer = omega (arith, d.begins.longer, length-append ls (y ∷ []));
      same = λ i l. get_or-append ls (y ∷ []) no_cert_line i (omega (arith, l, d.begins.longer)) ∙ d.begins.same i l;
    };
    long = length-append ls (y ∷ []) ∙ (let e = d.long in let f = length-append paths (path ∷ []) in omega arith);
    done = λ q l. at q (cases_lt q (length paths)) l;
  }
    where
      at : (q : ℕ) → (q < length paths) ⊎ (length paths ≤ q) → q < length (paths ++ path ∷ [])
          → IsDone goal (slice_index_or (ls ++ y ∷ []) (length B + q) no_cert_line) (slice_index_or (paths ++ path ∷ []) q [])
      at q (inl h') l =
          subst (λ (z : CertLine). IsDone goal z (slice_index_or (paths ++ path ∷ []) q [])) (sym (get_or-append ls (y ∷ []) no_cert_line (length B + q) (omega (arith, d.long))))
          (subst (λ (ns : List ℕ). IsDone goal (slice_index_or ls (length B + q) no_cert_line) ns) (sym (get_or-append paths (path ∷ []) [] q h')) (d.done q h'))
      at q (inr h') l =
          let e : q ≡ length paths = omega (arith, length-append paths (path ∷ [])) in
          subst (λ (z : CertLine). IsDone goal z (slice_index_or (paths ++ path ∷ []) q []))
          (sym (ap (λ n. slice_index_or (ls ++ y ∷ []) n no_cert_line) (let f : length B + q ≡ length ls = omega (arith, d.long) in f) ∙ get_or-append_seam ls y [] no_cert_line))
          (subst (λ (ns : List ℕ). IsDone goal y ns) (sym (ap (λ n. slice_index_or (paths ++ path ∷ []) n []) e ∙ get_or-append_seam paths path [] [])) h)

-- ---- all nodes
-- each line of the tree follows from those before it
follow_on : (B : List CertLine) (goal : Row) → Dominates goal goal → (ls : List CertLine) (paths : List (List ℕ)) → AreDone B goal ls paths → (ns : List NodeLine) → AreNodeLines B goal paths ns
    → AllFollow ls (derived_of ns) × AreDone B goal (with_derived ls (derived_of ns)) (paths_with paths ns)
follow_on B goal g ls paths d [] h = (tt, d)
follow_on B goal g ls paths d (n ∷ ns) h =
    let f = follows_node B goal g ls paths d (row_of n.row) n.path n.why h.0 in
    let y = derived_line_of ls (n.row, n.why) in
    let r = follow_on B goal g (ls ++ y ∷ []) (paths ++ n.path ∷ []) (one_done B goal g ls paths d y n.path (record { dominates = f.1; within = f.2 })) ns h.1 in
    ((f.0, r.0), r.1)

none_done : (B : List CertLine) (goal : Row) → AreDone B goal B []
none_done B goal = record {
  begins = record { longer = omega arith; same = λ i h. refl };
  long = omega arith;
  done = λ q l. absurd (omega (arith, l));
}

no_assumptions : (ks : List ℕ) → All (Contains []) ks → ks ≡ []
no_assumptions [] h = refl
no_assumptions (k ∷ ks) h = let c = All-head (Contains []) k ks h in absurd (omega (arith, c.1))

concluded : (B : List CertLine) (goal : Row) (ls : List CertLine) (paths : List (List ℕ)) → AreDone B goal ls paths → 0 < length paths → slice_index_or paths (length paths - 1) [] ≡ []
    → IsConcluded ls goal
concluded B goal ls paths d h e =
    let r = d.done (length paths - 1) (omega arith) in
    let i : length B + (length paths - 1) ≡ length ls - 1 = omega (arith, d.long) in
    record {
      dominates = subst (λ n. Dominates (row_at ls n) goal) i r.dominates;
      unconditional = subst (λ n. assumed_by ls n ≡ []) i (no_assumptions _ (subst (λ (ns : List ℕ). All (Contains ns) (assumed_by ls (length B + (length paths - 1)))) e r.within));
    }

-- a finished tree behind the lines B, its root last
pub tree_follows : FinishedTreesFollow
tree_follows B goal g ns h l e =
    let r = follow_on B goal g B [] (none_done B goal) ns h in
    (r.0, concluded B goal (with_derived B (derived_of ns)) (paths_with [] ns) r.1 l e)
