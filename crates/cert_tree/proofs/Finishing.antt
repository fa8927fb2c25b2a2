-- The certificate of a finished search is valid, and what it claims is true.
use Rattle.std.specs.Prelude.{◌≡◌, ◌<◌, ℤ, pos, List, [], ◌∷◌, ◌++◌, length, All, Any, slice_index_or, Option, Some, None, option_map, refl}
use Rattle.std.proofs.Common.{sym, ap, ◌∙◌, subst, inl, inr, arith}
use Rattle.std.proofs.lemmas.Int.{ints}
use Rattle.std.proofs.lemmas.List.Elements.{All-nil, All-cons}
use Rattle.fraction.specs.Rational.{ℚ, whole, ◌≤ℚ◌}
use Rattle.fraction.specs.Lemmas.Order.{same_le, less_most}
use Rattle.problem.specs.declared.row.Row.{Row}
use Rattle.problem.specs.Problem.{Problem}
use Rattle.problem.specs.declared.objective_sense.ObjectiveSense.{ObjectiveSense}
use Rattle.problem.specs.declared.objective_sense.ObjectiveSense.TheVariants.{Minimise, Maximise}
use Rattle.problem.specs.Directions.{directed_value, aim_at, IsAsGood}
use Rattle.problem.specs.Lemmas.Directions.{neg-neg, value-directed}
use Rattle.problem.specs.Feasible.{IsFeasible, objective_at}
use Rattle.problem.specs.Best.{IsVoid}
use Rattle.problem.specs.Limited.{IsLimited}
use Rattle.cert_rows.specs.declared.line.CertRow.{CertRow}
use Rattle.cert_rows.specs.declared.line.Why.{Why}
use Rattle.cert_rows.specs.declared.certificate.Goal.{Goal}
use Rattle.cert_rows.specs.declared.certificate.Goal.TheVariants.{Infeas, Range}
use Rattle.cert_rows.specs.declared.certificate.Cert.{Cert}
use Rattle.cert_rows.specs.Lines.{CertLine}
use Rattle.cert_rows.specs.Domination.{Dominates, IsAbsurd, ExcludesZero}
use Rattle.cert_rows.specs.Validity.{with_derived, AllFollow, given_lines, all_lines, last_row, objective_row, ShowsRange, ShowsClaim, IsValid}
use Rattle.cert_rows.specs.Soundness.{IsInRange}
use Rattle.cert_rows.specs.Lemmas.Soundness.{ClaimHolds, claim_holds}
use Rattle.node_tree.specs.declared.branch.Node.{Node}
use Rattle.node_tree.specs.Nodes.{no_node}
use Rattle.derivation_book.specs.Known.{known_lines}
use Rattle.incumbent.specs.declared.best.Best.{Best}
use Rattle.incumbent.specs.Offers.{cutoff_of, point_of, IsIncumbentOf}
use Rattle.event_core.specs.declared.entry.Entry.{Entry}
use Rattle.event_core.specs.States.{State, best_value}
use Rattle.event_core.specs.Histories.{state_of}
use Rattle.cert_merge.specs.Merged.{part_of, claim_of, points_of, absurd_row, goal_row, cut_lines, assumption_lines, node_lines, certificate_of, merged}
use Rattle.cert_merge.specs.Tree.{IsConcluded}
use Rattle.cert_merge.specs.Lemmas.TreeLemmas.{tree_follows}
use Rattle.cert_merge.specs.Lemmas.Finished.{IsDone, done_from, of_problem}
use Rattle.cert_tree.specs.Laws.{IsTrueClaim, MergedIsValid, MergedIsTrue, InfeasibilityIsExact}
use Rattle.cert_tree.proofs.Extending.{with_derived-append, AllFollow-append}
use Rattle.cert_tree.proofs.Base.{rows_are, base_start}
use Rattle.cert_tree.proofs.Cuts.{cuts_follow}
use Rattle.cert_tree.proofs.Assumed.{lines_are}
use Rattle.cert_tree.proofs.Closed.{goal_itself, positive}
use Rattle.cert_tree.proofs.Nodes.{tree_lines, tree_derived, root_path, tree_is}

-- ---- claims
-- what dominates `0 >= 1` is absurd
absurd_from : (r : Row) → Dominates r absurd_row → IsAbsurd r
absurd_from r (inl h) = h
absurd_from r (inr h) = record {
  no_terms = h.terms;
  excludes = subst (λ s. ExcludesZero s r.rhs) (sym h.sense) (less_most (whole (pos 0)) (whole (pos 1)) r.rhs (positive (pos 1) (omega (arith, ints))) h.rhs);
}

-- a value of the aim, turned back, is the own objective's
turned_back : (s : ObjectiveSense) (v : ℚ) → directed_value s (directed_value s v) ≡ v
turned_back Minimise v = refl
turned_back Maximise v = neg-neg v

own_value : (p : Problem) (x : List ℤ) (v : ℚ) → v ≡ aim_at p x → directed_value p.sense v ≡ objective_at p x
own_value p x v e = ap (λ w. directed_value p.sense w) (e ∙ value-directed p.sense p.objective x) ∙ turned_back p.sense (objective_at p x)

-- the own objective at the incumbent
abbrev told_of : Problem → Option Best → Option ℚ
told_of p o = option_map (λ v. directed_value p.sense v) (cutoff_of o)

shows_range : (s : ObjectiveSense) (p : Problem) (c : Cert) (x : List ℤ) (v : ℚ) → c.points ≡ x ∷ [] → v ≡ objective_at p x → Dominates (last_row c) (objective_row p v) → ShowsRange s p c v v
shows_range Minimise p c x v e q d = (d, subst (Any (λ y. objective_at p y ≤ℚ v)) (sym e) (0, x, omega arith, refl, same_le (objective_at p x) v (sym q)))
shows_range Maximise p c x v e q d = (d, subst (Any (λ y. v ≤ℚ objective_at p y)) (sym e) (0, x, omega arith, refl, same_le v (objective_at p x) q))

shows : (p : Problem) (c : Cert) (o : Option Best) → IsIncumbentOf p o → c.points ≡ points_of (point_of o) → Dominates (last_row c) (goal_row p (told_of p o)) → ShowsClaim p c (claim_of (told_of p o))
shows p c None h e d = absurd_from (last_row c) d
shows p c (Some b) h e d = shows_range p.sense p c b.point (directed_value p.sense b.value) e (own_value p b.point b.value (h b refl).value) d

listed : (p : Problem) (o : Option Best) → IsIncumbentOf p o → All (IsFeasible p) (points_of (point_of o))
listed p None h = All-nil (IsFeasible p)
listed p (Some b) h = All-cons (IsFeasible p) b.point [] (h b refl).feasible (All-nil (IsFeasible p))

-- where both ends of the range are one value, no feasible point is better
as_good_as : (s : ObjectiveSense) (p : Problem) (c : Cert) (v : ℚ) → IsInRange s p c v v → (y : List ℤ) → IsFeasible p y → IsAsGood s v (objective_at p y)
as_good_as Minimise p c v k y f = k.below y f
as_good_as Maximise p c v k y f = k.above y f

true_claim : (p : Problem) (c : Cert) (o : Option Best) → IsIncumbentOf p o → ClaimHolds p c (claim_of (told_of p o)) → IsTrueClaim p (points_of (point_of o)) (claim_of (told_of p o))
true_claim p c None h k = k
true_claim p c (Some b) h k =
    let is = h b refl in
    let own = own_value p b.point b.value is.value in
    record {
      point = b.point;
      listed = refl;
      best = record { feasible = is.feasible; no_better = λ y f. subst (λ v. IsAsGood p.sense v (objective_at p y)) own (as_good_as p.sense p c (directed_value p.sense b.value) k y f) };
      lower = own;
      upper = own;
    }

-- ---- exactly where
not_void : (p : Problem) (points : List (List ℤ)) (g : Goal) → IsTrueClaim p points g → IsVoid p → g ≡ Infeas
not_void p points Infeas h v = refl
not_void p points (Range lb ub) h v = absurd (v h.point h.best.feasible)

void_from : (p : Problem) (points : List (List ℤ)) (g : Goal) → IsTrueClaim p points g → g ≡ Infeas → IsVoid p
void_from p points g h e = subst (IsTrueClaim p points) e h

-- ---- the lines
first_node : (ns : List Node) → 0 < length ns → (n : Node) × (rest : List Node) × (ns ≡ n ∷ rest)
first_node [] h = absurd (omega (arith, h))
first_node (n ∷ ns) h = (n, ns, refl)

module _ (s : State) (es : List Entry) (f : IsDone s es) (limited : IsLimited s.problem) where
  abbrev given : List CertLine
  given = given_lines (part_of s.problem).rows

  abbrev cut : List (CertRow × Why)
  cut = cut_lines 0 s.cuts

  abbrev assumed : List (CertRow × Why)
  assumed = assumption_lines 0 s.nodes

  abbrev nodes : List (CertRow × Why)
  nodes = node_lines s es (length s.nodes)

  -- the lines before the nodes
  abbrev before : List CertLine
  before = with_derived (known_lines s.problem s.cuts) assumed

  cuts_are : AllFollow given cut × (with_derived given cut ≡ known_lines s.problem s.cuts)
  cuts_are = subst (λ ls. AllFollow ls cut × (with_derived ls cut ≡ known_lines s.problem s.cuts)) (sym (base_start s.problem)) (cuts_follow s.problem limited [] s.cuts 0 tt f.sound.cuts)

  nodes_follow : AllFollow before nodes × IsConcluded (with_derived before nodes) (goal_row s.problem (best_value s))
  nodes_follow =
      let n = first_node s.nodes f.sound.tree.root_there in
      let lines = (lines_are s n.0 n.1 n.2 (ap (λ ns. (slice_index_or ns 0 no_node).branch) (sym n.2) ∙ f.sound.tree.root) f.sound.tree.reached).1 in
      let root = root_path s es f.sound.tree.root_there in
      subst (λ ds. AllFollow before ds × IsConcluded (with_derived before ds) (goal_row s.problem (best_value s))) (tree_derived s es (length s.nodes))
      (tree_follows before (goal_row s.problem (best_value s)) (goal_itself s.problem (best_value s)) (tree_lines s es (length s.nodes)) (tree_is s es f limited before lines) root.0 root.1)

  lines_follow : AllFollow given (cut ++ assumed ++ nodes) × (with_derived given (cut ++ assumed ++ nodes) ≡ with_derived before nodes)
  lines_follow =
      let n = first_node s.nodes f.sound.tree.root_there in
      let e = cuts_are.1 in
      let q : with_derived given (cut ++ assumed) ≡ before = with_derived-append given cut assumed ∙ ap (λ ls. with_derived ls assumed) e in
      let a = (lines_are s n.0 n.1 n.2 (ap (λ ns. (slice_index_or ns 0 no_node).branch) (sym n.2) ∙ f.sound.tree.root) f.sound.tree.reached).0 in (
        AllFollow-append given (cut ++ assumed) nodes
            (AllFollow-append given cut assumed cuts_are.0 (subst (λ ls. AllFollow ls assumed) (sym e) a)) (subst (λ ls. AllFollow ls nodes) (sym q) nodes_follow.0),
        with_derived-append given (cut ++ assumed) nodes ∙ ap (λ ls. with_derived ls nodes) q,
      )

  certificate_valid : IsValid s.problem (certificate_of s es)
  certificate_valid =
      let e = lines_follow.1 in
      let last : IsConcluded (all_lines (certificate_of s es)) (goal_row s.problem (best_value s)) = subst (λ ls. IsConcluded ls (goal_row s.problem (best_value s))) (sym e) nodes_follow.1 in
      record {
        names = refl;
        objective = refl;
        sense = refl;
        rows = rows_are s.problem;
        solutions = listed s.problem s.incumbent f.sound.incumbent;
        lines = lines_follow.0;
        unconditional = last.unconditional;
        claim = shows s.problem (certificate_of s es) s.incumbent f.sound.incumbent refl last.dominates;
      }

  certificate_true : IsTrueClaim s.problem (points_of (point_of s.incumbent)) (claim_of (best_value s))
  certificate_true = true_claim s.problem (certificate_of s es) s.incumbent f.sound.incumbent (claim_holds s.problem (certificate_of s es) certificate_valid)

-- ---- the laws
module _ (p : Problem) (limited : IsLimited p) where
  here : (es : List Entry) → IsLimited (state_of p es).problem
  here es = subst IsLimited (sym (of_problem p es)) limited

  pub merged_valid : MergedIsValid p
  merged_valid es f = subst (λ q. IsValid q (merged p es)) (of_problem p es) (certificate_valid (state_of p es) es (done_from p es f.legal f.none_open) (here es))

  pub merged_true : MergedIsTrue p
  merged_true es f =
      subst (λ q. IsTrueClaim q (merged p es).points (merged p es).claim) (of_problem p es) (certificate_true (state_of p es) es (done_from p es f.legal f.none_open) (here es))

  pub infeasibility_exact : InfeasibilityIsExact p
  infeasibility_exact es f =
      let h = merged_true es f in
      (not_void p (merged p es).points (merged p es).claim h, void_from p (merged p es).points (merged p es).claim h)
