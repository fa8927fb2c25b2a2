-- Lemmas: what is shown stays shown as cuts are added and as the cutoff falls.
use Rattle.std.specs.Prelude.{◌≡◌, ◌<◌, ◌+◌, ℕ, zero, suc, pos, Bool, true, false, cond, List, [], ◌∷◌, ◌++◌, map, length, All, slice_index_or, take, drop, Option, Some, None, option_map, refl}
use Rattle.std.specs.Option.{option_and_then}
use Rattle.std.proofs.Common.{sym, ap, ◌∙◌, subst, arith}
use Rattle.std.proofs.lemmas.List.Elements.{All-head, All-tail}
use Rattle.std.proofs.lemmas.List.{append_assoc, map-append, length-append, take-append-drop}
use Rattle.fraction.specs.Rational.{ℚ, whole, ◌≤ℚ◌}
use Rattle.fraction.specs.Lemmas.Rational.{≤ℚ_trans, ≤ℚ_refl}
use Rattle.problem_box.specs.declared.span.Span.{Span}
use Rattle.problem.specs.declared.row.Sense.TheVariants.{G}
use Rattle.problem.specs.declared.row.Row.{Row}
use Rattle.problem.specs.Linear.{coefficient}
use Rattle.problem.specs.Problem.{Problem}
use Rattle.cert_rows.specs.Lines.{CertLine, row_at, no_cert_line}
use Rattle.cert_rows.specs.Combination.{HasRightSign}
use Rattle.cert_rows.specs.Validity.{IsCombination, bound_rows}
use Rattle.node_events.specs.declared.proof.Proof.{Proof}
use Rattle.node_events.specs.declared.proof.Proof.TheVariants.{Empty, Refute, Bound}
use Rattle.derivation_book.specs.declared.cut.Cut.{Cut}
use Rattle.derivation_book.specs.Known.{known_rows, known_lines}
use Rattle.derivation_book.specs.Sums.{with_product, sum_from, coefficient_at, side_at, combined_columns, Sums, sums_of, combined}
use Rattle.derivation_book.specs.Rounded.{rounded_sums, rounded_row}
use Rattle.derivation_book.specs.Price.{with_columns, price}
use Rattle.derivation_book.specs.Legal.{AreProofMultipliers, IsBounding, IsLegalProof, IsAtMost}
use Rattle.derivation_book.specs.Lemmas.Numbering.{in_prefix}
use Rattle.derivation_book.specs.Lemmas.Deciding.{decides-usable}
use Rattle.derivation_book.specs.Lemmas.Rounded.{made_from}
use Rattle.problem.specs.Directions.{aim}

-- ---- combinations of lines that are there
same_sum : (f g : ℕ → ℚ) (s : ℚ) (mult : List (ℕ × ℚ)) → All (λ m. f m.0 ≡ g m.0) mult → sum_from f s mult ≡ sum_from g s mult
same_sum f g s [] h = refl
same_sum f g s (m ∷ ms) h =
    ap (λ a. option_and_then (λ t. sum_from f t ms) (with_product s m.1 a)) (All-head (λ (m : ℕ × ℚ). f m.0 ≡ g m.0) m ms h)
    ∙ later (with_product s m.1 (g m.0)) (λ t. same_sum f g t ms (All-tail (λ (m : ℕ × ℚ). f m.0 ≡ g m.0) m ms h))
  where
    later : (o : Option ℚ) → ((t : ℚ) → sum_from f t ms ≡ sum_from g t ms) → option_and_then (λ t. sum_from f t ms) o ≡ option_and_then (λ t. sum_from g t ms) o
    later None k = refl
    later (Some t) k = k t

module _ (ls more : List CertLine) (mult : List (ℕ × ℚ)) (there : All (λ m. m.0 < length ls) mult) where
  at_prefix : (i : ℕ) → i < length ls → row_at (ls ++ more) i ≡ row_at ls i
  at_prefix i l = ap (λ (k : CertLine). k.row) (in_prefix ls more i no_cert_line l)

  same_columns : (j k : ℕ) → combined_columns (ls ++ more) mult j k ≡ combined_columns ls mult j k
  same_columns j zero = refl
  same_columns j (suc k) = λ i.
      option_and_then (λ c. option_map (λ cs. c ∷ cs) (same_columns (j + 1) k i))
      (same_sum (coefficient_at (ls ++ more) j) (coefficient_at ls j) (whole (pos 0)) mult (λ q d l. ap (λ (r : Row). coefficient r.terms j) (at_prefix (slice_index_or mult q d).0 (there q d l))) i)

  pub same_combined : (n : ℕ) → combined (ls ++ more) mult n ≡ combined ls mult n
  same_combined n = λ i.
      option_and_then (λ cs. option_map (sums_of cs)
      (same_sum (side_at (ls ++ more)) (side_at ls) (whole (pos 0)) mult (λ q d l. ap (λ (r : Row). r.rhs) (at_prefix (slice_index_or mult q d).0 (there q d l))) i))
      (same_columns 0 n i)

-- ---- more cuts
abbrev row_of_cut : Cut → Row
row_of_cut c = c.row

abbrev line_with : Row → CertLine
line_with r = record { row = r; assumes = [] }

module _ (p : Problem) (cs more : List Cut) where
  abbrev ls : List CertLine
  ls = known_lines p cs

  abbrev added : List CertLine
  added = map line_with (map row_of_cut more)

  more_lines : known_lines p (cs ++ more) ≡ ls ++ added
  more_lines =
      ap (map line_with) (ap (λ rs. p.rows ++ bound_rows 0 p.spans ++ rs) (map-append row_of_cut cs more) ∙ sym (append_assoc (p.rows ++ bound_rows 0 p.spans) (map row_of_cut cs) (map row_of_cut more)))
      ∙ map-append line_with (known_rows p cs) (map row_of_cut more)

  pub still_combination : (mult : List (ℕ × ℚ)) → IsCombination ls G mult → IsCombination (known_lines p (cs ++ more)) G mult
  still_combination mult h =
      subst (λ (ks : List CertLine). IsCombination ks G mult) (sym more_lines) record {
        earlier = λ q d l. omega (arith, h.earlier q d l, length-append ls added);
        signs = λ q d l.
            subst (λ (r : Row). HasRightSign G r.sense (slice_index_or mult q d).1) (sym (at_prefix ls added mult h.earlier (slice_index_or mult q d).0 (h.earlier q d l))) (h.signs q d l);
      }

  pub still_combined : (mult : List (ℕ × ℚ)) → IsCombination ls G mult → (k : ℕ) → combined (known_lines p (cs ++ more)) mult k ≡ combined ls mult k
  still_combined mult h k = ap (λ ks. combined ks mult k) more_lines ∙ same_combined ls added mult h.earlier k

  pub still_rounded : (mult : List (ℕ × ℚ)) (r : Row) → rounded_row p cs mult ≡ Some r → rounded_row p (cs ++ more) mult ≡ Some r
  still_rounded mult r e =
      let m = made_from p cs mult r e in
      let h = (decides-usable ls mult).0 m.usable in
      let u = (decides-usable (known_lines p (cs ++ more)) mult).1 (still_combination mult h) in
      chosen _ _ u (ap (option_and_then rounded_sums) (still_combined mult h (length p.spans)) ∙ sym (chosen _ _ m.usable refl) ∙ e)
    where
      chosen : (b : Bool) (o : Option Row) → b ≡ true → {q : Option Row} → o ≡ q → cond b o None ≡ q
      chosen true o e k = k
      chosen false o e k = cc

  still_priced : (box : List Span) (target mult : List (ℕ × ℚ)) → IsCombination ls G mult → price p (cs ++ more) box target mult ≡ price p cs box target mult
  still_priced box target mult h = ap (option_and_then (λ (q : Sums). with_columns q.side target 0 q.coefficients box)) (still_combined mult h (length p.spans))

  still_multipliers : (mult : List (ℕ × ℚ)) → AreProofMultipliers p cs mult → AreProofMultipliers p (cs ++ more) mult
  still_multipliers mult h = record { names = h.names; combined = still_combination mult h.combined }

  bounding : (box : List Span) (cutoff lower : Option ℚ) (mult : List (ℕ × ℚ)) (rounded : Bool) → IsAtMost lower cutoff → (h : IsBounding p cs box cutoff mult rounded)
      → (y : ℚ) × (lower ≡ Some y) × (y ≤ℚ h.limit)
  bounding box None lower mult rounded f h = absurd (impossible h.limit h.limited)
    where
      impossible : (v : ℚ) → ◌≡◌ {A = Option ℚ} None (Some v) → ⊥
      impossible v e = cc
  bounding box (Some z) None mult rounded f h = absurd f
  bounding box (Some z) (Some y) mult rounded f h = (y, refl, subst (λ x. y ≤ℚ x) (same z h.limit h.limited) f)
    where
      same : (v w : ℚ) → Some v ≡ Some w → v ≡ w
      same v w e = cc

  pub still_legal : (box : List Span) (cutoff lower : Option ℚ) (proof : Proof) → IsAtMost lower cutoff → IsLegalProof p cs box cutoff proof → IsLegalProof p (cs ++ more) box lower proof
  still_legal box cutoff lower (Empty column) f h = h
  still_legal box cutoff lower (Refute mult) f h = record {
    multipliers = still_multipliers mult h.multipliers;
    value = h.value;
    priced = still_priced box [] mult h.multipliers.combined ∙ h.priced;
    above = h.above;
  }
  still_legal box cutoff lower (Bound mult rounded) f h =
      let b = bounding box cutoff lower mult rounded f h in
      record {
        multipliers = still_multipliers mult h.multipliers;
        whole_objective = h.whole_objective;
        limit = b.0;
        limited = b.1;
        value = h.value;
        priced = still_priced box (aim p) mult h.multipliers.combined ∙ h.priced;
        reached = ≤ℚ_trans _ _ _ b.2 h.reached;
      }

-- ---- the same cutoff
pub same_cutoff : (cutoff : Option ℚ) → IsAtMost cutoff cutoff
same_cutoff None = tt
same_cutoff (Some z) = ≤ℚ_refl z

-- a proof by the first k cuts is one by all of them
pub by_first : (p : Problem) (cs : List Cut) (k : ℕ) (box : List Span) (cutoff : Option ℚ) (proof : Proof) → IsLegalProof p (take k cs) box cutoff proof → IsLegalProof p cs box cutoff proof
by_first p cs k box cutoff proof h =
    subst (λ (ds : List Cut). IsLegalProof p ds box cutoff proof) (take-append-drop k cs) (still_legal p (take k cs) (drop k cs) box cutoff cutoff proof (same_cutoff cutoff) h)
