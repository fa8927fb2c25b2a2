-- The lines of cuts follow.
use Rattle.std.specs.Prelude.{◌≡◌, ◌+◌, ℕ, List, [], ◌∷◌, ◌++◌}
use Rattle.std.proofs.Common.{sym, ap, ◌∙◌, subst}
use Rattle.std.proofs.lemmas.List.{append-nil, append_assoc}
use Rattle.problem.specs.Problem.{Problem}
use Rattle.problem.specs.Limited.{IsLimited}
use Rattle.cert_rows.specs.Validity.{derived_line_of, with_derived, AllFollow}
use Rattle.derivation_book.specs.declared.cut.Cut.{Cut}
use Rattle.derivation_book.specs.Known.{known_lines}
use Rattle.derivation_book.specs.Cuts.{AreCutsAfter, AreCutsOf}
use Rattle.derivation_book.specs.Lemmas.Rounded.{one_more}
use Rattle.derivation_book.specs.Lemmas.Cutting.{rows_follow}
use Rattle.cert_merge.specs.Merged.{cut_line, cut_lines}
use Rattle.cert_tree.proofs.Base.{base_more, none_assumed}

-- one cut more among the known lines
next_cut : (p : Problem) (earlier : List Cut) (c : Cut) (i : ℕ) → known_lines p earlier ++ derived_line_of (known_lines p earlier) (cut_line i c) ∷ [] ≡ known_lines p (earlier ++ c ∷ [])
next_cut p earlier c i = ap (λ ns. known_lines p earlier ++ record { row = c.row; assumes = ns } ∷ []) (none_assumed p earlier c.mult) ∙ base_more p earlier c

-- the cuts follow in turn, and their lines are the known lines
pub cuts_follow : (p : Problem) → IsLimited p → (earlier cs : List Cut) (i : ℕ) → AreCutsOf p earlier → AreCutsAfter p earlier cs
    → AllFollow (known_lines p earlier) (cut_lines i cs) × (with_derived (known_lines p earlier) (cut_lines i cs) ≡ known_lines p (earlier ++ cs))
cuts_follow p l earlier [] i a h = (tt, ap (known_lines p) (sym (append-nil earlier)))
cuts_follow p l earlier (c ∷ cs) i a h =
    let e = next_cut p earlier c i in
    let r = cuts_follow p l (earlier ++ c ∷ []) cs (i + 1) (one_more p [] earlier c a h.0) h.1 in (
      (rows_follow p earlier l a c.mult c.row h.0, subst (λ ls. AllFollow ls (cut_lines (i + 1) cs)) (sym e) r.0),
      ap (λ ls. with_derived ls (cut_lines (i + 1) cs)) e ∙ r.1 ∙ ap (known_lines p) (append_assoc earlier (c ∷ []) cs),
    )
