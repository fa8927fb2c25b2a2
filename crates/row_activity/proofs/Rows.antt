-- One more row in the search for the first that refutes.
use Rattle.std.specs.Prelude.{◌≡◌, ◌+◌, ℕ, List, ◌∷◌, drop, Option, Some, None, slice_get}
use Rattle.std.specs.Option.{option_map_or}
use Rattle.std.proofs.Common.{sym, ap, ◌∙◌}
use Rattle.std.proofs.lemmas.List.{drop_more}
use Rattle.std.proofs.lemmas.Option.{slice_get_within, get_or_from_slice_get}
use Rattle.problem_box.specs.declared.span.Span.{Span}
use Rattle.problem.specs.declared.row.Row.{Row}
use Rattle.row_activity.specs.declared.verdict.Sign.{Sign}
use Rattle.row_activity.specs.Verdicts.{refuting_sign, refuted_from}

module _ (ss : List Span) (rs : List Row) (i : ℕ) (r : Row) (v : Option (ℕ × Sign)) (there : slice_get rs i ≡ Some r) (so_far : refuted_from i ss (drop i rs) ≡ v) where
  begins : refuted_from i ss (drop i rs) ≡ option_map_or (λ s. Some (i, s)) (refuting_sign ss r) (refuted_from (i + 1) ss (drop (i + 1) rs))
  begins = ap (refuted_from i ss) (drop_more rs i r (slice_get_within rs i r there) ∙ ap (λ q. q ∷ drop (i + 1) rs) (get_or_from_slice_get rs i r r there))

  pub refuted_here : (s : Sign) → refuting_sign ss r ≡ Some s → Some (i, s) ≡ v
  refuted_here s e = sym (begins ∙ ap (λ o. option_map_or (λ s. Some (i, s)) o (refuted_from (i + 1) ss (drop (i + 1) rs))) e) ∙ so_far

  pub not_refuted_here : refuting_sign ss r ≡ None → refuted_from (i + 1) ss (drop (i + 1) rs) ≡ v
  not_refuted_here e = sym (begins ∙ ap (λ o. option_map_or (λ s. Some (i, s)) o (refuted_from (i + 1) ss (drop (i + 1) rs))) e) ∙ so_far
