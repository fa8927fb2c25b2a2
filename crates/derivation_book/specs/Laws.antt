-- What cuts and prices promise.
use Rattle.std.specs.Prelude.{◌≡◌, List, ◌++◌, length, All, Option, Some}
use Rattle.std.specs.Bool.{Decides}
use Rattle.fraction.specs.Rational.{ℚ, ◌≤ℚ◌}
use Rattle.problem_box.specs.declared.span.Span.{Span}
use Rattle.problem_box.specs.Boxes.{IsInBox}
use Rattle.problem.specs.declared.row.Sense.TheVariants.{G}
use Rattle.problem.specs.declared.row.Row.{Row}
use Rattle.problem.specs.Linear.{Point, Terms, Multipliers, value}
use Rattle.problem.specs.Rows.{Satisfies}
use Rattle.problem.specs.Problem.{Problem}
use Rattle.problem.specs.Directions.{aim_at}
use Rattle.problem.specs.Feasible.{IsFeasible}
use Rattle.cert_rows.specs.Lines.{row_at}
use Rattle.cert_rows.specs.Combination.{AllSigned}
use Rattle.cert_rows.specs.Validity.{IsRounded}
use Rattle.node_events.specs.declared.proof.Proof.{Proof}
use Rattle.derivation_book.specs.declared.cut.Cut.{Cut}
use Rattle.derivation_book.specs.Known.{known_lines}
use Rattle.derivation_book.specs.Rounded.{rounded_row}
use Rattle.derivation_book.specs.Price.{price, exact_price}
use Rattle.derivation_book.specs.Cuts.{AreCutsOf}
use Rattle.derivation_book.specs.Legal.{is_legal_proof, IsLegalProof, IsAtMost}

-- each cut holds at each feasible point
abbrev pub CutsHold : Problem → List Cut → Type 0
CutsHold p cs = AreCutsOf p cs → (x : Point) → IsFeasible p x → All (λ (c : Cut). Satisfies x c.row) cs

-- a rounded row follows from the known lines by rounding
abbrev pub RoundedRowsFollow : Problem → List Cut → Type 0
RoundedRowsFollow p cs = AreCutsOf p cs → (mult : Multipliers) (r : Row) → rounded_row p cs mult ≡ Some r → IsRounded (known_lines p cs) r mult

-- a price is the exact sum
abbrev pub PricesAreExact : Problem → List Cut → Type 0
PricesAreExact p cs =
    (box : List Span) (target : Terms) (mult : Multipliers) (v : ℚ) → length box ≡ length p.spans → price p cs box target mult ≡ Some v → v ≡ exact_price (known_lines p cs) target mult box

-- a point of the box that satisfies the named rows has a target value of at least the price
abbrev pub PricesBound : Problem → List Cut → Type 0
PricesBound p cs =
    (box : List Span) (target : Terms) (mult : Multipliers) (v : ℚ) (x : Point)
    → length box ≡ length p.spans → AllSigned G (known_lines p cs) mult → price p cs box target mult ≡ Some v
    → IsInBox box x → All (λ m. Satisfies x (row_at (known_lines p cs) m.0)) mult → v ≤ℚ value target x

-- the test of proofs has its meaning
abbrev pub ProofsAreDecided : Problem → List Cut → Type 0
ProofsAreDecided p cs = (box : List Span) (cutoff : Option ℚ) (proof : Proof) → Decides (is_legal_proof p cs box cutoff proof) (IsLegalProof p cs box cutoff proof)

-- where a proof is legal, each feasible point of the box has an aim of at least the cutoff; where there is none, the box has no feasible point
abbrev pub LegalProofsClose : Problem → List Cut → Type 0
LegalProofsClose p cs =
    AreCutsOf p cs → (box : List Span) (cutoff : Option ℚ) (proof : Proof) → length box ≡ length p.spans → IsLegalProof p cs box cutoff proof
    → (x : Point) → IsFeasible p x → IsInBox box x → (z : ℚ) × (cutoff ≡ Some z) × (z ≤ℚ aim_at p x)

-- a rounded row is one also over more cuts
abbrev pub RoundedRowsStay : Problem → List Cut → Type 0
RoundedRowsStay p cs = (more : List Cut) (mult : Multipliers) (r : Row) → rounded_row p cs mult ≡ Some r → rounded_row p (cs ++ more) mult ≡ Some r

-- a legal proof is legal also with more cuts and under a smaller cutoff
abbrev pub LegalProofsStay : Problem → List Cut → Type 0
LegalProofsStay p cs =
    (more : List Cut) (box : List Span) (cutoff lower : Option ℚ) (proof : Proof) → IsAtMost lower cutoff → IsLegalProof p cs box cutoff proof → IsLegalProof p (cs ++ more) box lower proof
