use Rattle.std.proofs.Common.{◌≡◌, ◌+◌, ◌-◌, ◌<◌, ◌≤◌, ◌∙◌, ℕ, List, length, get_or, arith, refl, ap}
use Rattle.std.specs.List.{Any}
use Rattle.std.specs.Prelude.{slice_range}
use Rattle.std.proofs.lemmas.List.{get_or_default}
use Rattle.integer_tableau.proofs.Arenas.{piece_many}
use Rattle.integer_tableau.proofs.ExitPieces.{get_or-piece}
use Rattle.integer_tableau.specs.Kept.{exit_at, kept_at}
use Rattle.integer_tableau.specs.declared.exits.Exit.{Exit}
use Rattle.integer_tableau.proofs.dictionary.Dictionaries.exit_of.Goals as goal

-- an element of a piece
in_piece : (xs : List Exit) (a n x : ℕ) → a + n ≤ length xs → a ≤ x → x < a + n → (x < length xs) × Any (λ (e : Exit). e ≡ exit_at xs x) (slice_range xs a (a + n))
in_piece xs a n x within l m =
    let here : a + (x - a) ≡ x = omega (arith, l) in (
      omega (arith, within, m),
      (
        x - a,
        exit_at xs x,
        omega (arith, l, m, piece_many xs a n within),
        get_or-piece xs a n (x - a) _ (omega (arith, l, m)) ∙ ap (λ q. get_or xs q (exit_at xs x)) here ∙ get_or_default xs x _ _ (omega (arith, within, m)),
        refl,
      ),
    )

pub returns-then-index-variable-clause-place : goal.returns-then-index-variable-clause-place
returns-then-index-variable-clause-place c =
    let d = kept_at c.args.self.now.all c.args.place in
    in_piece c.args.self.now.exits d.first_exit d.exits c.loop-exit.exit c.requires.exits c.loop-exit.invariant.from (omega (arith, c.loop-exit-test.true, c.loop-exit.invariant.to))
