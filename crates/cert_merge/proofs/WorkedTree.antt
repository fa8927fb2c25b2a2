-- The lines of a worked tree of five nodes: 2x + 2y = 3 over x and y in 0..1.
use Rattle.std.specs.Prelude.{◌≡◌, ◌<◌, ℕ, pos, negsuc, true, List, [], ◌∷◌, length, All, slice_index_or, ◌+◌, refl, codes}
use Rattle.std.specs.List.{Contains}
use Rattle.std.proofs.Common.{inr, arith}
use Rattle.std.proofs.lemmas.List.Elements.{All-nil, All-cons}
use Rattle.fraction.specs.Gcd.{gcd, gcd_within}
use Rattle.fraction.specs.Rational.{ℚ, whole, frac, ◌+ℚ◌, ◌*ℚ◌, neg_ℚ, floor, ceil}
use Rattle.fraction.specs.Lemmas.Rational.{≤ℚ_refl}
use Rattle.problem.specs.declared.row.Sense.{Sense}
use Rattle.problem.specs.declared.row.Sense.TheVariants.{G, L, E}
use Rattle.problem.specs.declared.row.Row.{Row}
use Rattle.cert_rows.specs.declared.line.Why.{Why}
use Rattle.cert_rows.specs.declared.line.Why.TheVariants.{Lin, Uns}
use Rattle.cert_rows.specs.Lines.{CertLine, assumed_by}
use Rattle.cert_rows.specs.Domination.{Dominates}
use Rattle.cert_rows.specs.Validity.{AllFollow, with_derived}
use Rattle.cert_rows.specs.Lemmas.Decider.{is_linear, decides-linear, is_split, decides-split}
use Rattle.cert_merge.specs.Tree.{NodeLine, derived_of, IsChild, AreNodeLines, IsConcluded}
use Rattle.cert_merge.specs.Lemmas.TreeLemmas.{tree_follows}

abbrev n : ℕ → ℚ
n k = whole (pos k)

abbrev m : ℕ → ℚ
m k = whole (negsuc k)

abbrev line : Sense → ℚ → List (ℕ × ℚ) → List ℕ → CertLine
line sense rhs terms assumes = record { row = record { sense = sense; rhs = rhs; terms = terms }; assumes = assumes }

abbrev x : List (ℕ × ℚ)
x = (0, n 1) ∷ []

abbrev y : List (ℕ × ℚ)
y = (1, n 1) ∷ []

abbrev ls : List CertLine
ls =
    line E (n 3) ((0, n 2) ∷ (1, n 2) ∷ []) [] ∷ line G (n 0) x [] ∷ line L (n 1) x [] ∷ line G (n 0) y [] ∷ line L (n 1) y []
    ∷ line L (n 0) y (5 ∷ []) ∷ line G (n 1) y (6 ∷ []) ∷ line L (n 0) x (7 ∷ []) ∷ line G (n 1) x (8 ∷ []) ∷ []

abbrev goal : Row
goal = record { sense = G; rhs = n 1; terms = [] }

abbrev node : List ℕ → Why → List ℕ → NodeLine
node label why path = record { row = record { label = label; sense = G; rhs = n 1; terms = [] }; why = why; path = path }

abbrev mult4 : List (ℕ × ℚ)
mult4 = (0, m 0) ∷ (6, n 2) ∷ (8, n 2) ∷ []

abbrev mult3 : List (ℕ × ℚ)
mult3 = (0, n 1) ∷ (4, m 1) ∷ (7, m 1) ∷ []

abbrev mult1 : List (ℕ × ℚ)
mult1 = (0, n 1) ∷ (2, m 1) ∷ (5, m 1) ∷ []

abbrev nodes : List NodeLine
nodes =
    node (codes "N4") (Lin mult4) (8 ∷ 6 ∷ []) ∷ node (codes "N3") (Lin mult3) (7 ∷ 6 ∷ []) ∷ node (codes "N2") (Uns 10 7 9 8) (6 ∷ [])
    ∷ node (codes "N1") (Lin mult1) (5 ∷ []) ∷ node (codes "N0") (Uns 12 5 11 6) [] ∷ []

goal_itself : Dominates goal goal
goal_itself = inr (record { sense = refl; terms = λ j. refl; rhs = ≤ℚ_refl (n 1) })

linear4 : is_linear ls goal mult4 ≡ true
unfolding frac gcd gcd_within ◌+ℚ◌ ◌*ℚ◌ neg_ℚ floor ceil
linear4 = refl

linear3 : is_linear ls goal mult3 ≡ true
unfolding frac gcd gcd_within ◌+ℚ◌ ◌*ℚ◌ neg_ℚ floor ceil
linear3 = refl

linear1 : is_linear ls goal mult1 ≡ true
unfolding frac gcd gcd_within ◌+ℚ◌ ◌*ℚ◌ neg_ℚ floor ceil
linear1 = refl

split_x : is_split (record { sense = L; rhs = n 0; terms = x }) (record { sense = G; rhs = n 1; terms = x }) ≡ true
unfolding frac gcd gcd_within ◌+ℚ◌ ◌*ℚ◌ neg_ℚ floor ceil
split_x = refl

split_y : is_split (record { sense = L; rhs = n 0; terms = y }) (record { sense = G; rhs = n 1; terms = y }) ≡ true
unfolding frac gcd gcd_within ◌+ℚ◌ ◌*ℚ◌ neg_ℚ floor ceil
split_y = refl

child : (paths : List (List ℕ)) (path : List ℕ) (i l q : ℕ) → q < length paths → i ≡ 9 + q → slice_index_or paths q [] ≡ l ∷ path → l < 9 → assumed_by ls l ≡ l ∷ [] → IsChild ls paths path i l
child paths path i l q h e f g a = record { place = q; there = h; line = e; path_is = f; is_assumption = record { earlier = g; itself = a } }

two_known : (a b : ℕ) → All (Contains (b ∷ a ∷ [])) (a ∷ b ∷ [])
two_known a b = All-cons (Contains (b ∷ a ∷ [])) a (b ∷ []) (1, omega arith, refl) (All-cons (Contains (b ∷ a ∷ [])) b [] (0, omega arith, refl) (All-nil (Contains (b ∷ a ∷ []))))

first_known : (a b : ℕ) → All (Contains (a ∷ b ∷ [])) (a ∷ [])
first_known a b = All-cons (Contains (a ∷ b ∷ [])) a [] (0, omega arith, refl) (All-nil (Contains (a ∷ b ∷ [])))

one_known : (a : ℕ) → All (Contains (a ∷ [])) (a ∷ [])
one_known a = All-cons (Contains (a ∷ [])) a [] (0, omega arith, refl) (All-nil (Contains (a ∷ [])))

are_node_lines : AreNodeLines ls goal [] nodes
are_node_lines = (
  record { follows = (decides-linear ls goal mult4).0 linear4; dominates = goal_itself; within = two_known 6 8 },
  (
    record { follows = (decides-linear ls goal mult3).0 linear3; dominates = goal_itself; within = first_known 7 6 },
    (
      record {
        row_is = refl;
        first = child ((8 ∷ 6 ∷ []) ∷ (7 ∷ 6 ∷ []) ∷ []) (6 ∷ []) 10 7 1 (omega arith) refl refl (omega arith) refl;
        second = child ((8 ∷ 6 ∷ []) ∷ (7 ∷ 6 ∷ []) ∷ []) (6 ∷ []) 9 8 0 (omega arith) refl refl (omega arith) refl;
        split = (decides-split _ _).0 split_x;
      },
      (
        record { follows = (decides-linear ls goal mult1).0 linear1; dominates = goal_itself; within = one_known 5 },
        (
          record {
            row_is = refl;
            first = child ((8 ∷ 6 ∷ []) ∷ (7 ∷ 6 ∷ []) ∷ (6 ∷ []) ∷ (5 ∷ []) ∷ []) [] 12 5 3 (omega arith) refl refl (omega arith) refl;
            second = child ((8 ∷ 6 ∷ []) ∷ (7 ∷ 6 ∷ []) ∷ (6 ∷ []) ∷ (5 ∷ []) ∷ []) [] 11 6 2 (omega arith) refl refl (omega arith) refl;
            split = (decides-split _ _).0 split_y;
          },
          tt,
        ),
      ),
    ),
  ),
)

pub concluded : AllFollow ls (derived_of nodes) × IsConcluded (with_derived ls (derived_of nodes)) goal
concluded = tree_follows ls goal goal_itself nodes are_node_lines (omega arith) refl
