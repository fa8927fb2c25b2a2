-- The lines of a search tree's nodes, children before their parents.
use Rattle.std.specs.Prelude.{◌≡◌, ℕ, ◌+◌, ◌-◌, ◌<◌, List, [], ◌∷◌, ◌++◌, length, All, slice_index_or}
use Rattle.std.specs.List.{Contains}
use Rattle.problem.specs.declared.row.Row.{Row}
use Rattle.cert_rows.specs.declared.line.CertRow.{CertRow}
use Rattle.cert_rows.specs.declared.line.Why.{Why}
use Rattle.cert_rows.specs.declared.line.Why.TheVariants.{Asm, Lin, Rnd, Uns}
use Rattle.cert_rows.specs.Lines.{CertLine, row_of, row_at, assumed_by}
use Rattle.cert_rows.specs.Domination.{Dominates}
use Rattle.cert_rows.specs.Assumptions.{assumed_by_all}
use Rattle.cert_rows.specs.Validity.{IsLinear, IsRounded, IsSplit, IsAssumption}

-- the line of a node, with the assumptions on the path to the node
pub record NodeLine : Type 0 where
  pub row : CertRow
  pub why : Why
  pub path : List ℕ

-- the rows of the lines with their reasons
abbrev pub derived_of : List NodeLine → List (CertRow × Why)
derived_of [] = []
derived_of (n ∷ ns) = (n.row, n.why) ∷ derived_of ns

-- a closed node: its line follows from the lines before the nodes, and assumes no more than the path does
pub record IsClosedBy (ls : List CertLine) (goal row : Row) (path : List ℕ) (Rule : Type 0) (assumed : List ℕ) : Type 0 where
  pub follows : Rule
  pub dominates : Dominates row goal
  pub within : All (Contains path) assumed

-- line i is that of an earlier node, whose path is this one's with the assumption l before it
pub record IsChild (ls : List CertLine) (paths : List (List ℕ)) (path : List ℕ) (i l : ℕ) : Type 0 where
  pub place : ℕ
  pub there : place < length paths
  pub line : i ≡ length ls + place
  pub path_is : slice_index_or paths place [] ≡ l ∷ path
  pub is_assumption : IsAssumption ls l

-- a split node: two children whose assumptions share out the whole numbers
pub record IsParent (ls : List CertLine) (goal row : Row) (paths : List (List ℕ)) (path : List ℕ) (i1 l1 i2 l2 : ℕ) : Type 0 where
  pub row_is : row ≡ goal
  pub first : IsChild ls paths path i1 l1
  pub second : IsChild ls paths path i2 l2
  pub split : IsSplit (row_at ls l1) (row_at ls l2)

-- the line of a node: it closes the node, or joins the lines of its two children
abbrev pub IsNodeLine : List CertLine → Row → List (List ℕ) → Row → List ℕ → Why → Type 0
IsNodeLine ls goal paths row path Asm = ⊥
IsNodeLine ls goal paths row path (Lin mult) = IsClosedBy ls goal row path (IsLinear ls row mult) (assumed_by_all ls mult)
IsNodeLine ls goal paths row path (Rnd mult) = IsClosedBy ls goal row path (IsRounded ls row mult) (assumed_by_all ls mult)
IsNodeLine ls goal paths row path (Uns i1 l1 i2 l2) = IsParent ls goal row paths path i1 l1 i2 l2

-- each node's line behind those of its children; paths are those of the nodes so far
abbrev pub AreNodeLines : List CertLine → Row → List (List ℕ) → List NodeLine → Type 0
AreNodeLines ls goal paths [] = Unit {0}
AreNodeLines ls goal paths (n ∷ ns) = IsNodeLine ls goal paths (row_of n.row) n.path n.why × AreNodeLines ls goal (paths ++ n.path ∷ []) ns

-- the paths of all nodes
abbrev pub paths_with : List (List ℕ) → List NodeLine → List (List ℕ)
paths_with paths [] = paths
paths_with paths (n ∷ ns) = paths_with (paths ++ n.path ∷ []) ns

-- what the last line of a tree shows
pub record IsConcluded (ls : List CertLine) (goal : Row) : Type 0 where
  pub dominates : Dominates (row_at ls (length ls - 1)) goal
  pub unconditional : assumed_by ls (length ls - 1) ≡ []
