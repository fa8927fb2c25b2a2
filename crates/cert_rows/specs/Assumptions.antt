-- What a line assumes.
use Rattle.std.specs.Prelude.{ℕ, List, [], ◌∷◌, length, nat_lt, eqb, if◌then◌else◌}
use Rattle.cert_rows.specs.declared.line.Why.{Why}
use Rattle.cert_rows.specs.declared.line.Why.TheVariants.{Asm, Lin, Rnd, Uns}
use Rattle.cert_rows.specs.Lines.{CertLine, assumed_by}
use Rattle.problem.specs.Linear.{Multipliers}

-- a rising list with one number more, or as it is where it has the number
abbrev pub inserted : ℕ → List ℕ → List ℕ
inserted n [] = n ∷ []
inserted n (k ∷ ks) = if nat_lt n k then n ∷ k ∷ ks else if eqb n k then k ∷ ks else k ∷ inserted n ks

-- the numbers of both rising lists
abbrev pub union : List ℕ → List ℕ → List ℕ
union [] ks = ks
union (n ∷ ns) ks = inserted n (union ns ks)

-- the other numbers of a list
abbrev pub without : ℕ → List ℕ → List ℕ
without n [] = []
without n (k ∷ ks) = if eqb n k then without n ks else k ∷ without n ks

-- what the lines of a combination assume
abbrev pub assumed_by_all : List CertLine → Multipliers → List ℕ
assumed_by_all ls [] = []
assumed_by_all ls (m ∷ ms) = union (assumed_by ls m.0) (assumed_by_all ls ms)

-- what the line behind these assumes
abbrev pub assumes : List CertLine → Why → List ℕ
assumes ls Asm = length ls ∷ []
assumes ls (Lin mult) = assumed_by_all ls mult
assumes ls (Rnd mult) = assumed_by_all ls mult
assumes ls (Uns i1 l1 i2 l2) = union (without l1 (assumed_by ls i1)) (without l2 (assumed_by ls i2))
