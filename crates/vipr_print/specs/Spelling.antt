-- The text of a certificate.
use Rattle.std.specs.Prelude.{ℕ, zero, suc, ◌*◌, ℤ, pos, ◌+◌, if◌then◌else◌, List, [], ◌∷◌, ◌++◌, length, codes}
use Rattle.std.specs.List.{flat_map}
use Rattle.std.specs.Fmt.{decimal, signed_decimal}
use Rattle.std.specs.Ordering.{int_eq}
use Rattle.fraction.specs.Spelling.{fraction_text}
use Rattle.fraction.specs.Rational.{ℚ}
use Rattle.problem.specs.declared.row.Sense.{Sense}
use Rattle.problem.specs.declared.row.Sense.TheVariants.{G, L, E}
use Rattle.problem.specs.declared.objective_sense.ObjectiveSense.{ObjectiveSense}
use Rattle.problem.specs.declared.objective_sense.ObjectiveSense.TheVariants.{Minimise, Maximise}
use Rattle.cert_rows.specs.declared.line.CertRow.{CertRow}
use Rattle.cert_rows.specs.declared.line.Why.{Why}
use Rattle.cert_rows.specs.declared.line.Why.TheVariants.{Asm, Lin, Rnd, Uns}
use Rattle.cert_rows.specs.declared.certificate.Goal.{Goal}
use Rattle.cert_rows.specs.declared.certificate.Goal.TheVariants.{Infeas, Range}
use Rattle.cert_rows.specs.declared.certificate.Part.{Part}
use Rattle.cert_rows.specs.declared.certificate.Cert.{Cert}
use Rattle.problem.specs.Linear.{Terms, Point}

-- `p` where whole, else `p/q`
abbrev pub spelled_number : ℚ → List ℕ
spelled_number x = fraction_text x

-- a number and a fraction, with a blank before each
abbrev pub spelled_term : ℕ × ℚ → List ℕ
spelled_term t = codes " " ++ decimal t.0 ++ codes " " ++ spelled_number t.1

-- `k j1 v1 .. jk vk`
abbrev pub spelled_terms : Terms → List ℕ
spelled_terms ts = decimal (length ts) ++ flat_map spelled_term ts

-- the letter of a sense, between blanks
abbrev pub spelled_sense : Sense → List ℕ
spelled_sense G = codes " G "
spelled_sense L = codes " L "
spelled_sense E = codes " E "

-- `label sense rhs list`
abbrev pub spelled_row : CertRow → List ℕ
spelled_row r = r.label ++ spelled_sense r.sense ++ spelled_number r.rhs ++ codes " " ++ spelled_terms r.terms

-- the reason of a derived line (VIPR 1.0: asm, lin, rnd, uns)
abbrev pub spelled_why : Why → List ℕ
spelled_why Asm = codes "asm"
spelled_why (Lin mult) = codes "lin " ++ spelled_terms mult
spelled_why (Rnd mult) = codes "rnd " ++ spelled_terms mult
spelled_why (Uns i1 l1 i2 l2) = codes "uns " ++ decimal i1 ++ codes " " ++ decimal l1 ++ codes " " ++ decimal i2 ++ codes " " ++ decimal l2

-- a row of CON
abbrev pub row_line : CertRow → List ℕ
row_line r = spelled_row r ++ codes "\n"

-- a line of DER
abbrev pub derived_line : CertRow × Why → List ℕ
derived_line d = spelled_row d.0 ++ codes " { " ++ spelled_why d.1 ++ codes " } -1\n"

-- what the certificate claims (VIPR 1.0, RTP)
abbrev pub claim_line : Goal → List ℕ
claim_line Infeas = codes "RTP infeas\n"
claim_line (Range lb ub) = codes "RTP range " ++ spelled_number lb ++ codes " " ++ spelled_number ub ++ codes "\n"

-- how many numbers of a point aren't 0
abbrev pub nonzero : ℤ → ℕ
nonzero x = if int_eq x (pos 0) then 0 else 1

-- how many numbers of a point are not 0
abbrev pub count_nonzero : Point → ℕ
count_nonzero [] = 0
count_nonzero (x ∷ xs) = nonzero x + count_nonzero xs

-- a number that isn't 0, behind its column
abbrev pub spelled_nonzero : ℕ → ℤ → List ℕ
spelled_nonzero j x = if int_eq x (pos 0) then [] else codes " " ++ decimal j ++ codes " " ++ signed_decimal x

-- those of the columns from j on
abbrev pub spelled_nonzeros : ℕ → Point → List ℕ
spelled_nonzeros j [] = []
spelled_nonzeros j (x ∷ xs) = spelled_nonzero j x ++ spelled_nonzeros (j + 1) xs

-- the line of a point, numbered i
abbrev pub point_line : ℕ → Point → List ℕ
point_line i x = codes "S" ++ decimal i ++ codes " " ++ decimal (count_nonzero x) ++ spelled_nonzeros 0 x ++ codes "\n"

-- numbered from i on
abbrev pub point_lines : ℕ → List Point → List ℕ
point_lines i [] = []
point_lines i (x ∷ xs) = point_line i x ++ point_lines (i + 1) xs

-- a column's number, behind a blank where it isn't the first
abbrev pub next_column : ℕ → List ℕ
next_column zero = decimal zero
next_column (suc j) = codes " " ++ decimal (suc j)

-- `0 1 .. n-1`
abbrev pub column_numbers : ℕ → List ℕ
column_numbers zero = []
column_numbers (suc j) = column_numbers j ++ next_column j

-- the numbers of all columns, and no line where there is none
abbrev pub integer_line : ℕ → List ℕ
integer_line zero = []
integer_line (suc j) = column_numbers (suc j) ++ codes "\n"

-- a word and a number
abbrev pub count_line : List ℕ → ℕ → List ℕ
count_line word k = word ++ decimal k ++ codes "\n"

-- a column's name
abbrev pub name_line : List ℕ → List ℕ
name_line name = name ++ codes "\n"

-- whether the objective is minimised or maximised (VIPR 1.0, OBJ)
abbrev pub sense_line : ObjectiveSense → List ℕ
sense_line Minimise = codes "OBJ min\n"
sense_line Maximise = codes "OBJ max\n"

-- the objective's terms
abbrev pub objective_line : Terms → List ℕ
objective_line ts = spelled_terms ts ++ codes "\n"

-- how many rows there are, and how many of them are bounds
abbrev pub constraint_line : ℕ → ℕ → List ℕ
constraint_line m n = codes "CON " ++ decimal m ++ codes " " ++ decimal (2 * n) ++ codes "\n"

-- ---- the sections
-- the version, and the columns by their names (VIPR 1.0, VAR)
abbrev pub names_text : List (List ℕ) → List ℕ
names_text names = codes "VER 1.0\n" ++ (count_line (codes "VAR ") (length names) ++ flat_map name_line names)

-- all columns are integer
abbrev pub integers_text : ℕ → List ℕ
integers_text n = count_line (codes "INT ") n ++ integer_line n

-- the objective and the rows (VIPR 1.0, OBJ and CON)
abbrev pub rows_text : Part → List ℕ
rows_text p = sense_line p.sense ++ (objective_line p.objective ++ (constraint_line (length p.rows) (length p.names) ++ flat_map row_line p.rows))

-- the problem: its names, which columns are whole, its objective and rows
abbrev pub problem_text : Part → List ℕ
problem_text p = names_text p.names ++ (integers_text (length p.names) ++ rows_text p)

-- the claim and the points that are listed (VIPR 1.0, RTP and SOL)
abbrev pub claim_text : Goal → List Point → List ℕ
claim_text claim points = claim_line claim ++ (count_line (codes "SOL ") (length points) ++ point_lines 0 points)

-- the derived lines (VIPR 1.0, DER)
abbrev pub derived_text : List (CertRow × Why) → List ℕ
derived_text lines = count_line (codes "DER ") (length lines) ++ flat_map derived_line lines

-- the text that spells the certificate: VIPR 1.0's sections in order
abbrev pub text_of : Cert → List ℕ
text_of c = problem_text c.part ++ (claim_text c.claim c.points ++ derived_text c.lines)
