-- Each section of a certificate can be split off a text, so that the text spells no other certificate.
use Rattle.std.specs.Prelude.{◌≡◌, ◌*◌, ℕ, ℤ, List, [], ◌++◌, All, codes, drop, get_or, length, refl}
use Rattle.std.proofs.Common.{sym, ap, ◌∙◌, subst, append_assoc, append-nil, arith}
use Rattle.std.proofs.lemmas.List.{append_cancel_left}
use Rattle.std.specs.Fmt.{decimal}
use Rattle.std.specs.List.{flat_map}
use Rattle.problem.specs.declared.objective_sense.ObjectiveSense.{ObjectiveSense}
use Rattle.problem.specs.declared.objective_sense.ObjectiveSense.TheVariants.{Minimise, Maximise}
use Rattle.cert_rows.specs.declared.line.CertRow.{CertRow}
use Rattle.cert_rows.specs.declared.line.Why.{Why}
use Rattle.cert_rows.specs.declared.certificate.Goal.{Goal}
use Rattle.cert_rows.specs.declared.certificate.Goal.TheVariants.{Infeas, Range}
use Rattle.cert_rows.specs.declared.certificate.Part.{Part}
use Rattle.cert_rows.specs.declared.certificate.Cert.{Cert}
use Rattle.vipr_print.specs.Spelling.{spelled_number, spelled_terms, row_line, derived_line, claim_line, point_lines, name_line, sense_line, objective_line, constraint_line, names_text, integers_text, rows_text, problem_text, claim_text, derived_text, text_of}
use Rattle.vipr_print.specs.Unique.{IsWord, IsShort, IsShortClaim, IsSpellable, TextsSpellOneCertificate, TextsBeginNoOther}
use Rattle.vipr_print.proofs.Words.{SplitsOff, word_splits, decimal_splits, fraction_splits}
use Rattle.vipr_print.proofs.Splitting.{pieces3, pieces4, pieces5, AnyText, IsSpellableRow, IsSpellableLine, list_splits, terms_split, row_line_splits, line_splits}
use Rattle.vipr_print.proofs.ListedPoints.{IsSpellablePoint, points_split}

-- equal prefixes fall off
behind : (a b r s : List ℕ) → a ≡ b → a ++ r ≡ b ++ s → r ≡ s
behind a b r s h e = append_cancel_left b r s (ap (λ t. t ++ r) (sym h) ∙ e)

-- a number at the end of its line
count_splits : (m n : ℕ) (u v r s : List ℕ) → IsShort m → IsShort n → decimal m ++ codes "\n" ++ u ++ r ≡ decimal n ++ codes "\n" ++ v ++ s → (m ≡ n) × (u ++ r ≡ v ++ s)
count_splits m n u v r s p q e =
    let k = decimal_splits m n _ _ p q (omega arith) (omega arith) (sym (pieces3 (decimal m) (codes "\n") u r) ∙ e ∙ pieces3 (decimal n) (codes "\n") v s) in
    (k.0, ap (drop 1) k.1)

-- ---- what is known of each row, point and line
spellable_rows : (c : Cert) → IsSpellable c → All IsSpellableRow c.part.rows
spellable_rows c p = λ k r l. (p.labels k r l, p.numbers.rows k r l)

spellable_points : (c : Cert) → IsSpellable c → All (IsSpellablePoint (length c.part.names)) c.points
spellable_points c p = λ k x l. (p.points k x l, p.numbers.points k x l)

spellable_lines : (c : Cert) → IsSpellable c → All IsSpellableLine c.lines
spellable_lines c p = λ k d l. (p.line_labels k d l, p.numbers.lines k d l)

-- ---- the problem
name_line_splits : SplitsOff IsWord AnyText name_line
name_line_splits a b r s p q i j e =
    let k = word_splits a b _ _ p q (omega arith) (omega arith) (sym (append_assoc a (codes "\n") r) ∙ e ∙ append_assoc b (codes "\n") s) in
    (k.0, ap (drop 1) k.1)

names_split : (ns ms : List (List ℕ)) (r s : List ℕ) → IsShort (length ns) → IsShort (length ms) → All IsWord ns → All IsWord ms → names_text ns ++ r ≡ names_text ms ++ s → (ns ≡ ms) × (r ≡ s)
names_split ns ms r s h i p q e =
    let k = count_splits (length ns) (length ms) (flat_map name_line ns) (flat_map name_line ms) r s h i (ap (drop 12) e) in
    list_splits IsWord AnyText name_line name_line_splits (λ x r q. tt) ns ms r s k.0 p q tt tt k.1

rows_split : (m n : ℕ) (xs ys : List CertRow) (r s : List ℕ) → m ≡ n → IsShort (length xs) → IsShort (length ys) → All IsSpellableRow xs → All IsSpellableRow ys
    → (constraint_line (length xs) m ++ flat_map row_line xs) ++ r ≡ (constraint_line (length ys) n ++ flat_map row_line ys) ++ s → (xs ≡ ys) × (r ≡ s)
rows_split m n xs ys r s w h i p q e =
    let a = sym (pieces5 (decimal (length xs)) (codes " ") (decimal (2 * m)) (codes "\n") (flat_map row_line xs) r) ∙ ap (drop 4) e
    ∙ pieces5 (decimal (length ys)) (codes " ") (decimal (2 * n)) (codes "\n") (flat_map row_line ys) s in
    let k = decimal_splits (length xs) (length ys) _ _ h i (omega arith) (omega arith) a in
    let l = behind (decimal (2 * m)) (decimal (2 * n)) _ _ (ap (λ x. decimal (2 * x)) w) (ap (drop 1) k.1) in
    list_splits IsSpellableRow AnyText row_line row_line_splits (λ x r q. tt) xs ys r s k.0 p q tt tt (ap (drop 1) l)

-- the two lines have one length, and differ in a byte
sense_splits : (a b : ObjectiveSense) (r s : List ℕ) → sense_line a ++ r ≡ sense_line b ++ s → (a ≡ b) × (r ≡ s)
sense_splits Minimise Minimise r s e = (refl, ap (drop 8) e)
sense_splits Minimise Maximise r s e = absurd (omega (arith, ap (λ t. get_or t 5 0) e))
sense_splits Maximise Minimise r s e = absurd (omega (arith, ap (λ t. get_or t 5 0) e))
sense_splits Maximise Maximise r s e = (refl, ap (drop 8) e)

same_part : (a b : Part) → a.names ≡ b.names → a.objective ≡ b.objective → a.sense ≡ b.sense → a.rows ≡ b.rows → a ≡ b
same_part a b n o s r =
    ap (λ n. record { names = n; objective = a.objective; sense = a.sense; rows = a.rows }) n
    ∙ ap (λ o. record { names = b.names; objective = o; sense = a.sense; rows = a.rows }) o
    ∙ ap (λ s. record { names = b.names; objective = b.objective; sense = s; rows = a.rows }) s
    ∙ ap (λ r. record { names = b.names; objective = b.objective; sense = b.sense; rows = r }) r

problem_pieces : (p : Part) (r : List ℕ) → problem_text p ++ r ≡ names_text p.names ++ (integers_text (length p.names) ++ (rows_text p ++ r))
problem_pieces p r =
    append_assoc (names_text p.names) (integers_text (length p.names) ++ rows_text p) r
    ∙ ap (λ t. names_text p.names ++ t) (append_assoc (integers_text (length p.names)) (rows_text p) r)

objective_pieces : (p : Part) (r : List ℕ) → rows_text p ++ r ≡ sense_line p.sense ++ (spelled_terms p.objective ++ (codes "\n" ++ ((constraint_line (length p.rows) (length p.names) ++ flat_map row_line p.rows) ++ r)))
objective_pieces p r =
    append_assoc (sense_line p.sense) (objective_line p.objective ++ (constraint_line (length p.rows) (length p.names) ++ flat_map row_line p.rows)) r
    ∙ ap (λ t. sense_line p.sense ++ t) (pieces3 (spelled_terms p.objective) (codes "\n") (constraint_line (length p.rows) (length p.names) ++ flat_map row_line p.rows) r)

problem_split : (c d : Cert) (r s : List ℕ) → IsSpellable c → IsSpellable d → problem_text c.part ++ r ≡ problem_text d.part ++ s → (c.part ≡ d.part) × (r ≡ s)
problem_split c d r s p q e =
    let k = names_split c.part.names d.part.names _ _ p.numbers.columns q.numbers.columns p.names q.names (sym (problem_pieces c.part r) ∙ e ∙ problem_pieces d.part s) in
    let w = ap length k.0 in
    let l = behind (integers_text (length c.part.names)) (integers_text (length d.part.names)) _ _ (ap integers_text w) k.1 in
    let a = sense_splits c.part.sense d.part.sense _ _ (sym (objective_pieces c.part r) ∙ l ∙ objective_pieces d.part s) in
    let m = terms_split c.part.objective d.part.objective _ _ p.numbers.objective q.numbers.objective (omega arith) (omega arith) a.1 in
    let n = rows_split (length c.part.names) (length d.part.names) c.part.rows d.part.rows r s w p.numbers.row_count q.numbers.row_count (spellable_rows c p) (spellable_rows d q) (ap (drop 1) m.1) in
    (same_part c.part d.part k.0 m.0 a.0 n.0, n.1)

-- ---- the claim and the points
claim_line_splits : SplitsOff IsShortClaim AnyText claim_line
claim_line_splits Infeas Infeas r s p q i j e = (refl, ap (drop 11) e)
claim_line_splits Infeas (Range lb ub) r s p q i j e = absurd (omega (arith, ap (λ t. get_or t 4 0) e))
claim_line_splits (Range lb ub) Infeas r s p q i j e = absurd (omega (arith, ap (λ t. get_or t 4 0) e))
claim_line_splits (Range lb ub) (Range lc uc) r s p q i j e =
    let a = sym (pieces4 (spelled_number lb) (codes " ") (spelled_number ub) (codes "\n") r) ∙ ap (drop 10) e ∙ pieces4 (spelled_number lc) (codes " ") (spelled_number uc) (codes "\n") s in
    let k = fraction_splits lb lc _ _ p.0 q.0 (omega arith) (omega arith) a in
    let l = fraction_splits ub uc _ _ p.1 q.1 (omega arith) (omega arith) (ap (drop 1) k.1) in
    (ap (λ x. Range x ub) k.0 ∙ ap (λ x. Range lc x) l.0, ap (drop 1) l.1)

claim_pieces : (g : Goal) (xs : List (List ℤ)) (r : List ℕ) → claim_text g xs ++ r ≡ claim_line g ++ (codes "SOL " ++ (decimal (length xs) ++ codes "\n" ++ point_lines 0 xs ++ r))
claim_pieces g xs r = append_assoc (claim_line g) (codes "SOL " ++ (decimal (length xs) ++ codes "\n" ++ point_lines 0 xs)) r

claims_split : (c d : Cert) (r s : List ℕ) → c.part ≡ d.part → IsSpellable c → IsSpellable d → claim_text c.claim c.points ++ r ≡ claim_text d.claim d.points ++ s
    → (c.claim ≡ d.claim) × (c.points ≡ d.points) × (r ≡ s)
claims_split c d r s h p q e =
    let k = claim_line_splits c.claim d.claim _ _ p.numbers.claim q.numbers.claim tt tt (sym (claim_pieces c.claim c.points r) ∙ e ∙ claim_pieces d.claim d.points s) in
    let l = count_splits (length c.points) (length d.points) (point_lines 0 c.points) (point_lines 0 d.points) r s p.numbers.point_count q.numbers.point_count (ap (drop 4) k.1) in
    let w : length d.part.names ≡ length c.part.names = ap (λ p. length p.names) (sym h) in
    let m = points_split (length c.part.names) 0 c.points d.points r s l.0 p.numbers.columns (spellable_points c p) (subst (λ n. All (IsSpellablePoint n) d.points) w (spellable_points d q)) l.1 in
    (k.0, m.0, m.1)

-- ---- the derived lines
derived_split : (xs ys : List (CertRow × Why)) (r s : List ℕ) → IsShort (length xs) → IsShort (length ys) → All IsSpellableLine xs → All IsSpellableLine ys
    → derived_text xs ++ r ≡ derived_text ys ++ s → (xs ≡ ys) × (r ≡ s)
derived_split xs ys r s h i p q e =
    let k = count_splits (length xs) (length ys) (flat_map derived_line xs) (flat_map derived_line ys) r s h i (ap (drop 4) e) in
    list_splits IsSpellableLine AnyText derived_line line_splits (λ x r q. tt) xs ys r s k.0 p q tt tt k.1

-- ---- the certificate
same_certificate : (c d : Cert) → c.part ≡ d.part → c.claim ≡ d.claim → c.points ≡ d.points → c.lines ≡ d.lines → c ≡ d
same_certificate c d p g x l =
    ap (λ p. record { part = p; claim = c.claim; points = c.points; lines = c.lines }) p
    ∙ ap (λ g. record { part = d.part; claim = g; points = c.points; lines = c.lines }) g
    ∙ ap (λ x. record { part = d.part; claim = d.claim; points = x; lines = c.lines }) x
    ∙ ap (λ l. record { part = d.part; claim = d.claim; points = d.points; lines = l }) l

text_pieces : (c : Cert) (r : List ℕ) → text_of c ++ r ≡ problem_text c.part ++ (claim_text c.claim c.points ++ (derived_text c.lines ++ r))
text_pieces c r =
    append_assoc (problem_text c.part) (claim_text c.claim c.points ++ derived_text c.lines) r
    ∙ ap (λ t. problem_text c.part ++ t) (append_assoc (claim_text c.claim c.points) (derived_text c.lines) r)

certificate_splits : SplitsOff IsSpellable AnyText text_of
certificate_splits c d r s p q i j e =
    let k = problem_split c d _ _ p q (sym (text_pieces c r) ∙ e ∙ text_pieces d s) in
    let l = claims_split c d _ _ k.0 p q k.1 in
    let m = derived_split c.lines d.lines r s p.numbers.line_count q.numbers.line_count (spellable_lines c p) (spellable_lines d q) l.2 in
    (same_certificate c d k.0 l.0 l.1 m.0, m.1)

pub one_certificate : TextsSpellOneCertificate
one_certificate c d p q e = (certificate_splits c d [] [] p q tt tt (ap (λ t. t ++ []) e)).0

pub no_prefix : TextsBeginNoOther
no_prefix c d rest p q e = let k = certificate_splits c d [] rest p q tt tt (append-nil (text_of c) ∙ e) in (k.0, sym k.1)
