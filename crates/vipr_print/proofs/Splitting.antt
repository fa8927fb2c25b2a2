-- Terms, rows, reasons and points can be split off a text.
use Rattle.std.specs.Prelude.{◌≡◌, ℕ, List, [], ◌∷◌, ◌++◌, All, codes, drop, get_or, length, refl}
use Rattle.std.proofs.Common.{sym, ap, ap₂, ◌∙◌, subst, append_assoc, arith}
use Rattle.std.proofs.lemmas.List.Elements.{All-head, All-tail}
use Rattle.std.specs.Fmt.{decimal}
use Rattle.std.specs.List.{flat_map}
use Rattle.fraction.specs.Rational.{ℚ}
use Rattle.problem.specs.declared.row.Sense.{Sense}
use Rattle.problem.specs.declared.row.Sense.TheVariants.{G, L, E}
use Rattle.cert_rows.specs.declared.line.CertRow.{CertRow}
use Rattle.cert_rows.specs.declared.line.Why.{Why}
use Rattle.cert_rows.specs.declared.line.Why.TheVariants.{Asm, Lin, Rnd, Uns}
use Rattle.vipr_print.specs.Spelling.{spelled_number, spelled_term, spelled_terms, spelled_sense, spelled_row, spelled_why, row_line, derived_line}
use Rattle.vipr_print.specs.Unique.{IsShortTerm, IsShortList, IsWord, IsShortRow, IsShortReason, IsShortLine}
use Rattle.vipr_print.proofs.Words.{Stops, SplitsOff, word_splits, decimal_splits, fraction_splits}

-- ---- texts of several pieces
pub pieces3 : (a b c r : List ℕ) → a ++ b ++ c ++ r ≡ a ++ (b ++ (c ++ r))
pieces3 a b c r = append_assoc (a ++ b) c r ∙ append_assoc a b (c ++ r)

pub pieces4 : (a b c d r : List ℕ) → a ++ b ++ c ++ d ++ r ≡ a ++ (b ++ (c ++ (d ++ r)))
pieces4 a b c d r = append_assoc (a ++ b ++ c) d r ∙ pieces3 a b c (d ++ r)

pub pieces5 : (a b c d e r : List ℕ) → a ++ b ++ c ++ d ++ e ++ r ≡ a ++ (b ++ (c ++ (d ++ (e ++ r))))
pieces5 a b c d e r = append_assoc (a ++ b ++ c ++ d) e r ∙ pieces4 a b c d (e ++ r)

pieces7 : (a b c d e f g r : List ℕ) → a ++ b ++ c ++ d ++ e ++ f ++ g ++ r ≡ a ++ (b ++ (c ++ (d ++ (e ++ (f ++ (g ++ r))))))
pieces7 a b c d e f g r = append_assoc (a ++ b ++ c ++ d ++ e ++ f) g r ∙ append_assoc (a ++ b ++ c ++ d ++ e) f (g ++ r) ∙ pieces5 a b c d e (f ++ (g ++ r))

-- ---- lists of which the text has told how long they are
stays : {X : Type 0} (Q : List ℕ → Type 0) (f : X → List ℕ) → ((x : X) (r : List ℕ) → Q r → Q (f x ++ r)) → (xs : List X) (r : List ℕ) → Q r → Q (flat_map f xs ++ r)
stays Q f h [] r q = q
stays Q f h (x ∷ xs) r q = subst Q (sym (append_assoc (f x) (flat_map f xs) r)) (h x (flat_map f xs ++ r) (stays Q f h xs r q))

pub list_splits : {X : Type 0} (P : X → Type 0) (Q : List ℕ → Type 0) (f : X → List ℕ) → SplitsOff P Q f → ((x : X) (r : List ℕ) → Q r → Q (f x ++ r))
    → (xs ys : List X) (r s : List ℕ) → length xs ≡ length ys → All P xs → All P ys → Q r → Q s → flat_map f xs ++ r ≡ flat_map f ys ++ s → (xs ≡ ys) × (r ≡ s)
list_splits P Q f u h [] [] r s l p q i j e = (refl, e)
list_splits P Q f u h [] (y ∷ ys) r s l p q i j e = absurd (omega (arith, l))
list_splits P Q f u h (x ∷ xs) [] r s l p q i j e = absurd (omega (arith, l))
list_splits P Q f u h (x ∷ xs) (y ∷ ys) r s l p q i j e =
    let one = u x y (flat_map f xs ++ r) (flat_map f ys ++ s) (All-head P x xs p) (All-head P y ys q) (stays Q f h xs r i) (stays Q f h ys s j)
    (sym (append_assoc (f x) (flat_map f xs) r) ∙ e ∙ append_assoc (f y) (flat_map f ys) s) in
    let rest = list_splits P Q f u h xs ys r s (omega (arith, l)) (All-tail P x xs p) (All-tail P y ys q) i j one.1 in
    (ap₂ (λ z zs. z ∷ zs) one.0 rest.0, rest.1)

-- ---- terms
term_splits : SplitsOff IsShortTerm Stops spelled_term
term_splits t u r s p q i j e =
    let a = sym (pieces3 (decimal t.0) (codes " ") (spelled_number t.1) r) ∙ ap (drop 1) e ∙ pieces3 (decimal u.0) (codes " ") (spelled_number u.1) s in
    let k = decimal_splits t.0 u.0 _ _ p.number q.number (omega arith) (omega arith) a in
    let m = fraction_splits t.1 u.1 r s p.factor q.factor i j (ap (drop 1) k.1) in
    (ap₂ (λ n x. (n, x)) k.0 m.0, m.1)

terms_stop : (ts : List (ℕ × ℚ)) (r : List ℕ) → Stops r → Stops (flat_map spelled_term ts ++ r)
terms_stop ts r h = stays Stops spelled_term (λ t r h. omega arith) ts r h

pub terms_split : SplitsOff IsShortList Stops spelled_terms
terms_split ts us r s p q i j e =
    let a = sym (append_assoc (decimal (length ts)) (flat_map spelled_term ts) r) ∙ e ∙ append_assoc (decimal (length us)) (flat_map spelled_term us) s in
    let k = decimal_splits (length ts) (length us) _ _ p.count q.count (terms_stop ts r i) (terms_stop us s j) a in
    list_splits IsShortTerm Stops spelled_term term_splits (λ t r h. omega arith) ts us r s k.0 p.terms q.terms i j k.1

-- ---- rows
sense_stops : (t : Sense) (r : List ℕ) → Stops (spelled_sense t ++ r)
sense_stops G r = omega arith
sense_stops L r = omega arith
sense_stops E r = omega arith

sense_splits : (t u : Sense) (r s : List ℕ) → spelled_sense t ++ r ≡ spelled_sense u ++ s → (t ≡ u) × (r ≡ s)
sense_splits G G r s e = (refl, ap (drop 3) e)
sense_splits L L r s e = (refl, ap (drop 3) e)
sense_splits E E r s e = (refl, ap (drop 3) e)
sense_splits G L r s e = absurd (omega (arith, ap (λ t. get_or t 1 0) e))
sense_splits G E r s e = absurd (omega (arith, ap (λ t. get_or t 1 0) e))
sense_splits L G r s e = absurd (omega (arith, ap (λ t. get_or t 1 0) e))
sense_splits L E r s e = absurd (omega (arith, ap (λ t. get_or t 1 0) e))
sense_splits E G r s e = absurd (omega (arith, ap (λ t. get_or t 1 0) e))
sense_splits E L r s e = absurd (omega (arith, ap (λ t. get_or t 1 0) e))

same_row : (a b : CertRow) → a.label ≡ b.label → a.sense ≡ b.sense → a.rhs ≡ b.rhs → a.terms ≡ b.terms → a ≡ b
same_row a b l t x ts =
    ap (λ l. record { label = l; sense = a.sense; rhs = a.rhs; terms = a.terms }) l
    ∙ ap (λ t. record { label = b.label; sense = t; rhs = a.rhs; terms = a.terms }) t
    ∙ ap (λ x. record { label = b.label; sense = b.sense; rhs = x; terms = a.terms }) x
    ∙ ap (λ ts. record { label = b.label; sense = b.sense; rhs = b.rhs; terms = ts }) ts

abbrev pub IsSpellableRow : CertRow → Type 0
IsSpellableRow r = IsWord r.label × IsShortRow r

row_pieces : (a : CertRow) (r : List ℕ) → spelled_row a ++ r ≡ a.label ++ (spelled_sense a.sense ++ (spelled_number a.rhs ++ (codes " " ++ (spelled_terms a.terms ++ r))))
row_pieces a r = pieces5 a.label (spelled_sense a.sense) (spelled_number a.rhs) (codes " ") (spelled_terms a.terms) r

row_splits : SplitsOff IsSpellableRow Stops spelled_row
row_splits a b r s p q i j e =
    let k = word_splits a.label b.label _ _ p.0 q.0 (sense_stops a.sense _) (sense_stops b.sense _) (sym (row_pieces a r) ∙ e ∙ row_pieces b s) in
    let l = sense_splits a.sense b.sense _ _ k.1 in
    let m = fraction_splits a.rhs b.rhs _ _ p.1.rhs q.1.rhs (omega arith) (omega arith) l.1 in
    let n = terms_split a.terms b.terms r s p.1.terms q.1.terms i j (ap (drop 1) m.1) in
    (same_row a b k.0 l.0 m.0 n.0, n.1)

-- behind the end of a line, whatever goes on
abbrev pub AnyText : List ℕ → Type 0
AnyText r = Unit {0}

pub row_line_splits : SplitsOff IsSpellableRow AnyText row_line
row_line_splits a b r s p q i j e =
    let k = row_splits a b (codes "\n" ++ r) (codes "\n" ++ s) p q (omega arith) (omega arith) (sym (append_assoc (spelled_row a) (codes "\n") r) ∙ e ∙ append_assoc (spelled_row b) (codes "\n") s) in
    (k.0, ap (drop 1) k.1)

-- ---- reasons
uns_splits : (i1 l1 i2 l2 j1 k1 j2 k2 : ℕ) (r s : List ℕ) → IsShortReason (Uns i1 l1 i2 l2) → IsShortReason (Uns j1 k1 j2 k2) → Stops r → Stops s
    → spelled_why (Uns i1 l1 i2 l2) ++ r ≡ spelled_why (Uns j1 k1 j2 k2) ++ s → (Uns i1 l1 i2 l2 ≡ Uns j1 k1 j2 k2) × (r ≡ s)
uns_splits i1 l1 i2 l2 j1 k1 j2 k2 r s p q i j e =
    let a = sym (pieces7 (decimal i1) (codes " ") (decimal l1) (codes " ") (decimal i2) (codes " ") (decimal l2) r) ∙ ap (drop 4) e
    ∙ pieces7 (decimal j1) (codes " ") (decimal k1) (codes " ") (decimal j2) (codes " ") (decimal k2) s in
    let b = decimal_splits i1 j1 _ _ p.0 q.0 (omega arith) (omega arith) a in
    let c = decimal_splits l1 k1 _ _ p.1 q.1 (omega arith) (omega arith) (ap (drop 1) b.1) in
    let d = decimal_splits i2 j2 _ _ p.2 q.2 (omega arith) (omega arith) (ap (drop 1) c.1) in
    let f = decimal_splits l2 k2 _ _ p.3 q.3 i j (ap (drop 1) d.1) in
    (ap (λ x. Uns x l1 i2 l2) b.0 ∙ ap (λ x. Uns j1 x i2 l2) c.0 ∙ ap (λ x. Uns j1 k1 x l2) d.0 ∙ ap (λ x. Uns j1 k1 j2 x) f.0, f.1)

-- reasons of different kinds begin with different letters
why_splits : SplitsOff IsShortReason Stops spelled_why
why_splits Asm Asm r s p q i j e = (refl, ap (drop 3) e)
why_splits (Lin ms) (Lin ns) r s p q i j e = let k = terms_split ms ns r s p q i j (ap (drop 4) e) in (ap Lin k.0, k.1)
why_splits (Rnd ms) (Rnd ns) r s p q i j e = let k = terms_split ms ns r s p q i j (ap (drop 4) e) in (ap Rnd k.0, k.1)
why_splits (Uns i1 l1 i2 l2) (Uns j1 k1 j2 k2) r s p q i j e = uns_splits i1 l1 i2 l2 j1 k1 j2 k2 r s p q i j e
why_splits a b r s p q i j e = absurd (omega (arith, ap (λ t. get_or t 0 0) e))

abbrev pub IsSpellableLine : CertRow × Why → Type 0
IsSpellableLine d = IsWord d.0.label × IsShortLine d

line_pieces : (d : CertRow × Why) (r : List ℕ) → derived_line d ++ r ≡ spelled_row d.0 ++ (codes " { " ++ (spelled_why d.1 ++ (codes " } -1\n" ++ r)))
line_pieces d r = pieces4 (spelled_row d.0) (codes " { ") (spelled_why d.1) (codes " } -1\n") r

pub line_splits : SplitsOff IsSpellableLine AnyText derived_line
line_splits c d r s p q i j e =
    let k = row_splits c.0 d.0 _ _ (p.0, p.1.row) (q.0, q.1.row) (omega arith) (omega arith) (sym (line_pieces c r) ∙ e ∙ line_pieces d s) in
    let l = why_splits c.1 d.1 _ _ p.1.reason q.1.reason (omega arith) (omega arith) (ap (drop 3) k.1) in
    (ap₂ (λ a w. (a, w)) k.0 l.0, ap (drop 6) l.1)
