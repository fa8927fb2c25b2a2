-- Lemmas: a text reads as one problem or has one first fault.
use Rattle.std.specs.Prelude.{◌≡◌, ℕ, List, ◌∷◌, ◌++◌, Option, Some, None, Result, Ok, Err, ◌⊎◌, Bool, true, false, cond, []}
use Rattle.std.proofs.Common.{refl, sym, ap, ◌∙◌, inl, inr}
use Rattle.mps_lines.specs.Lines.{Line}
use Rattle.mps_reader.specs.Sections.{Sections, with_line}
use Rattle.mps_reader.specs.Faults.{line_fault}
use Rattle.problem.specs.Problem.{Problem}
use Rattle.mps_reader.specs.Reading.{Reads, IsRefused, reading, sections_from, after_line, ends}
use Rattle.mps_reader.specs.declared.kinds.Kind.{Kind}
use Rattle.mps_reader.specs.declared.kinds.Kind.TheVariants as kind
use Rattle.mps_reader.specs.Laws.{sections_of, AreFine, IsFirstFault}

either_of : (r : Result Problem (ℕ × Kind)) → ((p : Problem) × (r ≡ Ok p)) ⊎ ((line : ℕ) × (k : Kind) × (r ≡ Err (line, k)))
either_of (Ok p) = inl (p, refl)
either_of (Err e) = inr (e.0, e.1, refl)

same_fault : (a b : ℕ × Kind) (r : Result Problem (ℕ × Kind)) → r ≡ Err a → r ≡ Err b → a ≡ b
same_fault a b r h j = cc

same_line : (a b : ℕ × Kind) (r : Result Sections (ℕ × Kind)) → r ≡ Err a → r ≡ Err b → a ≡ b
same_line a b r h j = cc

no_fault : (s : Sections) (a : ℕ × Kind) (r : Result Sections (ℕ × Kind)) → r ≡ Ok s → r ≡ Err a → ⊥
no_fault s a r h j = cc

-- one of the two
pub reads_or_refused : (text : List ℕ) (upper : Option ℕ) → ((p : Problem) × Reads text upper p) ⊎ ((line : ℕ) × (k : Kind) × IsRefused text upper line k)
reads_or_refused text upper = either_of (reading text upper)

-- never both, one problem, one fault
pub never_both : (text : List ℕ) (upper : Option ℕ) (p : Problem) (line : ℕ) (k : Kind) → Reads text upper p → IsRefused text upper line k → ⊥
never_both text upper p line k h j = cc

pub one_problem : (text : List ℕ) (upper : Option ℕ) (p q : Problem) → Reads text upper p → Reads text upper q → p ≡ q
one_problem text upper p q h j = cc

pub one_fault : (text : List ℕ) (upper : Option ℕ) (l m : ℕ) (k j : Kind) → IsRefused text upper l k → IsRefused text upper m j → (l ≡ m) × (k ≡ j)
one_fault text upper l m k j a b = let e = same_fault (l, k) (m, j) (reading text upper) a b in (ap (λ p. p.0) e, ap (λ p. p.1) e)

-- the first line at fault is the one that is found
pub found_first : (last : ℕ) (s : Sections) (before : List Line) (line : Line) (after : List Line) (k : Kind) → AreFine s before → line_fault (sections_of s before) line ≡ Some k
    → sections_from last s (before ++ line ∷ after) ≡ Err (line.number, k)
found_first last s [] line after k fine h = ap (λ f. after_line f line (sections_from last (with_line s line) after) s) h
found_first last s (l ∷ before) line after k fine h =
    ap (λ f. after_line f l (sections_from last (with_line s l) (before ++ line ∷ after)) s) fine.0
    ∙ ap (λ (b : Bool). cond b (Ok s) (sections_from last (with_line s l) (before ++ line ∷ after))) fine.1
    ∙ found_first last (with_line s l) before line after k fine.2 h

-- and what is found is the first line at fault, or there is no end
more : (s : Sections) (l : Line) (lines : List Line) (n : ℕ) (k : Kind) → line_fault s l ≡ None → ends l ≡ false → IsFirstFault (with_line s l) lines n k → IsFirstFault s (l ∷ lines) n k
more s l lines n k f e h = record { before = l ∷ h.before; line = h.line; after = h.after; is = ap (λ ls. l ∷ ls) h.is; fine = (f, e, h.fine); fault = h.fault; at = h.at }

abbrev Found : (last : ℕ) (s : Sections) (lines : List Line) (n : ℕ) (k : Kind) → Type 0
Found last s lines n k = IsFirstFault s lines n k ⊎ ((n ≡ last) × (k ≡ kind.NoEnd) × AreFine s lines)

found_more : (last : ℕ) (s : Sections) (l : Line) (lines : List Line) (n : ℕ) (k : Kind) → line_fault s l ≡ None → ends l ≡ false → Found last (with_line s l) lines n k → Found last s (l ∷ lines) n k
found_more last s l lines n k f e (inl h) = inl (more s l lines n k f e h)
found_more last s l lines n k f e (inr h) = inr (h.0, h.1, (f, e, h.2))

found_by : (last : ℕ) (s : Sections) (l : Line) (lines : List Line) (n : ℕ) (k : Kind) (f : Option Kind) (e : Bool) → line_fault s l ≡ f → ends l ≡ e
    → after_line f l (sections_from last (with_line s l) lines) s ≡ Err (n, k)
    → (sections_from last (with_line s l) lines ≡ Err (n, k) → Found last (with_line s l) lines n k) → Found last s (l ∷ lines) n k
found_by last s l lines n k (Some j) e a b h rest =
    let q = same_line (l.number, j) (n, k) _ refl h in
    inl (record { before = []; line = l; after = lines; is = refl; fine = tt; fault = a ∙ ap (λ p. Some p.1) q; at = ap (λ p. p.0) q })
found_by last s l lines n k None true a b h rest =
    absurd (no_fault s (n, k) _ (ap (λ (e : Bool). cond e (Ok s) (sections_from last (with_line s l) lines)) b) h)
found_by last s l lines n k None false a b h rest =
    found_more last s l lines n k a b (rest (sym (ap (λ (e : Bool). cond e (Ok s) (sections_from last (with_line s l) lines)) b) ∙ h))

pub found_is : (last : ℕ) (s : Sections) (lines : List Line) (n : ℕ) (k : Kind) → sections_from last s lines ≡ Err (n, k)
    → IsFirstFault s lines n k ⊎ ((n ≡ last) × (k ≡ kind.NoEnd) × AreFine s lines)
found_is last s [] n k h = let q = same_line (n, k) (last, kind.NoEnd) _ h refl in inr (ap (λ p. p.0) q, ap (λ p. p.1) q, tt)
found_is last s (l ∷ lines) n k h =
    found_by last s l lines n k (line_fault s l) (ends l) refl refl h (found_is last (with_line s l) lines n k)
