-- Lemmas: where lines end.
use Rattle.std.specs.Prelude.{◌≡◌, ℕ, ◌+◌, ◌<◌, Bool, true, false, not, ◌==◌, ◌&&◌, List, [], ◌∷◌, ◌++◌, length, take, drop}
use Rattle.std.specs.List.{list_all, onto_first, position_or_len}
use Rattle.std.proofs.Common.{refl, sym, ap, ◌∙◌, cond, arith, get_or, suc, zero, add-one}
use Rattle.std.proofs.lemmas.Bool.{not-true, eqb-true, and_parts}
use Rattle.std.proofs.lemmas.List.{take-append-drop}
use Rattle.std.proofs.lemmas.List.Sums.{passes_at_first}
use Rattle.std.proofs.Math.Seq.{drop-cons, take-length, drop-length}
use Rattle.mps_lines.proofs.Places.{list_all_prefix}
use Rattle.std.proofs.Math.Bool.{and-false}
use Rattle.mps_lines.specs.Lines.{raw_lines, begins_with}
use Rattle.mps_lines.specs.Ends.{without_cr}

-- b and what follows, where no line ends at b
begun : (b : ℕ) (bytes : List ℕ) → (b == 10) ≡ false → ((b == 13) && begins_with 10 bytes) ≡ false → raw_lines (b ∷ bytes) ≡ onto_first b (raw_lines bytes)
begun b bytes h k = rw (h, k) refl

last_cr : (b : ℕ) (t : Bool) (lines : List (List ℕ)) → cond (t && true) ([] ∷ lines) ((b ∷ []) ∷ lines) ≡ cond t [] (b ∷ []) ∷ lines
last_cr b true lines = refl
last_cr b false lines = refl

-- a line that a LF ends
pub ended : (line rest : List ℕ) → list_all (λ b. not (b == 10)) line ≡ true → raw_lines (line ++ 10 ∷ rest) ≡ without_cr line ∷ raw_lines rest
ended [] rest h = refl
ended (b ∷ []) rest h =
    let n : (b == 10) ≡ false = not-true _ (and_parts _ _ h).0 in
    rw n (last_cr b (b == 13) (raw_lines rest))
ended (b ∷ c ∷ line) rest h =
    let k = and_parts _ _ h in
    let n : (c == 10) ≡ false = not-true _ (and_parts _ _ k.1).0 in
    begun b (c ∷ line ++ 10 ∷ rest) (not-true _ k.0) (ap (λ t. (b == 13) && t) n ∙ and-false (b == 13)) ∙ ap (onto_first b) (ended (c ∷ line) rest k.1)

-- the last line, which none ends
pub unended : (b : ℕ) (line : List ℕ) → list_all (λ b. not (b == 10)) (b ∷ line) ≡ true → raw_lines (b ∷ line) ≡ (b ∷ line) ∷ []
unended b [] h = begun b [] (not-true _ (and_parts _ _ h).0) (and-false (b == 13))
unended b (c ∷ line) h =
    let k = and_parts _ _ h in
    let n : (c == 10) ≡ false = not-true _ (and_parts _ _ k.1).0 in
    begun b (c ∷ line) (not-true _ k.0) (ap (λ t. (b == 13) && t) n ∙ and-false (b == 13)) ∙ ap (onto_first b) (unended c line k.1)

-- the last byte decides
pub cr_cut : (line : List ℕ) (n : ℕ) → length line ≡ suc n → get_or line n 0 ≡ 13 → without_cr line ≡ take n line
cr_cut [] n e h = absurd (omega arith)
cr_cut (b ∷ []) zero e h = rw h refl
cr_cut (b ∷ []) (suc n) e h = absurd (omega arith)
cr_cut (b ∷ c ∷ line) zero e h = absurd (omega arith)
cr_cut (b ∷ c ∷ line) (suc n) e h = ap (λ l. b ∷ l) (cr_cut (c ∷ line) n (omega arith) h)

pub cr_kept : (line : List ℕ) (n : ℕ) → length line ≡ suc n → (get_or line n 0 == 13) ≡ false → without_cr line ≡ line
cr_kept [] n e h = refl
cr_kept (b ∷ []) zero e h = rw h refl
cr_kept (b ∷ []) (suc n) e h = absurd (omega arith)
cr_kept (b ∷ c ∷ line) zero e h = absurd (omega arith)
cr_kept (b ∷ c ∷ line) (suc n) e h = ap (λ l. b ∷ l) (cr_kept (c ∷ line) n (omega arith) h)

-- the bytes before the first LF, and those behind it
pub cut_at : (text : List ℕ) (at : ℕ) → at ≡ position_or_len (λ b. b == 10) text → at < length text → raw_lines text ≡ without_cr (take at text) ∷ raw_lines (drop (at + 1) text)
cut_at text at e h =
    let k : position_or_len (λ b. b == 10) text < length text = omega (arith, e) in
    let t : (get_or text (position_or_len (λ b. b == 10) text) 0 == 10) ≡ true = passes_at_first (λ b. b == 10) text 0 k in
    let f : get_or text at 0 ≡ 10 = ap (λ n. get_or text n 0) e ∙ eqb-true _ 10 t in
    let s : text ≡ take at text ++ 10 ∷ drop (at + 1) text = sym (take-append-drop at text) ∙ ap (λ r. take at text ++ r) (drop-cons text at 0 h ∙ (λ i. f i ∷ drop (sym (add-one at) i) text)) in
    ap raw_lines s ∙ ended (take at text) (drop (at + 1) text) (ap (λ n. list_all (λ b. not (b == 10)) (take n text)) e ∙ list_all_prefix (λ b. not (b == 10)) text)

pub last_line : (text : List ℕ) (at : ℕ) → at ≡ position_or_len (λ b. b == 10) text → at ≡ length text → 0 < length text → raw_lines text ≡ text ∷ raw_lines (drop at text)
last_line [] at e f h = absurd (omega arith)
last_line (b ∷ text) at e f h =
    let a = ap (λ n. list_all (λ b. not (b == 10)) (take n (b ∷ text))) (sym f ∙ e) ∙ list_all_prefix (λ b. not (b == 10)) (b ∷ text) in
    unended b text (ap (list_all (λ b. not (b == 10))) (sym (take-length (b ∷ text))) ∙ a) ∙ ap (λ r. (b ∷ text) ∷ raw_lines r) (sym (ap (λ n. drop n (b ∷ text)) f ∙ drop-length (b ∷ text)))
