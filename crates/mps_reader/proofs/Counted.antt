-- How many lines a text has, byte by byte.
use Rattle.std.specs.Prelude.{◌≡◌, ℕ, zero, suc, ◌+◌, ◌<◌, Bool, true, false, not, ◌==◌, ◌&&◌, if◌then◌else◌, cond, List, ◌∷◌, length, drop, []}
use Rattle.std.specs.List.{onto_first}
use Rattle.std.proofs.Common.{refl, sym, ap, ◌∙◌, arith, add-one, get_or}
use Rattle.std.proofs.Math.Seq.{drop-cons}
use Rattle.mps_lines.specs.Lines.{raw_lines, begins_with}

-- at least one line where a line has begun
abbrev pub with_open : Bool → ℕ → ℕ
with_open false n = n
with_open true zero = 1
with_open true (suc n) = suc n

-- the lines that end in these bytes, where one has begun or not
abbrev pub lines_left : Bool → List ℕ → ℕ
lines_left is_open bytes = with_open is_open (length (raw_lines bytes))

onto_count : (b : ℕ) (lines : List (List ℕ)) → length (onto_first b lines) ≡ with_open true (length lines)
onto_count b [] = refl
onto_count b (line ∷ lines) = refl

open_some : (is_open : Bool) (n : ℕ) → with_open is_open (suc n) ≡ suc n
open_some true n = refl
open_some false n = refl

pub left_end : (is_open : Bool) (b : ℕ) (bytes : List ℕ) → b ≡ 10 → lines_left is_open (b ∷ bytes) ≡ suc (lines_left false bytes)
left_end is_open b bytes h =
    let e : (b == 10) ≡ true = grind arith in
    ap (λ (c : Bool). with_open is_open (length (cond c ([] ∷ raw_lines bytes) (cond ((b == 13) && begins_with 10 bytes) (raw_lines bytes) (onto_first b (raw_lines bytes)))))) e
    ∙ open_some is_open (length (raw_lines bytes))

-- a text that begins with a line's end has a line
ended_some : (bytes : List ℕ) → begins_with 10 bytes ≡ true → length (raw_lines bytes) ≡ with_open true (length (raw_lines bytes))
ended_some [] h = cc
ended_some (b ∷ bytes) h =
    let e : lines_left false (b ∷ bytes) ≡ suc (length (raw_lines bytes)) = left_end false b bytes (grind arith) in
    e ∙ sym (ap (with_open true) e)

pub left_more : (is_open : Bool) (b : ℕ) (bytes : List ℕ) → (b == 10) ≡ false → lines_left is_open (b ∷ bytes) ≡ lines_left true bytes
left_more is_open b bytes h =
    ap (λ (c : Bool). with_open is_open (length (cond c ([] ∷ raw_lines bytes) (cond ((b == 13) && begins_with 10 bytes) (raw_lines bytes) (onto_first b (raw_lines bytes)))))) h
    ∙ by (b == 13) (begins_with 10 bytes) refl
  where
    twice : (is_open : Bool) (n : ℕ) → with_open is_open (with_open true n) ≡ with_open true n
    twice true zero = refl
    twice true (suc n) = refl
    twice false n = refl

    by : (c e : Bool) → begins_with 10 bytes ≡ e → with_open is_open (length (cond (c && e) (raw_lines bytes) (onto_first b (raw_lines bytes)))) ≡ lines_left true bytes
    by true true k = ap (with_open is_open) (ended_some bytes k) ∙ twice is_open (length (raw_lines bytes))
    by true false k = ap (with_open is_open) (onto_count b (raw_lines bytes)) ∙ twice is_open (length (raw_lines bytes))
    by false e k = ap (with_open is_open) (onto_count b (raw_lines bytes)) ∙ twice is_open (length (raw_lines bytes))

-- one byte of a text
pub one_byte : (is_open : Bool) (text : List ℕ) (i b : ℕ) → i < length text → b ≡ get_or text i 0 → lines_left is_open (drop i text) ≡ (if b == 10 then 1 else 0) + lines_left (not (b == 10)) (drop (i + 1) text)
one_byte is_open text i b l e =
    ap (lines_left is_open) (drop-cons text i 0 l ∙ (λ j. sym e j ∷ drop (sym (add-one i) j) text)) ∙ by (b == 10) refl
  where
    by : (c : Bool) → (b == 10) ≡ c → lines_left is_open (b ∷ drop (i + 1) text) ≡ (if c then 1 else 0) + lines_left (not c) (drop (i + 1) text)
    by true h = left_end is_open b (drop (i + 1) text) (grind arith) ∙ omega arith
    by false h = left_more is_open b (drop (i + 1) text) h ∙ omega arith
