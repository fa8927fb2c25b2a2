-- Names in tables.
use Rattle.std.specs.Prelude.{◌≡◌, ℕ, ◌+◌, Bool, true, false, not, cond, List, ◌∷◌, ◌++◌, Some, None, is_some, length, suc, []}
use Rattle.std.specs.Option.{option_or}
use Rattle.std.specs.Str.{bytes_eq}
use Rattle.std.proofs.Common.{refl, sym, ap, arith, length-append}
use Rattle.std.proofs.lemmas.Slice.Eq.{bytes_eq-Decides}
use Rattle.std.proofs.lemmas.Bool.Decides.{same_from_decides, Decides-like}
use Rattle.mps_reader.specs.Meaning.{place}
use Rattle.mps_reader.specs.Words.{value_under}
use Rattle.mps_reader.specs.declared.kinds.Column.{Column}

pub same_text : (a b : List ℕ) → bytes_eq a b ≡ true → a ≡ b
same_text a b h = (bytes_eq-Decides a b).0 h

pub bytes_flip : (a b : List ℕ) → bytes_eq a b ≡ bytes_eq b a
bytes_flip a b = same_from_decides {P = a ≡ b} _ _ (bytes_eq-Decides a b) (Decides-like (bytes_eq b a) (λ e. sym e) (λ e. sym e) (bytes_eq-Decides b a))

pub value_under_push : {A : Type 0} (xs : List (List ℕ × A)) (w : List ℕ) (v : A) (name : List ℕ) → value_under (xs ++ (w, v) ∷ []) name ≡ option_or (value_under xs name) (cond (bytes_eq name w) (Some v) None)
value_under_push [] w v name = refl
value_under_push (x ∷ xs) w v name = step (bytes_eq name x.0) (value_under_push xs w v name)
  where
    step : (b : Bool) → value_under (xs ++ (w, v) ∷ []) name ≡ option_or (value_under xs name) (cond (bytes_eq name w) (Some v) None)
        → cond b (Some x.1) (value_under (xs ++ (w, v) ∷ []) name) ≡ option_or (cond b (Some x.1) (value_under xs name)) (cond (bytes_eq name w) (Some v) None)
    step true h = refl
    step false h = h

pub length_push : {A : Type 0} (xs : List A) (x : A) → length (xs ++ x ∷ []) ≡ suc (length xs)
length_push xs x = omega (arith, length-append xs (x ∷ []))

pub place_push : (cs : List (List ℕ × Column)) (name : List ℕ) (c : Column) → is_some (value_under cs name) ≡ false → place (cs ++ (name, c) ∷ []) name ≡ length cs
place_push [] name c h = ap (λ (b : Bool). cond (not b) (1 + 0) 0) ((bytes_eq-Decides name name).1 refl)
place_push (d ∷ cs) name c h = step (place_push cs name c) (bytes_eq name d.0) h
  where
    step : (is_some (value_under cs name) ≡ false → place (cs ++ (name, c) ∷ []) name ≡ length cs) → (b : Bool) → is_some (cond b (Some d.1) (value_under cs name)) ≡ false → cond (not b) (1 + place (cs ++ (name, c) ∷ []) name) 0 ≡ suc (length cs)
    step rest true h = cc
    step rest false h = omega (arith, rest h)
