-- Where two lists differ first.
use Rattle.std.specs.Prelude.{◌≡◌, ◌≢◌, ℕ, ◌+◌, ◌≤◌, ◌<◌, List, [], ◌∷◌, ◌++◌, length, take, get_or, Some, None, slice_get}
use Rattle.std.proofs.Common.{arith, sym, ◌∙◌, ap, inl, inr, add-one}
use Rattle.std.proofs.Math.Seq.{take-suc}
use Rattle.std.proofs.lemmas.List.{take_all}
use Rattle.std.proofs.lemmas.Option.{slice_get-get_or, slice_get_past, slice_get_cases}
use Rattle.resume.specs.Models.{DiffersFirstAt}

-- the first so many bytes are the same
pub record AgreeTo (a b : List ℕ) (at : ℕ) : Type 0 where
  pub in_a : at ≤ length a
  pub in_b : at ≤ length b
  pub same : take at a ≡ take at b

pub agree_more : (a b : List ℕ) (at : ℕ) → AgreeTo a b at → at < length a → at < length b → get_or a at 0 ≡ get_or b at 0 → AgreeTo a b (at + 1)
agree_more a b at agree in_a in_b here = record {
  in_a = omega (arith, in_a);
  in_b = omega (arith, in_b);
  same = rw add-one (take-suc a at 0 in_a ∙ ap (λ (l : List ℕ). l ++ get_or a at 0 ∷ []) agree.same ∙ ap (λ (x : ℕ). take at b ++ x ∷ []) here ∙ sym (take-suc b at 0 in_b));
}

-- one ends there
pub ends_there : (a b : List ℕ) (at : ℕ) → AgreeTo a b at → a ≢ b → length a ≤ at → DiffersFirstAt a b at
ends_there a b at agree ne le = record { same = agree.same; differs = λ e. differs (there e) }
  where
    len : length a ≡ at
    len = omega (arith, agree.in_a, le)

    there : slice_get a at ≡ slice_get b at → length b ≤ at
    there e = elim (slice_get_cases b at).1 [
      | inl some ↦ let h : Some some.0 ≡ None = sym some.2 ∙ sym e ∙ slice_get_past a at le in cc
      | inr past ↦ past.0
    ]

    differs : length b ≤ at → ⊥
    differs le_b = ne (sym (take_all _ _ le) ∙ agree.same ∙ take_all _ _ le_b)

-- a place where they differ
pub differ_here : (a b : List ℕ) (at : ℕ) → AgreeTo a b at → at < length a → at < length b → get_or a at 0 ≢ get_or b at 0 → DiffersFirstAt a b at
differ_here a b at agree in_a in_b ne = record {
  same = agree.same;
  differs = λ e. let h : Some (get_or a at 0) ≡ Some (get_or b at 0) = sym (slice_get-get_or a at 0 in_a) ∙ e ∙ slice_get-get_or b at 0 in_b in ne (cc);
}
