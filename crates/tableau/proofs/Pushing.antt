-- What is left to do after one entry more.
use Rattle.std.proofs.Common.{◌≡◌, ℕ, suc, ◌+◌, ◌<◌, ◌≤◌, arith, refl, ap, sym, ◌∙◌, subst, Bool, true, false, Option, Some, None, [], ◌∷◌, ◌++◌, length, get_or, drop, drop-cons, append_assoc, inl, inr}
use Rattle.std.specs.Prelude.{MatchBool, MatchOption, if◌then◌else◌}
use Rattle.std.specs.Option.{option_and_then, option_map}
use Rattle.std.proofs.lemmas.Bool.{lt-ltb, le-ltb, eq-eqb, ne_eqb, cases_lt}
use Rattle.std.proofs.lemmas.List.{get_or_default}
use Rattle.fraction.specs.Rational.{ℚ}
use Rattle.fraction.specs.Checked.{mul_checked}
use Rattle.problem.specs.Linear.{Terms}
use Rattle.problem.specs.Rising.{RiseFrom}
use Rattle.tableau.specs.Elimination.{add_multiple}
use Rattle.tableau.specs.Sparse.{with_entry, without}
use Rattle.tableau.specs.SparseSteps.{products_below, begins_with, met, merged, entry_quotients}
use Rattle.tableau.proofs.Substituting.{without-append}
use Rattle.std.proofs.lemmas.List.{drop-drop}
use Rattle.tableau.proofs.View.{rise_at}

-- ---- the search for a variable
read : (es : Terms) (m : ℕ) (e d : ℕ × ℚ) → m < length es → e ≡ get_or es m e → e.0 ≡ (get_or es m d).0
read es m e d l f = ap (λ (x : ℕ × ℚ). x.0) (f ∙ get_or_default es m e d l)

pub search_before : (es : Terms) (v m k : ℕ) (e d : ℕ × ℚ) → RiseFrom 0 es → m < length es → e ≡ get_or es m e → e.0 < v → k < m + 1 → (get_or es k d).0 < v
search_before es v m k e d h l f b g = elim (cases_lt k m) [
  | inl o ↦ omega (arith, rise_at 0 es k m d h o l, read es m e d l f, b)
  | inr o ↦ omega (arith, ap (λ i. (get_or es i d).0) (let s : k ≡ m = omega arith in s), read es m e d l f, b)
]

pub search_from : (es : Terms) (v m k : ℕ) (e d : ℕ × ℚ) → RiseFrom 0 es → e ≡ get_or es m e → v ≤ e.0 → m ≤ k → k < length es → v ≤ (get_or es k d).0
search_from es v m k e d h f b g l = elim (cases_lt m k) [
  | inl o ↦ omega (arith, rise_at 0 es m k d h o l, read es m e d (omega arith) f, b)
  | inr o ↦ omega (arith, ap (λ i. (get_or es i d).0) (let s : k ≡ m = omega arith in s), read es m e d (omega arith) f, b)
]

-- ---- a list from one element on
pub next_entry : (es : Terms) (i : ℕ) (e : ℕ × ℚ) → i < length es → e ≡ get_or es i e → drop i es ≡ e ∷ drop (i + 1) es
next_entry es i e l f = drop-cons es i e l ∙ (λ j. sym f j ∷ drop ((let s : suc i ≡ i + 1 = omega arith in s) j) es)

-- ---- products
pub products_next : (q : ℚ) (k : ℕ) (next : Terms → Option Terms) (ss : Terms) (i : ℕ) (s : ℕ × ℚ) → i < length ss → s ≡ get_or ss i s → s.0 < k
    → products_below q k next (drop i ss) ≡ option_and_then (λ p. option_map (with_entry s.0 p) (products_below q k next (drop (i + 1) ss))) (mul_checked q s.1)
products_next q k next ss i s l f b =
    ap (products_below q k next) (next_entry ss i s l f)
    ∙ ap (λ b. if b then option_and_then (λ p. option_map (with_entry s.0 p) (products_below q k next (drop (i + 1) ss))) (mul_checked q s.1) else next (s ∷ drop (i + 1) ss)) (lt-ltb s.0 k b)

pub products_stop : (q : ℚ) (k : ℕ) (next : Terms → Option Terms) (ss : Terms) (i : ℕ) (s : ℕ × ℚ) → i < length ss → s ≡ get_or ss i s → k ≤ s.0
    → products_below q k next (drop i ss) ≡ next (drop i ss)
products_stop q k next ss i s l f b =
    ap (products_below q k next) (next_entry ss i s l f)
    ∙ ap (λ b. if b then option_and_then (λ p. option_map (with_entry s.0 p) (products_below q k next (drop (i + 1) ss))) (mul_checked q s.1) else next (s ∷ drop (i + 1) ss)) (le-ltb s.0 k b)
    ∙ sym (ap next (next_entry ss i s l f))

-- ---- entries that were pushed
pub pushed : (new old : Terms) (v : ℕ) (x : ℚ) (rest : Option Terms) → ((others : Terms) → new ++ others ≡ old ++ with_entry v x others)
    → option_map (λ es. new ++ es) rest ≡ option_map (λ es. old ++ es) (option_map (with_entry v x) rest)
pushed new old v x None h = refl
pushed new old v x (Some es) h = ap Some (h es)

pub joined : (front back : Terms) (rest : Option Terms) → option_map (λ es. front ++ (back ++ es)) rest ≡ option_map (λ es. front ++ es) (option_map (λ es. back ++ es) rest)
joined front back None = refl
joined front back (Some es) = refl

pub products_go_on : (q : ℚ) (k : ℕ) (next : Terms → Option Terms) (ss : Terms) (i : ℕ) (s : ℕ × ℚ) (old new : Terms) (whole : Option Terms) → i < length ss → s ≡ get_or ss i s → s.0 < k
    → ((rest : Option Terms) → option_map (λ es. new ++ es) rest ≡ option_map (λ es. old ++ es) (option_and_then (λ p. option_map (with_entry s.0 p) rest) (mul_checked q s.1)))
    → option_map (λ es. old ++ es) (products_below q k next (drop i ss)) ≡ whole → option_map (λ es. new ++ es) (products_below q k next (drop (i + 1) ss)) ≡ whole
products_go_on q k next ss i s old new whole l f b h e =
    h (products_below q k next (drop (i + 1) ss)) ∙ sym (ap (option_map (λ es. old ++ es)) (products_next q k next ss i s l f b)) ∙ e

-- which of two facts holds
pub when_true : (P Q : Type 0) (b : Bool) → MatchBool b P Q → b ≡ true → P
when_true P Q true h e = h
when_true P Q false h e = cc

pub when_false : (P Q : Type 0) (b : Bool) → MatchBool b P Q → b ≡ false → Q
when_false P Q true h e = cc
when_false P Q false h e = h

-- ---- an entry that may meet one of the source
pub met_first : (q : ℚ) (t d : ℕ × ℚ) (next : Terms → Option Terms) (ss : Terms) → begins_with ss t.0 ≡ true
    → met q t next ss ≡ option_and_then (λ v. option_map (with_entry t.0 v) (next (drop 1 ss))) (add_multiple q t.1 (get_or ss 0 d).1)
met_first q t d next [] e = cc
met_first q t d next (s ∷ ss) e =
    ap (λ b. if b then option_and_then (λ v. option_map (with_entry t.0 v) (next ss)) (add_multiple q t.1 s.1) else option_map (λ es. t ∷ es) (next (s ∷ ss))) e

pub met_copy : (q : ℚ) (t : ℕ × ℚ) (next : Terms → Option Terms) (ss : Terms) → begins_with ss t.0 ≡ false → met q t next ss ≡ option_map (λ es. t ∷ es) (next ss)
met_copy q t next [] e = refl
met_copy q t next (s ∷ ss) e =
    ap (λ b. if b then option_and_then (λ v. option_map (with_entry t.0 v) (next ss)) (add_multiple q t.1 s.1) else option_map (λ es. t ∷ es) (next (s ∷ ss))) e

pub begins_there : (ss : Terms) (v : ℕ) → begins_with ss v ≡ true → 0 < length ss
begins_there [] v e = cc
begins_there (s ∷ ss) v e = omega arith

-- an entry that meets one
pub summed : (q : ℚ) (t s : ℕ × ℚ) (next : Terms → Option Terms) (ss old new : Terms) → begins_with ss t.0 ≡ true → s ≡ get_or ss 0 s
    → ((rest : Option Terms) → option_map (λ es. new ++ es) rest ≡ option_map (λ es. old ++ es) (option_and_then (λ v. option_map (with_entry t.0 v) rest) (add_multiple q t.1 s.1)))
    → option_map (λ es. new ++ es) (next (drop 1 ss)) ≡ option_map (λ es. old ++ es) (met q t next ss)
summed q t s next ss old new e f h =
    h (next (drop 1 ss))
    ∙ ap (option_map (λ es. old ++ es)) (ap (λ (s : ℕ × ℚ). option_and_then (λ v. option_map (with_entry t.0 v) (next (drop 1 ss))) (add_multiple q t.1 s.1)) f ∙ sym (met_first q t s next ss e))

-- an entry that is copied
pub copied : (q : ℚ) (t : ℕ × ℚ) (next : Terms → Option Terms) (ss old new : Terms) → begins_with ss t.0 ≡ false → new ≡ old ++ (t ∷ [])
    → option_map (λ es. new ++ es) (next (drop 0 ss)) ≡ option_map (λ es. old ++ es) (met q t next ss)
copied q t next ss old new e f =
    ap (λ new. option_map (λ es. new ++ es) (next ss)) f ∙ at (next ss) ∙ sym (ap (option_map (λ es. old ++ es)) (met_copy q t next ss e))
  where
    at : (o : Option Terms) → option_map (λ es. (old ++ (t ∷ [])) ++ es) o ≡ option_map (λ es. old ++ es) (option_map (λ es. t ∷ es) o)
    at None = refl
    at (Some es) = ap Some (append_assoc old (t ∷ []) es)

-- an entry after the products of earlier variables
pub entry_after : (q : ℚ) (t : ℕ × ℚ) (next : Terms → Option Terms) (source ss old mid new : Terms) (k i n : ℕ) → k ≡ t.0 → ss ≡ drop i source
    → option_map (λ es. mid ++ es) (met q t next (drop i source)) ≡ option_map (λ es. old ++ es) (products_below q k (met q t next) source)
    → option_map (λ es. new ++ es) (next (drop n ss)) ≡ option_map (λ es. mid ++ es) (met q t next ss)
    → option_map (λ es. new ++ es) (next (drop (i + n) source)) ≡ option_map (λ es. old ++ es) (products_below q t.0 (met q t next) source)
entry_after q t next source ss old mid new k i n e f g h =
    ap (λ ss. option_map (λ es. new ++ es) (next ss)) (sym (ap (drop n) f ∙ drop-drop n i source))
    ∙ h ∙ ap (λ ss. option_map (λ es. mid ++ es) (met q t next ss)) f
    ∙ g ∙ ap (λ k. option_map (λ es. old ++ es) (products_below q k (met q t next) source)) e

-- nothing put behind others
none_of : (old : Terms) (o : Option Terms) → option_map (λ es. old ++ es) o ≡ None → o ≡ None
none_of old None e = refl
none_of old (Some es) e = cc

-- one that is cramped there
pub entry_cramped : (q : ℚ) (t : ℕ × ℚ) (next : Terms → Option Terms) (source ss old mid : Terms) (k i : ℕ) → k ≡ t.0 → ss ≡ drop i source
    → option_map (λ es. mid ++ es) (met q t next (drop i source)) ≡ option_map (λ es. old ++ es) (products_below q k (met q t next) source)
    → met q t next ss ≡ None → products_below q t.0 (met q t next) source ≡ None
entry_cramped q t next source ss old mid k i e f g h =
    ap (λ k. products_below q k (met q t next) source) (sym e)
    ∙ none_of old (products_below q k (met q t next) source) (sym g ∙ ap (λ ss. option_map (λ es. mid ++ es) (met q t next ss)) (sym f) ∙ ap (option_map (λ es. mid ++ es)) h)

-- ---- the merge, row entry by row entry
pub without_next : (v : ℕ) (es : Terms) (i : ℕ) (e : ℕ × ℚ) → i < length es → e ≡ get_or es i e → (e.0 ≡ v → ⊥) → without v (drop i es) ≡ e ∷ without v (drop (i + 1) es)
without_next v es i e l f n = ap (without v) (next_entry es i e l f) ∙ ap (λ b. if b then without v (drop (i + 1) es) else e ∷ without v (drop (i + 1) es)) (ne_eqb e.0 v n)

pub without_skipped : (v : ℕ) (es : Terms) (i : ℕ) (e : ℕ × ℚ) → i < length es → e ≡ get_or es i e → e.0 ≡ v → without v (drop i es) ≡ without v (drop (i + 1) es)
without_skipped v es i e l f n = ap (without v) (next_entry es i e l f) ∙ ap (λ b. if b then without v (drop (i + 1) es) else e ∷ without v (drop (i + 1) es)) (eq-eqb e.0 v n)

pub merge_goes_on : (w : ℕ) (q : ℚ) (v : ℕ) (row source ss : Terms) (i next n : ℕ) (e : ℕ × ℚ) (old new : Terms) (whole : Option Terms) → i < length row → e ≡ get_or row i e → (e.0 ≡ v → ⊥) → ss ≡ drop next source
    → ((rest : Terms → Option Terms) → option_map (λ es. new ++ es) (rest (drop n ss)) ≡ option_map (λ es. old ++ es) (products_below q e.0 (met q e rest) ss))
    → option_map (λ es. old ++ es) (merged w q (without v (drop i row)) (drop next source)) ≡ whole
    → option_map (λ es. new ++ es) (merged w q (without v (drop (i + 1) row)) (drop (next + n) source)) ≡ whole
merge_goes_on w q v row source ss i next n e old new whole l f g r h k =
    ap (λ ss. option_map (λ es. new ++ es) (merged w q (without v (drop (i + 1) row)) ss)) (sym (ap (drop n) r ∙ drop-drop n next source))
    ∙ h (merged w q (without v (drop (i + 1) row)))
    ∙ (λ a. option_map (λ fs. old ++ fs) (merged w q (sym (without_next v row i e l f g) a) (r a))) ∙ k

pub merge_stops : (w : ℕ) (q : ℚ) (v : ℕ) (row source ss : Terms) (i next : ℕ) (e : ℕ × ℚ) (old new : Terms) (whole : Option Terms) → i < length row → e ≡ get_or row i e → (e.0 ≡ v → ⊥) → ss ≡ drop next source
    → ((rest : Terms → Option Terms) → products_below q e.0 (met q e rest) ss ≡ None)
    → option_map (λ es. old ++ es) (merged w q (without v (drop i row)) (drop next source)) ≡ option_map (λ es. new ++ es) whole → whole ≡ None
merge_stops w q v row source ss i next e old new whole l f g r h k =
    none_of new whole (sym k ∙ ap (option_map (λ es. old ++ es)) ((λ a. merged w q (without_next v row i e l f g a) (sym r a)) ∙ h (merged w q (without v (drop (i + 1) row)))))

-- ---- quotients
pub quotients_go_on : (p : ℚ) (v : ℕ) (es : Terms) (i : ℕ) (e : ℕ × ℚ) (others old new : Terms) (whole : Option Terms) → i < length es → e ≡ get_or es i e
    → ((others : Terms) → option_map (λ es. new ++ es) (entry_quotients p others) ≡ option_map (λ es. old ++ es) (entry_quotients p (without v (e ∷ []) ++ others)))
    → option_map (λ es. old ++ es) (entry_quotients p (without v (drop i es) ++ others)) ≡ whole
    → option_map (λ es. new ++ es) (entry_quotients p (without v (drop (i + 1) es) ++ others)) ≡ whole
quotients_go_on p v es i e others old new whole l f h k =
    h (without v (drop (i + 1) es) ++ others)
    ∙ ap (λ es. option_map (λ fs. old ++ fs) (entry_quotients p es)) (sym (append_assoc (without v (e ∷ [])) (without v (drop (i + 1) es)) others)
    ∙ ap (λ es. es ++ others) (sym (without-append v (e ∷ []) (drop (i + 1) es)) ∙ ap (without v) (sym (next_entry es i e l f)))) ∙ k

pub when_some : {A : Type 0} (P : Type 0) (Q : A → Type 0) (o : Option A) (n : A) → MatchOption o P Q → o ≡ Some n → Q n
when_some P Q None n h e = cc
when_some P Q (Some m) n h e = let f : m ≡ n = cc in subst Q f h

pub when_none : {A : Type 0} (P : Type 0) (Q : A → Type 0) (o : Option A) → MatchOption o P Q → o ≡ None → P
when_none P Q None h e = h
when_none P Q (Some m) h e = cc
