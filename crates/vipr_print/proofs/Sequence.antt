-- What calls that print one text after the other did to the sink.
use Rattle.std.specs.Prelude.{◌≡◌, ◌<◌, ◌+◌, ℕ, zero, suc, ℤ, slice_index_or, slice_get, Some, Bool, List, [], ◌∷◌, ◌++◌, length, take, drop, Result, Ok, Err, refl}
use Rattle.std.proofs.Common.{sym, ap, ◌∙◌, subst, append_assoc, arith}
use Rattle.std.proofs.lemmas.List.{append-nil, take-append-drop}
use Rattle.std.proofs.Math.Seq.{take-append_seam}
use Rattle.std.specs.List.{flat_map}
use Rattle.std.specs.Result.{IsErrAnd, OnErr}
use Rattle.outside.specs.Faults.{Counts}
use Rattle.outside.specs.Stream.{AppendsPrefix}
use Rattle.vipr_print.specs.declared.fault.PrintFault.{PrintFault}
use Rattle.vipr_print.specs.declared.fault.PrintFault.TheVariants as fault
use Rattle.vipr_print.specs.Spelling.{point_line, point_lines, column_numbers, next_column}
use Rattle.vipr_print.specs.Printed.{TakesPrefix, TakesText, is_sink_fault, IsPrinted}

-- nothing yet
pub printed-nothing : (k : Bool) (a : List ℕ) (n : ℕ) → IsPrinted k a a n n [] (Ok tt)
printed-nothing k a n = record { bytes = λ _. sym (append-nil a); cause = refl }

-- no memory, before anything was written
pub printed-no_memory : (k : Bool) (a t : List ℕ) (n : ℕ) → IsPrinted k a a n n t (Err fault.Memory)
printed-no_memory k a t n = record { bytes = λ _. record { prefix = []; rest = t; parts = refl; taken = sym (append-nil a) }; cause = refl }

-- a text, and then another
pub printed-then : (k : Bool) (a b c : List ℕ) (m n o : ℕ) (t u : List ℕ) (r : Result (Unit {0}) PrintFault) → IsPrinted k a b m n t (Ok tt) → IsPrinted k b c n o u r → IsPrinted k a c m o (t ++ u) r
printed-then k a b c m n o t u (Ok tt) p q = record {
  bytes = λ e. q.bytes e ∙ ap (λ x. x ++ u) (p.bytes e) ∙ append_assoc a t u;
  cause = q.cause ∙ p.cause;
}
printed-then k a b c m n o t u (Err e) p q = record {
  bytes = λ h.
      let f = q.bytes h in
      record { prefix = t ++ f.prefix; rest = f.rest; parts = ap (λ x. t ++ x) f.parts ∙ sym (append_assoc t f.prefix f.rest); taken = f.taken ∙ ap (λ x. x ++ f.prefix) (p.bytes h) ∙ append_assoc a t f.prefix };
  cause = subst (λ x. Counts x o (is_sink_fault (Err e))) p.cause q.cause;
}

-- a text, of which only a prefix was written, so that nothing of the next one is
pub printed-stopped : (k : Bool) (a b : List ℕ) (m n : ℕ) (t u : List ℕ) (e : PrintFault) → IsPrinted k a b m n t (Err e) → IsPrinted k a b m n (t ++ u) (Err e)
printed-stopped k a b m n t u e p = record {
  bytes = λ h. let f = p.bytes h in record { prefix = f.prefix; rest = f.rest ++ u; parts = ap (λ x. x ++ u) f.parts ∙ append_assoc f.prefix f.rest u; taken = f.taken };
  cause = p.cause;
}

-- a prefix is some of the first bytes
pub appends_prefix : (a b t : List ℕ) → TakesPrefix a b t → AppendsPrefix a b t
appends_prefix a b t f = (length f.prefix, f.taken ∙ ap (λ x. a ++ x) (sym (ap (take (length f.prefix)) f.parts ∙ take-append_seam f.prefix f.rest)))

pub took_prefix : (a b t : List ℕ) → AppendsPrefix a b t → TakesPrefix a b t
took_prefix a b t f = record { prefix = take f.0 t; rest = drop f.0 t; parts = sym (take-append-drop f.0 t); taken = f.1 }

-- ---- a text for each element of a list
more_text : {X : Type 0} (f : X → List ℕ) (xs : List X) (i : ℕ) (x : X) → i < length xs → x ≡ slice_index_or xs i x → flat_map f (take (suc i) xs) ≡ flat_map f (take i xs) ++ f x
more_text f [] i x l e = absurd (omega (arith, l))
more_text f (y ∷ xs) zero x l e = append-nil (f y) ∙ ap f (sym e)
more_text f (y ∷ xs) (suc i) x l e = ap (λ t. f y ++ t) (more_text f xs i x (omega (arith, l)) e) ∙ sym (append_assoc (f y) (flat_map f (take i xs)) (f x))

split_text : {X : Type 0} (f : X → List ℕ) (xs : List X) (i : ℕ) (x : X) → i < length xs → x ≡ slice_index_or xs i x → flat_map f xs ≡ (flat_map f (take i xs) ++ f x) ++ flat_map f (drop (suc i) xs)
split_text f [] i x l e = absurd (omega (arith, l))
split_text f (y ∷ xs) zero x l e = ap (λ z. f z ++ flat_map f xs) (sym e)
split_text f (y ∷ xs) (suc i) x l e =
    ap (λ t. f y ++ t) (split_text f xs i x (omega (arith, l)) e) ∙ sym (append_assoc (f y) (flat_map f (take i xs) ++ f x) (flat_map f (drop (suc i) xs)))
    ∙ ap (λ t. t ++ flat_map f (drop (suc i) xs)) (sym (append_assoc (f y) (flat_map f (take i xs)) (f x)))

pub printed-more : {X : Type 0} (k : Bool) (a b c : List ℕ) (m n o : ℕ) (f : X → List ℕ) (xs : List X) (i : ℕ) (x : X) → i < length xs → x ≡ slice_index_or xs i x
    → IsPrinted k a b m n (flat_map f (take i xs)) (Ok tt) → IsPrinted k b c n o (f x) (Ok tt) → IsPrinted k a c m o (flat_map f (take (i + 1) xs)) (Ok tt)
printed-more k a b c m n o f xs i x l e p q =
    subst (λ t. IsPrinted k a c m o t (Ok tt)) (sym (ap (λ j. flat_map f (take j xs)) (let z : i + 1 ≡ suc i = omega arith in z) ∙ more_text f xs i x l e))
    (printed-then k a b c m n o (flat_map f (take i xs)) (f x) (Ok tt) p q)

pub printed-broken : {X : Type 0} (k : Bool) (a b c : List ℕ) (m n o : ℕ) (f : X → List ℕ) (xs : List X) (i : ℕ) (x : X) (r : PrintFault) → i < length xs → x ≡ slice_index_or xs i x
    → IsPrinted k a b m n (flat_map f (take i xs)) (Ok tt) → IsPrinted k b c n o (f x) (Err r) → IsPrinted k a c m o (flat_map f xs) (Err r)
printed-broken k a b c m n o f xs i x r l e p q =
    subst (λ t. IsPrinted k a c m o t (Err r)) (sym (split_text f xs i x l e))
    (printed-stopped k a c m o (flat_map f (take i xs) ++ f x) (flat_map f (drop (suc i) xs)) r (printed-then k a b c m n o (flat_map f (take i xs)) (f x) (Err r) p q))

more_points : (n m : ℕ) (xs : List (List ℤ)) (i : ℕ) (x : List ℤ) → m ≡ n + i → i < length xs → x ≡ slice_index_or xs i x → point_lines n (take (suc i) xs) ≡ point_lines n (take i xs) ++ point_line m x
more_points n m [] i x h l e = absurd (omega (arith, l))
more_points n m (y ∷ xs) zero x h l e = append-nil (point_line n y) ∙ (λ j. point_line ((let z : n ≡ m = omega (arith, h) in z) j) (sym e j))
more_points n m (y ∷ xs) (suc i) x h l e =
    ap (λ t. point_line n y ++ t) (more_points (n + 1) m xs i x (omega (arith, h)) (omega (arith, l)) e) ∙ sym (append_assoc (point_line n y) (point_lines (n + 1) (take i xs)) (point_line m x))

split_points : (n m : ℕ) (xs : List (List ℤ)) (i : ℕ) (x : List ℤ) → m ≡ n + i → i < length xs → x ≡ slice_index_or xs i x
    → point_lines n xs ≡ (point_lines n (take i xs) ++ point_line m x) ++ point_lines (m + 1) (drop (suc i) xs)
split_points n m [] i x h l e = absurd (omega (arith, l))
split_points n m (y ∷ xs) zero x h l e = λ j. point_line ((let z : n ≡ m = omega (arith, h) in z) j) (sym e j) ++ point_lines ((let z : n ≡ m = omega (arith, h) in z) j + 1) xs
split_points n m (y ∷ xs) (suc i) x h l e =
    ap (λ t. point_line n y ++ t) (split_points (n + 1) m xs i x (omega (arith, h)) (omega (arith, l)) e)
    ∙ sym (append_assoc (point_line n y) (point_lines (n + 1) (take i xs) ++ point_line m x) (point_lines (m + 1) (drop (suc i) xs)))
    ∙ ap (λ t. t ++ point_lines (m + 1) (drop (suc i) xs)) (sym (append_assoc (point_line n y) (point_lines (n + 1) (take i xs)) (point_line m x)))

pub points-more : (k : Bool) (a b c : List ℕ) (m n o : ℕ) (xs : List (List ℤ)) (i : ℕ) (x : List ℤ) → i < length xs → x ≡ slice_index_or xs i x
    → IsPrinted k a b m n (point_lines 0 (take i xs)) (Ok tt) → IsPrinted k b c n o (point_line i x) (Ok tt) → IsPrinted k a c m o (point_lines 0 (take (i + 1) xs)) (Ok tt)
points-more k a b c m n o xs i x l e p q =
    subst (λ t. IsPrinted k a c m o t (Ok tt)) (sym (ap (λ j. point_lines 0 (take j xs)) (let z : i + 1 ≡ suc i = omega arith in z) ∙ more_points 0 i xs i x (omega arith) l e))
    (printed-then k a b c m n o (point_lines 0 (take i xs)) (point_line i x) (Ok tt) p q)

pub points-broken : (k : Bool) (a b c : List ℕ) (m n o : ℕ) (xs : List (List ℤ)) (i : ℕ) (x : List ℤ) (r : PrintFault) → i < length xs → x ≡ slice_index_or xs i x
    → IsPrinted k a b m n (point_lines 0 (take i xs)) (Ok tt) → IsPrinted k b c n o (point_line i x) (Err r) → IsPrinted k a c m o (point_lines 0 xs) (Err r)
points-broken k a b c m n o xs i x r l e p q =
    subst (λ t. IsPrinted k a c m o t (Err r)) (sym (split_points 0 i xs i x (omega arith) l e))
    (printed-stopped k a c m o (point_lines 0 (take i xs) ++ point_line i x) (point_lines (i + 1) (drop (suc i) xs)) r (printed-then k a b c m n o (point_lines 0 (take i xs)) (point_line i x) (Err r) p q))

-- ---- an error that is handed on
pub handed_on : (r : Result (Unit {0}) PrintFault) (e : PrintFault) → IsErrAnd r (λ f. f ≡ e) → r ≡ Err e
handed_on (Ok u) e h = absurd h
handed_on (Err f) e h = ap Err h

pub prefix_of : (a b t : List ℕ) (r : Result (Unit {0}) PrintFault) → TakesText a b t r → OnErr r (AppendsPrefix a b t)
prefix_of a b t (Ok u) h = tt
prefix_of a b t (Err e) h = appends_prefix a b t h

-- ---- elements and numbers
pub element_is : (xs : List (List ℕ)) (i : ℕ) (x : List ℕ) → slice_get xs i ≡ Some x → x ≡ slice_index_or xs i x
element_is [] i x h = refl
element_is (y ∷ xs) zero x h = let e : y ≡ x = cc in sym e
element_is (y ∷ xs) (suc i) x h = element_is xs i x h

pub more_columns : (j : ℕ) → column_numbers (j + 1) ≡ column_numbers j ++ next_column j
more_columns j = ap column_numbers (let z : j + 1 ≡ suc j = omega arith in z)
