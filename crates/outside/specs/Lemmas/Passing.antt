-- How a run of a disk's calls goes on, for the crates above.
use Rattle.std.specs.Prelude.{◌≡◌, ℕ, List, [], ◌∷◌, ◌++◌, refl}
use Rattle.std.proofs.Common.{inl, inr, ⊎_elim, sym, ◌∙◌, ap, subst, append_assoc}
use Rattle.outside.specs.Images.{IsImage, Leaves, LeavesOnly, OneMomentPasses, Fails, NoMomentPasses}
use Rattle.outside.specs.declared.moment.Moment.{Moment}

pub Leaves-append : (P : List ℕ → Type 0) (ms ns : List Moment) → Leaves P ms → Leaves P ns → Leaves P (ms ++ ns)
Leaves-append P [] ns all more = more
Leaves-append P (x ∷ ms) ns all more = (all.0, Leaves-append P ms ns all.1 more)

pub Leaves-weaker : (P Q : List ℕ → Type 0) (ms : List Moment) → ((c : List ℕ) → P c → Q c) → Leaves P ms → Leaves Q ms
Leaves-weaker P Q [] f all = tt
Leaves-weaker P Q (x ∷ ms) f all = (λ c is. f c (all.0 c is), Leaves-weaker P Q ms f all.1)

pub weaker : (past : List Moment) (now : Moment) (past' : List Moment) (now' : Moment) (P Q : List ℕ → Type 0) → ((c : List ℕ) → P c → Q c)
    → LeavesOnly past now past' now' P → LeavesOnly past now past' now' Q
weaker past now past' now' P Q f run = record { moments = run.moments; passed = run.passed; each = Leaves-weaker P Q (now ∷ run.moments) f run.each }

-- no call was made yet
pub started : (past : List Moment) (now : Moment) (P : List ℕ → Type 0) → ((c : List ℕ) → IsImage now c → P c) → LeavesOnly past now past now P
started past now P here = record { moments = []; passed = refl; each = (here, tt) }

-- the next run begins where the first ended
pub joined : (past mid past' : List Moment) (now between now' : Moment) (P : List ℕ → Type 0) → LeavesOnly past now mid between P → LeavesOnly mid between past' now' P → LeavesOnly past now past' now' P
joined past mid past' now between now' P first next = record {
  moments = first.moments ++ next.moments;
  passed = next.passed ∙ sym (append_assoc mid (between ∷ []) next.moments) ∙ ap (λ (l : List Moment). l ++ next.moments) first.passed ∙ append_assoc past (now ∷ first.moments) next.moments;
  each = Leaves-append P (now ∷ first.moments) next.moments first.each next.each.1;
}

-- a moment went by
pub grown : (past mid past' : List Moment) (now between now' : Moment) (P : List ℕ → Type 0) → LeavesOnly past now mid between P → past' ≡ mid ++ between ∷ []
    → ((c : List ℕ) → IsImage now' c → P c) → LeavesOnly past now past' now' P
grown past mid past' now between now' P so_far passed here = record {
  moments = so_far.moments ++ now' ∷ [];
  passed = ap (λ (l : List Moment). l ++ now' ∷ []) (passed ∙ so_far.passed) ∙ append_assoc past (now ∷ so_far.moments) (now' ∷ []);
  each = Leaves-append P (now ∷ so_far.moments) (now' ∷ []) so_far.each (here, tt);
}

-- a call succeeded that let a moment go by
pub goes_on : (past mid past' : List Moment) (now between now' next : Moment) (P : List ℕ → Type 0) → LeavesOnly past now mid between P → OneMomentPasses mid between past' now' next
    → ((c : List ℕ) → IsImage next c → P c) → LeavesOnly past now past' now' P
goes_on past mid past' now between now' next P so_far goes here =
    grown past mid past' now between now' P so_far goes.passed (λ c is. here c (subst (λ m. IsImage m c) goes.came is))

-- a call failed
pub fails_on : (past mid past' : List Moment) (now between now' done : Moment) (P : List ℕ → Type 0) → LeavesOnly past now mid between P → Fails mid between past' now' done
    → ((c : List ℕ) → IsImage between c → P c) → ((c : List ℕ) → IsImage done c → P c) → LeavesOnly past now past' now' P
fails_on past mid past' now between now' done P so_far fails was here = elim fails.passed [
  | inl same ↦ subst (λ m. LeavesOnly past now past' m P) (sym same.1) (subst (λ l. LeavesOnly past now l between P) (sym same.0) so_far)
  | inr grew ↦ grown past mid past' now between now' P so_far grew (λ c is. ⊎_elim (was c) (here c) (fails.images c is))
]

-- a call was made that lets no moment go by
pub stays_on : (past mid past' : List Moment) (now between now' : Moment) (P : List ℕ → Type 0) → LeavesOnly past now mid between P → NoMomentPasses mid between past' now' → LeavesOnly past now past' now' P
stays_on past mid past' now between now' P so_far stands = subst (λ m. LeavesOnly past now past' m P) (sym stands.same) (subst (λ l. LeavesOnly past now l between P) (sym stands.none) so_far)
