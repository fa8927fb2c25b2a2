-- What a call that prints the lines of a feed one after another did so far.
use Rattle.std.specs.Prelude.{◌≡◌, ℕ, Bool, List, [], ◌∷◌, ◌++◌, Option, Some, Ok, Err, All}
use Rattle.std.specs.List.{flat_map}
use Rattle.std.proofs.Common.{sym, ap, ◌∙◌, subst, append_assoc}
use Rattle.std.proofs.lemmas.Grind.{flat_map-append}
use Rattle.std.proofs.lemmas.List.{append-nil}
use Rattle.std.proofs.lemmas.List.Elements.{All-nil, All-cons, All-append}
use Rattle.cert_rows.specs.declared.line.CertRow.{CertRow}
use Rattle.cert_rows.specs.declared.line.Why.{Why}
use Rattle.cert_rows.specs.Feeds.{Gives}
use Rattle.vipr_print.specs.declared.fault.PrintFault.{PrintFault}
use Rattle.vipr_print.specs.Spelling.{derived_line}
use Rattle.vipr_print.specs.Printed.{IsPrinted}
use Rattle.vipr_print.specs.Unique.{IsShortLine}
use Rattle.vipr_print.proofs.Sequence.{printed-then, printed-stopped}

-- some lines have come and were printed, and have short numbers; others are still to come
pub record IsFedSoFar (k : Bool) (a b : List ℕ) (m n : ℕ) (before after : List (CertRow × Why)) : Type 0 where
  pub done : List (CertRow × Why)
  pub parts : before ≡ done ++ after
  pub printed : IsPrinted k a b m n (flat_map derived_line done) (Ok tt)
  pub short : All IsShortLine done

-- a line that came stood first
pub came : (before after : List (CertRow × Why)) (o : Option (CertRow × Why)) (d : CertRow × Why) → Gives before after (Ok o) → o ≡ Some d → before ≡ d ∷ after
came before after o d h e = subst (λ (p : Option (CertRow × Why)). Gives before after (Ok p)) e h

-- the text of all, by those that came, the next one, and those behind it
all_text : (done rest before after : List (CertRow × Why)) (d : CertRow × Why) → before ≡ done ++ after → after ≡ d ∷ rest
    → flat_map derived_line before ≡ (flat_map derived_line done ++ derived_line d) ++ flat_map derived_line rest
all_text done rest before after d e f =
    ap (flat_map derived_line) (e ∙ ap (λ t. done ++ t) f) ∙ flat_map-append derived_line done (d ∷ rest)
    ∙ sym (append_assoc (flat_map derived_line done) (derived_line d) (flat_map derived_line rest))

module _ (k : Bool) (a b c : List ℕ) (m n o : ℕ) (before after : List (CertRow × Why)) (h : IsFedSoFar k a b m n before after) where
  -- one line more
  pub fed-more : (d : CertRow × Why) (rest : List (CertRow × Why)) → after ≡ d ∷ rest → IsShortLine d → IsPrinted k b c n o (derived_line d) (Ok tt) → IsFedSoFar k a c m o before rest
  fed-more d rest e s p = record {
    done = h.done ++ d ∷ [];
    parts = h.parts ∙ ap (λ t. h.done ++ t) e ∙ sym (append_assoc h.done (d ∷ []) rest);
    printed = subst (λ t. IsPrinted k a c m o t (Ok tt)) (ap (λ t. flat_map derived_line h.done ++ t) (sym (append-nil (derived_line d))) ∙ sym (flat_map-append derived_line h.done (d ∷ [])))
        (printed-then k a b c m n o (flat_map derived_line h.done) (derived_line d) (Ok tt) h.printed p);
    short = All-append IsShortLine h.done (d ∷ []) h.short (All-cons IsShortLine d [] s (All-nil IsShortLine));
  }

  -- one that could not be printed
  pub fed-broken : (d : CertRow × Why) (rest : List (CertRow × Why)) (r : PrintFault) → after ≡ d ∷ rest → IsPrinted k b c n o (derived_line d) (Err r)
      → IsPrinted k a c m o (flat_map derived_line before) (Err r)
  fed-broken d rest r e p =
      subst (λ t. IsPrinted k a c m o t (Err r)) (sym (all_text h.done rest before after d h.parts e))
      (printed-stopped k a c m o (flat_map derived_line h.done ++ derived_line d) (flat_map derived_line rest) r
      (printed-then k a b c m n o (flat_map derived_line h.done) (derived_line d) (Err r) h.printed p))
