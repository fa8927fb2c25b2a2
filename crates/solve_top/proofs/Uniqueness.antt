-- The text of a merged certificate is that of no other one.
use Rattle.std.specs.Prelude.{◌≡◌, ◌<◌, ◌&&◌, ℕ, true, nat_le, List, [], ◌∷◌, Option, All}
use Rattle.std.specs.List.{list_all}
use Rattle.std.proofs.Common.{arith, sym, subst}
use Rattle.std.proofs.lemmas.Bool.{and_parts}
use Rattle.std.proofs.lemmas.List.Elements.{All-nil, All-cons}
use Rattle.problem.specs.Problem.{Problem}
use Rattle.cert_rows.specs.declared.certificate.Cert.{Cert}
use Rattle.cert_rows.specs.Validity.{IsValid}
use Rattle.event_core.specs.declared.entry.Entry.{Entry}
use Rattle.event_core.specs.Histories.{state_of}
use Rattle.cert_merge.specs.Lemmas.Finished.{of_problem}
use Rattle.cert_merge.specs.Merged.{merged}
use Rattle.mps_reader.specs.Lemmas.FieldNames.{names_are_visible}
use Rattle.mps_reader.specs.VisibleNames.{is_visible}
use Rattle.mps_reader.specs.Reading.{Reads}
use Rattle.vipr_print.specs.Unique.{IsWord, IsSpellable, HasShortNumbers, SpellsOnly, TextsSpellOneCertificate, ValidPointsAreWhole}
use Rattle.solve_top.proofs.Labels.{part_labelled, lines_labelled}

-- ---- names
above_blank : (b : ℕ) → nat_le 33 b ≡ true → 32 < b
above_blank b h = grind arith

visible_word : (name : List ℕ) → is_visible name ≡ true → IsWord name
visible_word [] h = All-nil (λ b. 32 < b)
visible_word (b ∷ bs) h =
    let a = and_parts (nat_le 33 b && nat_le b 126) (is_visible bs) h in
    All-cons (λ b. 32 < b) b bs (above_blank b (and_parts (nat_le 33 b) (nat_le b 126) a.0).0) (visible_word bs a.1)

visible_words : (names : List (List ℕ)) → list_all is_visible names ≡ true → All IsWord names
visible_words [] h = All-nil IsWord
visible_words (name ∷ names) h =
    let a = and_parts (is_visible name) (list_all is_visible names) h in All-cons IsWord name names (visible_word name a.0) (visible_words names a.1)

pub names_are_words : (text : List ℕ) (upper : Option ℕ) (p : Problem) → Reads text upper p → All IsWord p.names
names_are_words text upper p reads = visible_words p.names (names_are_visible text upper p reads)

-- ---- the certificate
-- the names and the rows are those of the problem at the end, which is the one at the beginning
merged_named : (p : Problem) (es : List Entry) → All IsWord p.names → All IsWord (merged p es).part.names
merged_named p es h = subst (λ (q : Problem). All IsWord q.names) (sym (of_problem p es)) h

spellable : (p : Problem) (es : List Entry) (c : Cert) → c ≡ merged p es → IsValid p c → ValidPointsAreWhole p → HasShortNumbers c → All IsWord p.names → IsSpellable c
spellable p es c e v whole short names = record {
  names = subst (λ (d : Cert). All IsWord d.part.names) (sym e) (merged_named p es names);
  labels = subst (λ (d : Cert). All (λ r. IsWord r.label) d.part.rows) (sym e) (part_labelled (state_of p es).problem);
  line_labels = subst (λ (d : Cert). All (λ l. IsWord l.0.label) d.lines) (sym e) (lines_labelled p es);
  points = whole c v;
  numbers = short;
}

pub spells_only : (p : Problem) (es : List Entry) (c : Cert) → c ≡ merged p es → IsValid p c → ValidPointsAreWhole p → HasShortNumbers c → TextsSpellOneCertificate → All IsWord p.names → SpellsOnly c
spells_only p es c e v whole short one names =
    let told = spellable p es c e v whole short names in
    record { spellable = told; only = λ d h same. one d c h told same }
