-- Derived lines behind other lines.
use Rattle.std.specs.Prelude.{◌≡◌, List, [], ◌∷◌, ◌++◌, refl}
use Rattle.cert_rows.specs.declared.line.CertRow.{CertRow}
use Rattle.cert_rows.specs.declared.line.Why.{Why}
use Rattle.cert_rows.specs.Lines.{CertLine}
use Rattle.cert_rows.specs.Validity.{derived_line_of, with_derived, AllFollow}

pub with_derived-append : (ls : List CertLine) (ds es : List (CertRow × Why)) → with_derived ls (ds ++ es) ≡ with_derived (with_derived ls ds) es
with_derived-append ls [] es = refl
with_derived-append ls (d ∷ ds) es = with_derived-append (ls ++ derived_line_of ls d ∷ []) ds es

pub AllFollow-append : (ls : List CertLine) (ds es : List (CertRow × Why)) → AllFollow ls ds → AllFollow (with_derived ls ds) es → AllFollow ls (ds ++ es)
AllFollow-append ls [] es h k = k
AllFollow-append ls (d ∷ ds) es h k = (h.0, AllFollow-append (ls ++ derived_line_of ls d ∷ []) ds es h.1 k)
