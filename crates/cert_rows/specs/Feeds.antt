-- Certificates in two parts: a head, and derived lines that come one after another.
use Rattle.std.specs.Prelude.{◌≡◌, List, [], ◌∷◌, length, Option, Some, None, Result, Ok, Err}
use Rattle.std.specs.declared.alloc.AllocError.{AllocError}
use Rattle.cert_rows.specs.declared.line.CertRow.{CertRow}
use Rattle.cert_rows.specs.declared.line.Why.{Why}
use Rattle.cert_rows.specs.declared.certificate.Cert.{Cert}
use Rattle.cert_rows.specs.declared.head.CertHead.{CertHead}

-- the head of a certificate: what stands before its derived lines, and how many there are
abbrev pub head_of : Cert → CertHead
head_of c = record { part = c.part; claim = c.claim; points = c.points; lines = length c.lines }

-- the certificate of a head with these derived lines
abbrev pub with_lines : CertHead → List (CertRow × Why) → Cert
with_lines h ls = record { part = h.part; claim = h.claim; points = h.points; lines = ls }

-- the first line comes, and the others are still to come; none comes behind the last one; after want of memory all are still to come
abbrev pub Gives : List (CertRow × Why) → List (CertRow × Why) → Result (Option (CertRow × Why)) AllocError → Type 0
Gives before after (Ok (Some l)) = before ≡ l ∷ after
Gives before after (Ok None) = (before ≡ []) × (after ≡ [])
Gives before after (Err e) = after ≡ before
