-- A certificate in two parts.
use Rattle.std.specs.Prelude.{◌≡◌, List}
use Rattle.cert_rows.specs.declared.line.CertRow.{CertRow}
use Rattle.cert_rows.specs.declared.line.Why.{Why}
use Rattle.cert_rows.specs.declared.certificate.Cert.{Cert}
use Rattle.cert_rows.specs.declared.head.CertHead.{CertHead}
use Rattle.cert_rows.specs.Feeds.{head_of, with_lines}

-- the head of a certificate with its lines is the certificate
pub merges : (h : CertHead) (ls : List (CertRow × Why)) (c : Cert) → h ≡ head_of c → ls ≡ c.lines → with_lines h ls ≡ c
merges h ls c e f = λ k. with_lines (e k) (f k)
