use Rattle.vipr_print.proofs.Sections.{one_certificate, no_prefix}
use Rattle.vipr_print.proofs.laws.texts_spell_one_certificate.Goals as goal

pub returns : goal.returns
returns c = record { one = one_certificate; no_prefix = no_prefix }
