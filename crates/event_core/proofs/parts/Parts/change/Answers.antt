use Rattle.event_core.proofs.Applying.{offer_made}
use Rattle.event_core.proofs.parts.Parts.change.Goals as goal

pub improve-requires-clause-better : goal.improve-requires-clause-better
improve-requires-clause-better c =
    offer_made c.args.self.now.state c.args.worker c.args.event.now c.in-Offer.point c.in-Point.point c.args.made c.in-Offer.is c.requires.legal c.requires.made c.in-Point.is
