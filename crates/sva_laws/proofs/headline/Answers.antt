use Rattle.sva_laws.proofs.Claimed.{always_agrees}
use Rattle.sva_laws.proofs.headline.Goals as goal

pub returns : goal.returns
returns c = record { always = always_agrees }
