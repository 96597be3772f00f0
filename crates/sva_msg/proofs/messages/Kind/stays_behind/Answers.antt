use Rattle.std.proofs.Common.{rules}
use Rattle.sva_msg.proofs.messages.Kind.stays_behind.Goals as goal

pub returns-in-Marker : goal.returns-in-Marker
returns-in-Marker c = search rules

pub returns-in-ResetDone : goal.returns-in-ResetDone
returns-in-ResetDone c = search rules
