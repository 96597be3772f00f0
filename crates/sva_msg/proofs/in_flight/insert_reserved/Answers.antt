use Rattle.std.proofs.Common.{nat_eq, ◌∙◌}
use Rattle.indexmap.proofs.CallerLemmas.{insert_entry-new}
use Rattle.sva_msg.proofs.in_flight.insert_reserved.Goals as goal

pub returns-clause-entries : goal.returns-clause-entries
returns-clause-entries c =
    c.in-Ok-None.ensures.entries ∙ insert_entry-new nat_eq c.args.messages.now c.args.number c.args.message.now c.requires.new
