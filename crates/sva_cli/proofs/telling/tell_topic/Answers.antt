use Rattle.sva_cli.proofs.telling.tell_topic.Goals as goal

pub returns : goal.returns
returns g c = (c.help_on.result, c.put-told.result, c.put-told.ensures, c.ended.ensures)
