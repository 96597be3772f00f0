use Rattle.sva_queue.proofs.units.Unit.new.Goals as goal

pub returns : goal.returns
returns c = cc
