use Rattle.sva_itags.proofs.counts.Count.new.Goals as goal

pub returns : goal.returns
returns c = cc
