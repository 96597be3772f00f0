use Rattle.sva_prq.proofs.job_table.JobTable.new.Goals as goal

pub returns : goal.returns
returns c = cc
