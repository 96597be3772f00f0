use Rattle.sva_parts_by_labels.proofs.JobTableJobs.{job_table_is_seen}
use Rattle.sva_parts_by_labels.proofs.JobTablePermits.{filing_is_permitted}
use Rattle.sva_parts_by_labels.proofs.JobTableAnswers.{job_table_answers}
use Rattle.sva_parts_by_labels.proofs.JobTableFiling.{sound_is_kept}
use Rattle.sva_parts_by_labels.proofs.job_table_laws.Goals as goal

pub returns : goal.returns
returns c = record { seen = job_table_is_seen; permits = filing_is_permitted; answers = job_table_answers; sound = sound_is_kept }
