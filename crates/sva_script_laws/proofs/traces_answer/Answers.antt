use Rattle.sva_script_laws.proofs.Replaying.{traces_answer}
use Rattle.sva_script_laws.proofs.traces_answer.Goals as goal

pub returns : goal.returns
returns c = traces_answer
