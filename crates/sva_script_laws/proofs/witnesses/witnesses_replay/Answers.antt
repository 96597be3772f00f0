use Rattle.sva_script_laws.proofs.RacesReplaying.{witnesses_replay}
use Rattle.sva_script_laws.proofs.witnesses.witnesses_replay.Goals as goal

pub returns : goal.returns
returns c = witnesses_replay
