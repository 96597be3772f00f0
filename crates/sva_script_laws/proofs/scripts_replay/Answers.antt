use Rattle.sva_script_laws.proofs.Replaying.{scripts_replay}
use Rattle.sva_script_laws.proofs.scripts_replay.Goals as goal

pub returns : goal.returns
returns c = scripts_replay
