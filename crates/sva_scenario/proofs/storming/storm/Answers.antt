use Rattle.std.proofs.lemmas.Result.{IfOk-weaker}
use Rattle.sva_scenario.proofs.StormLemmas.{storm_frames}
use Rattle.sva_scenario.proofs.storming.storm.Goals as goal

pub returns-clause-frames : goal.returns-clause-frames
returns-clause-frames g c =
    IfOk-weaker c.play_all.result _ _ (λ audit h. storm_frames c.args.scenario.now.config c.args.scenario.now.steps c.args.turns audit h)
    c.play_all.ensures.audit
