-- Of runs that are read for what a host keeps: their answers too, and their counts.
use Rattle.std.specs.Prelude.{[], ◌∷◌, ◌++◌}
use Rattle.sva_step.specs.declared.answers.Answer.TheVariants as answer
use Rattle.sva_step.specs.declared.steps.Step.TheVariants as step
use Rattle.sva_model.specs.Runs.{says, IsRun, config}
use Rattle.sva_model.specs.RunsOfWire.{invalidations_under_way, groups_under_way, two_targets, drained, ranges_queued, jobs_queued}

-- what a host keeps of these is in RunsOfWire
abbrev pub AnswersOfInvalidationsUnderWay : Type 0
AnswersOfInvalidationsUnderWay = IsRun (config 1 3 1 100) invalidations_under_way 1 0 2

abbrev pub AnswersOfGroupsUnderWay : Type 0
AnswersOfGroupsUnderWay = IsRun (config 2 2 2 0) groups_under_way 2 0 0

abbrev pub AnswersOfTwoTargets : Type 0
AnswersOfTwoTargets = IsRun (config 2 2 1 0) two_targets 1 0 1

abbrev pub AnswersOfDrained : Type 0
AnswersOfDrained = IsRun (config 1 1 1 7) (drained ++ says (step.Advance 7) answer.Invalidating ∷ []) 1 0 0

abbrev pub AnswersOfRangesQueued : Type 0
AnswersOfRangesQueued = IsRun (config 1 4 1 10) ranges_queued 0 1 3

abbrev pub AnswersOfJobsQueued : Type 0
AnswersOfJobsQueued = IsRun (config 1 3 2 20) jobs_queued 2 1 0
