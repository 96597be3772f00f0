-- Of runs that are read for what a host keeps, for what was sent or for what was ordered: their answers too, and their counts.
use Rattle.std.specs.Prelude.{◌++◌}
use Rattle.sva_model.specs.Runs.{IsRun, config}
use Rattle.sva_refinement.specs.RunsOfNames.{cookies_by_unit, no_translation}
use Rattle.sva_refinement.specs.RunsOfWhatStays.{unmapped_while_invalidating, one_of_two_answered, use_behind_an_invalidation, cached_by_pasid}
use Rattle.sva_refinement.specs.RunsOfWhatStays.{group_filed_in_part, second_group_of_an_index, its_response}

-- what a host keeps of these is in RunsOfWhatStays
abbrev pub AnswersOfUnmappedWhileInvalidating : Type 0
AnswersOfUnmappedWhileInvalidating = IsRun (config 1 2 1 0) unmapped_while_invalidating 0 0 2

abbrev pub AnswersOfOneOfTwoAnswered : Type 0
AnswersOfOneOfTwoAnswered = IsRun (config 2 1 1 0) one_of_two_answered 0 0 1

abbrev pub AnswersOfUseBehindAnInvalidation : Type 0
AnswersOfUseBehindAnInvalidation = IsRun (config 1 2 1 0) use_behind_an_invalidation 0 1 1

abbrev pub AnswersOfCachedByPasid : Type 0
AnswersOfCachedByPasid = IsRun (config 1 2 1 0) cached_by_pasid 0 2 0

abbrev pub AnswersOfGroupFiledInPart : Type 0
AnswersOfGroupFiledInPart = IsRun (config 1 1 1 0) group_filed_in_part 1 0 0

abbrev pub AnswersOfSecondGroupOfAnIndex : Type 0
AnswersOfSecondGroupOfAnIndex = IsRun (config 1 1 1 0) (second_group_of_an_index ++ its_response) 1 0 0

-- what was ordered or sent in these is in RunsOfNames
abbrev pub AnswersOfCookiesByUnit : Type 0
AnswersOfCookiesByUnit = IsRun (config 3 3 1 0) cookies_by_unit 0 0 3

abbrev pub AnswersOfNoTranslation : Type 0
AnswersOfNoTranslation = IsRun (config 1 1 1 0) no_translation 1 0 0
