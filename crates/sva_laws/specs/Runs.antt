-- Laws of whole runs: of journals, and of the two rules of PASIDs. (This project's own.)
use Rattle.std.specs.Prelude.{◌≡◌, ◌↔◌, List, [], ◌∷◌, ◌++◌}
use Rattle.sva_step.specs.declared.limits.Config.{Config}
use Rattle.sva_step.specs.declared.steps.Step.{Step}
use Rattle.sva_model.specs.State.{PasidRule, opened}
use Rattle.sva_model.specs.State.PasidRule.{PerEndpoint, PerSpace}
use Rattle.sva_model.specs.Steps.{reply, replies}
use Rattle.sva_model.specs.Claims.{Fits}
use Rattle.sva_model.specs.Journal.{Entry, IsLegal, world_of}

-- what a legal journal begins with is legal
abbrev pub AlwaysLegalInFront : Type 0
AlwaysLegalInFront =
    (rule : PasidRule) (config : Config) (journal rest : List Entry)
    → IsLegal rule config (journal ++ rest)
    → IsLegal rule config journal

-- a legal journal with one entry more is legal exactly where the entry says what its step answers at the journal's world
abbrev pub AlwaysLegalByAnswer : Type 0
AlwaysLegalByAnswer =
    (rule : PasidRule) (config : Config) (journal : List Entry) (entry : Entry)
    → IsLegal rule config journal
    → IsLegal rule config (journal ++ entry ∷ []) ↔ (entry.reply ≡ reply (world_of rule config journal) entry.step)

-- for one endpoint both rules of PASIDs give the same answers
abbrev pub SameForOneEndpoint : Type 0
SameForOneEndpoint =
    (config : Config) (steps : List Step)
    → Fits config
    → config.endpoints ≡ 1
    → replies (opened PerEndpoint config) steps ≡ replies (opened PerSpace config) steps
