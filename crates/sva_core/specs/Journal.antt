-- The journal that is kept beside the world, as the definitions have it.
use Rattle.std.specs.Prelude.{◌≡◌, ℕ, ◌+◌, List, [], ◌∷◌, ◌++◌, map}
use Rattle.sva_frames.specs.declared.pool.Counts.{Counts as FrameCounts}
use Rattle.sva_step.specs.declared.limits.Config.{Config}
use Rattle.sva_step.specs.declared.steps.Step.{Step}
use Rattle.sva_model.specs.State.PasidRule.{PerSpace}
use Rattle.sva_model.specs.State.{World}
use Rattle.sva_model.specs.Steps.{Reply, reply, counts}
use Rattle.sva_model.specs.Wire.{wire}
use Rattle.sva_refinement.specs.Tallies.{unreleased, slots_taken, binds, releases, begins, ends}
use Rattle.sva_model.specs.Journal.{Entry as DefinedEntry, IsLegal as IsLegalJournal, world_of as world_of_journal}
use Rattle.sva_core.specs.declared.journal.Entry.{Entry}

-- a config, and what was asked and answered since a world of it was opened
pub record History : Type 0 where
  pub config : Config
  pub entries : List Entry

-- the entry of one call: which port asked, for what step, and what was answered
abbrev pub entry_of : (port : ℕ) → Step → Reply → Entry
entry_of port step answer = record { port = port; step = step; answer = answer }

-- the entry as the definitions have it, in which the answer is called a reply
abbrev pub as_defined : Entry → DefinedEntry
as_defined entry = record { port = entry.port; step = entry.step; reply = entry.answer }

-- legal: the config is within its limits, and each answer is the one of the definitions at the world that the entries before it lead to
abbrev pub IsLegal : History → Type 0
IsLegal history = IsLegalJournal PerSpace history.config (map as_defined history.entries)

-- the world that the entries lead to
abbrev pub world_of : History → World
world_of history = world_of_journal PerSpace history.config (map as_defined history.entries)

-- what the definitions answer next
abbrev pub answer_of : History → Step → Reply
answer_of history step = reply (world_of history) step

-- one entry more
abbrev pub with_entry : History → Entry → History
with_entry history entry = record history { entries = history.entries ++ entry ∷ [] }

-- nothing was asked yet
abbrev pub empty_of : Config → History
empty_of config = record { config = config; entries = [] }

-- how many bindings are unreleased, and how many use slots are taken, at the journal's world
abbrev pub bindings_of : History → ℕ
bindings_of history = unreleased (wire (world_of history))

-- the use slots that are taken: a dead use has its slot still, and counts
abbrev pub uses_of : History → ℕ
uses_of history = slots_taken (wire (world_of history))

-- both numbers change as an answer says
pub record CountsFollow (before after : History) (reply : Reply) : Type 0 where
  pub bindings : bindings_of after + releases reply ≡ bindings_of before + binds reply
  pub uses : uses_of after + ends reply ≡ uses_of before + begins reply

-- the counts of frames at the journal's world
abbrev pub CountsOf : History → FrameCounts → Type 0
CountsOf history found =
    (found.free ≡ (counts (world_of history)).free)
    × (found.mapped ≡ (counts (world_of history)).mapped)
    × (found.withheld ≡ (counts (world_of history)).withheld)
