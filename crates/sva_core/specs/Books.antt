-- How many tokens there are, and how a call changes what it has in hand of them.
use Rattle.std.specs.Prelude.{◌≡◌, ◌≤◌, ◌<◌, ℕ, ◌+◌, ◌-◌, ◌^◌, Option, Some, None, length}
use Rattle.sva_step.specs.declared.steps.Step.{Step}
use Rattle.sva_step.specs.declared.steps.Step.TheVariants as step
use Rattle.sva_model.specs.Steps.{Reply}
use Rattle.sva_refinement.specs.Tallies.{binds, releases, begins, ends}
use Rattle.sva_core.specs.Journal.{History, bindings_of, uses_of}

-- how many parts the ledger of one kind of token has: more than there can be tokens, since no journal is as long
abbrev pub all_parts : ℕ
all_parts = 2 ^ 64 - 1

-- what is counted of a world: its calls, its unreleased bindings and its taken use slots
pub record Totals : Type 0 where
  pub calls : ℕ
  pub bindings : ℕ
  pub uses : ℕ

-- what is counted of a world that was just opened
abbrev pub no_totals : Totals
no_totals = record { calls = 0; bindings = 0; uses = 0 }

-- what is counted of the journal's world
abbrev pub totals_of : History → Totals
totals_of history = record { calls = length history.entries; bindings = bindings_of history; uses = uses_of history }

-- for how many bindings and uses there is a token in hand
pub record TokenCounts : Type 0 where
  pub bindings : ℕ
  pub uses : ℕ

-- no token: what a call has in hand at first that hands in none
abbrev pub no_token : TokenCounts
no_token = record { bindings = 0; uses = 0 }

-- what a lease holds, and what a leaving does: the token of one binding
abbrev pub one_binding : TokenCounts
one_binding = record { bindings = 1; uses = 0 }

-- what a ticket holds: the token of one use
abbrev pub one_use : TokenCounts
one_use = record { bindings = 0; uses = 1 }

-- how many tokens there are in a place that has room for one
abbrev pub count_of : {A : Type 0} → Option A → ℕ
count_of None = 0
count_of (Some item) = 1

-- from so many tokens to so many: to one more, which isn't in hand yet, to one less, which is, or to as many
pub record MayReach (before after held : ℕ) : Type 0 where
  pub up : after ≤ before + 1
  pub down : before ≤ after + 1
  pub made : before < after → held ≡ 0
  pub spent : after < before → held ≡ 1

-- what has to be in hand for a step: a binding for an advance, a use for the end of one, and none of what the step may make
abbrev pub IsHandedIn : Step → TokenCounts → Type 0
IsHandedIn (step.Bind endpoint space) holding = holding.bindings ≡ 0
IsHandedIn (step.Advance binding) holding = holding.bindings ≡ 1
IsHandedIn (step.BeginUse endpoint pasid page write) holding = holding.uses ≡ 0
IsHandedIn (step.EndUse endpoint slot) holding = holding.uses ≡ 1
IsHandedIn _ holding = Unit {0}

-- what is in hand behind a reply: what was, with what it makes, and without what it spends
pub record IsHandedOut (before after : TokenCounts) (reply : Reply) : Type 0 where
  pub bindings : after.bindings + releases reply ≡ before.bindings + binds reply
  pub uses : after.uses + ends reply ≡ before.uses + begins reply
