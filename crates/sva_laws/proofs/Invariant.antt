-- What holds after every list of steps, family by family: of each endpoint with its unit, and of the mappings.
use Rattle.std.proofs.Common.{◌≡◌, ◌≢◌, ◌⊎◌, ℕ, ◌+◌, ◌<◌, ◌≤◌, true, arith}
use Rattle.std.specs.Prelude.{Some}
use Rattle.sva_model.specs.State.{Owed, Mappings, Endpoint, HostGroupState, World}
use Rattle.sva_model.specs.State.PasidRule.{PerSpace}
use Rattle.sva_model.specs.State.MappingState.{Unmade, Present, Gone}
use Rattle.sva_model.specs.State.HostGroupState.{InHand, InHandDiscarded}
use Rattle.sva_model.specs.State.Stage.{Unbound}
use Rattle.sva_model.specs.Words.{is_some}
use Rattle.sva_model.specs.States.{is_unreleased, answered}
use Rattle.sva_model.specs.Acts.{act_alone, sends, LocalAct}
use Rattle.sva_laws.proofs.Legal.{LegalLocalAct}
use Rattle.sva_laws.proofs.Resets
use Rattle.sva_laws.proofs.Bounds
use Rattle.sva_laws.proofs.Bindings
use Rattle.sva_laws.proofs.Labels
use Rattle.sva_laws.proofs.Requests
use Rattle.sva_laws.proofs.Orders
use Rattle.sva_laws.proofs.Owners
use Rattle.sva_laws.proofs.Safe
use Rattle.sva_laws.proofs.PageRequests
use Rattle.sva_laws.proofs.Groups
use Rattle.sva_laws.proofs.Shared.{Shared}

pub record PartInvariant (ms : Mappings) (endpoints g n e : ℕ) (p : Endpoint) : Type 0 where
  pub there : (b : ℕ) → p.stage b ≢ Unbound → e < endpoints
  pub near : (c : ℕ) → is_some (p.message c) ≡ true → e < endpoints
  pub resets : Resets.Resets n p
  pub bounds : Bounds.Bounds g p
  pub bindings : Bindings.Bindings p
  pub labels : Labels.Labels p
  pub requests : Requests.Requests p
  pub orders : Orders.Orders p
  pub owners : Owners.Owners ms p
  pub safe : Safe.Safe ms e p
  pub queued : PageRequests.Queued p
  pub lasts : PageRequests.Lasts p
  pub groups : Groups.Groups p

-- Mappings: not made yet; at the page of their space while they are present; a present one is the latest of its frame;
-- one that is gone and not the latest of its frame is answered for.
pub record Mapped (w : World) : Type 0 where
  pub unmade : (m : ℕ) → w.mappings.made ≤ m → w.mappings.state m ≡ Unmade
  pub made : (m : ℕ) → m < w.mappings.made → w.mappings.state m ≢ Unmade
  pub present_at : (m : ℕ) → w.mappings.state m ≡ Present → w.mappings.at (w.mappings.space m) (w.mappings.page m) ≡ Some m
  pub at_present : (s q m : ℕ) → w.mappings.at s q ≡ Some m → (w.mappings.state m ≡ Present) × (w.mappings.space m ≡ s) × (w.mappings.page m ≡ q)
      × (w.is_live s ≡ true)
  pub latest : (m : ℕ) → w.mappings.state m ≡ Present → w.mappings.latest (w.mappings.frame m) ≡ Some m
  pub named : (f m : ℕ) → w.mappings.latest f ≡ Some m → (w.mappings.frame m ≡ f) × (m < w.mappings.made)
  pub low : (m : ℕ) → m < w.mappings.made → w.mappings.frame m < w.config.frames
  pub passed : (m : ℕ) (owed : ℕ → Owed) (e : ℕ) → w.mappings.state m ≡ Gone owed → e < w.config.endpoints
      → (w.mappings.latest (w.mappings.frame m) ≡ Some m) ⊎ (answered (w.part e) (owed e) ≡ true)
  pub live : (s : ℕ) → w.is_live s ≡ true → s < w.spaces
  pub bound_live : (e b : ℕ) → is_unreleased ((w.part e).stage b) ≡ true → w.is_live ((w.part e).space b) ≡ true

-- Hands: a worker that holds a job has it in hand, or its reset discarded it.
abbrev pub IsHeldBy : HostGroupState → (worker : ℕ) → Type 0
IsHeldBy h x = (h ≡ InHand x) ⊎ (h ≡ InHandDiscarded x)

pub record Hands (w : World) : Type 0 where
  pub made : (x j : ℕ) → w.hand x ≡ Some j → j < w.jobs
  pub held : (x j : ℕ) → w.hand x ≡ Some j → IsHeldBy ((w.part (w.job j).endpoint).host_group (w.job j).group) x

pub record Invariant (w : World) : Type 0 where
  pub hands : Hands w
  pub mapped : Mapped w
  pub parts : (e : ℕ) → PartInvariant w.mappings w.config.endpoints w.bindings w.messages e (w.part e)
  pub shared : w.rule ≡ PerSpace → Shared w.part
  -- a binding is at its own endpoint alone
  pub one_endpoint : (e b : ℕ) → (w.part e).stage b ≢ Unbound → w.endpoint_of b ≡ e

-- what the mappings say to an endpoint's act
pub leads : (w : World) → Mapped w → Owners.Leads w.mappings
leads w ma s q m h = let a = ma.at_present s q m h in (a.1, a.2, made_of (ma.unmade m) a.0)
  where
    made_of : {m : ℕ} → (w.mappings.made ≤ m → w.mappings.state m ≡ Unmade) → w.mappings.state m ≡ Present → m < w.mappings.made
    made_of u h = grind (arith)

pub presents : (w : World) → Mapped w → (s q m : ℕ) → w.mappings.at s q ≡ Some m → w.mappings.state m ≡ Present
presents w ma s q m h = (ma.at_present s q m h).0

-- an act of an endpoint keeps what holds of it
pub act_alone_keeps : (ms : Mappings) (x g n e : ℕ) (p : Endpoint) (o : LocalAct) → e < x → LegalLocalAct ms g p o → Owners.Leads ms
    → ((s q m : ℕ) → ms.at s q ≡ Some m → ms.state m ≡ Present) → PartInvariant ms x g n e p → PartInvariant ms x g (n + sends o) e (act_alone p n o)
act_alone_keeps ms x g n e p o h l le pr i =
    record {
      there = λ b u. h;
      near = λ c u. h;
      resets = Resets.every ms g n p o l i.resets;
      bounds = Bounds.every ms g n p o l i.resets i.bounds;
      bindings = Bindings.every ms g n p o l i.resets i.bindings;
      labels = Labels.every ms g n p o l i.resets i.bounds i.labels;
      requests = Requests.every ms g n p o l i.resets i.bounds i.bindings i.requests;
      orders = Orders.every ms g n p o l i.resets i.bounds i.labels i.orders;
      owners = Owners.every ms g n p o l le i.resets i.bounds i.bindings i.labels i.requests i.orders i.owners;
      safe = Safe.every ms g n e p o l pr i.resets i.bounds i.bindings i.labels i.requests i.orders i.owners i.safe;
      queued = PageRequests.queued ms g n p o l i.resets i.bounds i.queued;
      lasts = PageRequests.lasts ms g n p o l i.resets i.bounds i.queued (Groups.has_job p i.groups) (Groups.response_whole p i.groups) i.lasts;
      groups = Groups.every ms g n p o l i.resets i.bounds i.bindings i.orders i.queued i.lasts i.groups;
    }
