-- A use that a reset ended has its slot, dead, until it is told of its end.
use Rattle.std.proofs.Common.{◌≡◌, ◌≢◌, ℕ, [], ◌∷◌, true, false, refl, ap, sym, ◌∙◌, get_or-set_other}
use Rattle.std.proofs.Math.ListN.{get_or-map}
use Rattle.std.proofs.lemmas.Bool.{eqb-false}
use Rattle.sva_msg.specs.declared.messages.Kind.{Kind}
use Rattle.sva_msg.specs.declared.messages.Kind.TheVariants.{Reset}
use Rattle.sva_step.specs.declared.refusals.Refusal.TheVariants.{NoSuchUse}
use Rattle.sva_endpoint.specs.declared.use_slots.UseSlot.{UseSlot}
use Rattle.sva_endpoint.specs.declared.use_slots.UseSlot.TheVariants.{Free, Running, Dead}
use Rattle.sva_endpoint.specs.UseSlots.{slot_at, is_free, cut_off}
use Rattle.sva_endpoint.specs.Tables.{Tables}
use Rattle.sva_endpoint.specs.Steps.{lowest_slot, refusals_of_use, end_of}
use Rattle.sva_model.specs.Refusals.{unless_refused}
use Rattle.sva_endpoint.specs.Deliveries.{after_receive}
use Rattle.sva_endpoint.specs.Calls.{Call, BeginUse, EndUse, Receive, is_permitted, after}
use Rattle.sva_endpoint.specs.Laws.{is_end_of_use, DeadUsesStay, ResetsEndUses}
use Rattle.sva_endpoint.proofs.CallFacts.{are_clear, lowest, lasts}
use Rattle.sva_endpoint.proofs.TagLaws.{clash}

module _ (slot : ℕ) where
  abbrev IsDead : Tables → Type 0
  IsDead s = slot_at s.uses slot ≡ Dead

  received : (s : Tables) (kind : Kind) → IsDead s → IsDead (after_receive s kind)
  received s Reset dead = get_or-map cut_off s.uses slot Free ∙ ap cut_off dead
  received s _ dead = dead

  stepped : (s : Tables) (call : Call) → is_permitted s call ≡ true → is_end_of_use slot call ≡ false → IsDead s → IsDead (after s call)
  stepped s (BeginUse pasid page write) may goes dead =
      let clear = are_clear (refusals_of_use s pasid page write) _ may in
      let free = lowest is_free s.uses Free clear.1.1.1.1.0 in
      let apart : slot ≢ lowest_slot s =
      λ same. clash (is_free (slot_at s.uses slot)) (ap (λ k. is_free (slot_at s.uses k)) same ∙ free.1) (ap is_free dead) in
      get_or-set_other s.uses (lowest_slot s) slot _ Free apart ∙ dead
  stepped s (EndUse other) may goes dead =
      let apart : slot ≢ other = λ same. eqb-false other slot goes (sym same) in
      get_or-set_other s.uses other slot Free Free apart ∙ dead
  stepped s (Receive kind) may goes dead = received s kind dead
  stepped s _ may goes dead = dead

pub dead_uses_stay : DeadUsesStay
dead_uses_stay s slot calls permitted none dead = lasts (λ s. slot_at s.uses slot ≡ Dead) (is_end_of_use slot) (stepped slot) s calls permitted none dead

cut : (place : UseSlot) → is_free place ≡ false → cut_off place ≡ Dead
cut Free taken = absurd (cc)
cut (Running running) taken = refl
cut Dead taken = refl

pub resets_end_uses : ResetsEndUses
resets_end_uses s slot calls taken permitted none =
    let start : slot_at (after s (Receive Reset)).uses slot ≡ Dead = get_or-map cut_off s.uses slot Free ∙ cut (slot_at s.uses slot) taken in
    let end = dead_uses_stay (after s (Receive Reset)) slot calls permitted none start in
    (end, ap (λ place. unless_refused ((is_free place, NoSuchUse) ∷ []) (end_of place)) end)
