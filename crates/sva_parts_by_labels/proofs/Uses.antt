-- Uses of cached translations, seen; and translations that are let go.
use Rattle.std.proofs.Common.{◌≡◌, refl, ap, sym, ◌∙◌, ℕ, ◌^◌, Bool, false}
use Rattle.std.specs.Prelude.{◌&&◌, not, is_none, Option, Some, None, option_map, [], ◌∷◌, unwrap_or}
use Rattle.std.specs.FinMap as finite
use Rattle.std.proofs.lemmas.List.{map-set}
use Rattle.sva_step.specs.declared.refusals.Refusal.TheVariants as refusal
use Rattle.sva_labels.specs.Finding.{cached, use_at}
use Rattle.sva_labels.specs.Causes.{is_read_only}
use Rattle.sva_labels.specs.Moves.{unnoted}
use Rattle.sva_labels.specs.Outcomes.{end_answer}
use Rattle.sva_endpoint.specs.declared.cached.Translation.{Translation}
use Rattle.sva_endpoint.specs.declared.use_slots.UseSlot.{UseSlot}
use Rattle.sva_endpoint.specs.declared.use_slots.UseSlot.TheVariants.{Free, Running, Dead}
use Rattle.sva_endpoint.specs.declared.taken_table.Taken.{Taken}
use Rattle.sva_endpoint.specs.UseSlots.{is_free, slot_at}
use Rattle.sva_endpoint.specs.Taken.{without_note}
use Rattle.sva_endpoint.specs.Tables.{Tables}
use Rattle.sva_endpoint.specs.Steps.{lowest_slot, translation_at, end_of}
use Rattle.sva_endpoint.specs.Laws.{IsSound}
use Rattle.sva_parts_by_labels.specs.Device.{slot_seen, taken_seen, device_seen}
use Rattle.sva_parts_by_labels.specs.DeviceLaws.{UseIsSeen, EndIsSeen, EvictIsSeen}
use Rattle.sva_parts_by_labels.proofs.Tables.{lowest_place, place_there, seen_at, seen_each}
use Rattle.sva_parts_by_labels.proofs.Pasids.{started_seen, beyond}
use Rattle.sva_parts_by_labels.proofs.Cached.{found_seen, found_is_seen, removed_is_seen}

free_seen : (slot : UseSlot) → is_none (slot_seen slot) ≡ is_free slot
free_seen Free = refl
free_seen (Running u) = refl
free_seen Dead = refl

-- what a search gives, and what it tells

none_seen : (t q : ℕ) (o : Option Translation) → is_none o ≡ is_none (found_seen t q o)
none_seen t q None = refl
none_seen t q (Some v) = refl

read_only_seen : (t q : ℕ) (o : Option Translation) → not (unwrap_or o (record { frame = 0; write = false })).write ≡ is_read_only (found_seen t q o)
read_only_seen t q None = refl
read_only_seen t q (Some v) = refl

there_seen : (t q : ℕ) (o : Option Translation) → is_none (found_seen t q o) ≡ false
    → found_seen t q o ≡ Some (record {
      pasid = t;
      page = q;
      frame = (unwrap_or o (record { frame = 0; write = false })).frame;
      write =
          (unwrap_or o (record { frame = 0; write = false })).write;
    })
there_seen t q None h = absurd (cc (h))
there_seen t q (Some v) h = refl

pub held_seen : (s : Tables) (t q : ℕ) → is_none (finite.get s.cache (t, q)) ≡ is_none (cached (device_seen s) t q)
held_seen s t q = none_seen t q (finite.get s.cache (t, q)) ∙ ap is_none (sym (found_is_seen s.cache t q))

pub use_is_seen : (s : Tables) (t q : ℕ) (x : Bool) → IsSound s → UseIsSeen s t q x
use_is_seen s t q x h =
    let lowest = lowest_place slot_seen is_free free_seen s.uses in
    let page = beyond (2 ^ 36) q in
    let started = sym (started_seen s t h) in
    let held = held_seen s t q in
    let read_only = read_only_seen t q (finite.get s.cache (t, q)) ∙ ap is_read_only (sym (found_is_seen s.cache t q)) in
    let free = sym (ap is_none lowest) in
    record {
      refusals =
          λ i.
          (page i, refusal.PageRange)
          ∷ (not (started i), refusal.NotStarted)
          ∷ (held i, refusal.NotHeld)
          ∷ (x && read_only i, refusal.ReadOnly)
          ∷ (free i, refusal.NoUseSlot)
          ∷ [];
      slot = λ there. lowest ∙ place_there is_free s.uses (ap is_none (sym lowest) ∙ there);
      found = λ there. found_is_seen s.cache t q ∙ there_seen t q (finite.get s.cache (t, q)) (ap is_none (sym (found_is_seen s.cache t q)) ∙ there);
      after = λ i.
          record (device_seen s) {
            slots =
                map-set slot_seen s.uses (lowest_slot s)
                (Running (record { pasid = t; page = q; frame = (translation_at s t q).frame; write = (translation_at s t q).write })) i;
          };
    }

-- the end of a use

no_use_seen : (slot : UseSlot) → is_free slot ≡ is_none (slot_seen slot)
no_use_seen slot = sym (free_seen slot)

said_seen : (slot : UseSlot) → is_none (slot_seen slot) ≡ false → end_of slot ≡ end_answer (slot_seen slot)
said_seen Free h = absurd (cc (h))
said_seen (Running u) h = refl
said_seen Dead h = refl

unnoted_seen : (u : ℕ) (taken : Option Taken) → option_map taken_seen (without_note u taken) ≡ unnoted u (option_map taken_seen taken)
unnoted_seen u None = refl
unnoted_seen u (Some taken) = refl

pub end_is_seen : (s : Tables) (u : ℕ) → IsSound s → EndIsSeen s u
end_is_seen s u h =
    let at : use_at (device_seen s) u ≡ slot_seen (slot_at s.uses u) = seen_at slot_seen s.uses u Free in
    record {
      refusals = λ i. ((no_use_seen (slot_at s.uses u) ∙ ap is_none (sym at)) i, refusal.NoSuchUse) ∷ [];
      said = λ there. said_seen (slot_at s.uses u) (ap is_none (sym at) ∙ there) ∙ ap end_answer (sym at);
      after =
          λ i.
          record (device_seen s) {
            slots = map-set slot_seen s.uses u Free i;
            taken = seen_each (option_map taken_seen) (without_note u) (unnoted u) (unnoted_seen u) s.taken i;
          };
    }

-- a translation is let go

pub evict_is_seen : (s : Tables) (t q : ℕ) → IsSound s → EvictIsSeen s t q
evict_is_seen s t q h =
    let page = beyond (2 ^ 36) q in
    let held = held_seen s t q in
    record {
      refusals = λ i. (page i, refusal.PageRange) ∷ (held i, refusal.NotHeld) ∷ [];
      after = λ i. record (device_seen s) { cache = removed_is_seen s.cache t q i };
    }
