-- What a host keeps before the first step.
use Rattle.std.proofs.Common.{◌≡◌, ◌≤◌, refl, ap, sym, subst, ◌∙◌, ℕ, zero, suc}
use Rattle.std.specs.Prelude.{Option, None, List, [], ◌∷◌, map, length, replicate}
use Rattle.std.specs.FinMap.{entries, empty, from_sorted, empty_of_len, len-entries, entries-from_sorted}
use Rattle.std.proofs.lemmas.List.{length-replicate}
use Rattle.std.proofs.lemmas.List.Elements.{All-nil, All-cons}
use Rattle.sva_step.specs.declared.limits.Config.{Config}
use Rattle.sva_model.specs.Words.{tabulate}
use Rattle.sva_model.specs.Wire.{JobWire}
use Rattle.sva_labels.specs.Finding.{idle, idle_device}
use Rattle.sva_labels.specs.Host.{first_wire}
use Rattle.sva_address_spaces.specs.Seen.{AddressSpacesSeen}
use Rattle.sva_address_spaces.specs.Steps.{first_address_spaces}
use Rattle.sva_msg.specs.Bag.{InFlight, opened}
use Rattle.sva_endpoint.specs.Tables.{fresh}
use Rattle.sva_endpoint.proofs.SoundLaws.{sound_fresh}
use Rattle.sva_endpoint.specs.Laws.{IsSound}
use Rattle.sva_pasid.specs.declared.places.TableEntry.{TableEntry}
use Rattle.sva_endpoint.specs.declared.cached.Translation.{Translation}
use Rattle.sva_endpoint.specs.Cache.{Key, Translations, key_cmp}
use Rattle.sva_parts_by_labels.specs.Device.{device_seen, translation_seen}
use Rattle.sva_parts_by_labels.specs.Bindings.{bindings_seen}
use Rattle.sva_parts_by_labels.specs.Flights.{flights_seen}
use Rattle.sva_parts_by_labels.proofs.Completions.{tabulate_front}
use Rattle.sva_host_state.specs.declared.host_state.Port.{Port}
use Rattle.sva_host_state.specs.Inner.{new_port, part_seen}
use Rattle.sva_host_state.proofs.Ports.{AllSound, IsFew}

pub repeated : {A : Type 0} (n : ℕ) (a : A) → replicate n a ≡ tabulate n (λ k. a)
unfolding tabulate
repeated zero a = refl
repeated (suc n) a = ap (λ rest. a ∷ rest) (repeated n a) ∙ sym (tabulate_front n (λ k. a))

seen_repeated : (n : ℕ) (port : Port) → map part_seen (replicate n port) ≡ replicate n (part_seen port)
seen_repeated zero port = refl
seen_repeated (suc n) port = ap (λ parts. part_seen port ∷ parts) (seen_repeated n port)

abbrev no_entries : Translations
no_entries = from_sorted {K = Key} {X = Translation} {R = key_cmp} []

entries_none : entries no_entries ≡ []
entries_none = entries-from_sorted key_cmp [] tt

entries_empty : entries {K = Key} {X = Translation} {R = key_cmp} empty ≡ []
entries_empty = ap entries (sym (empty_of_len no_entries (len-entries no_entries ∙ ap length entries_none))) ∙ entries_none

fresh_seen : device_seen fresh ≡ idle_device
unfolding tabulate
fresh_seen = λ i. record idle_device { cache = ap (map translation_seen) entries_empty i }

new_seen : part_seen new_port ≡ idle
new_seen = λ i. record idle { device = fresh_seen i }

pub new_few : (n : ℕ) → n ≤ 8 → IsFew (replicate n new_port)
new_few n few = subst (λ (k : ℕ). k ≤ 8) (sym (length-replicate n new_port)) few

pub new_sound : (n : ℕ) → AllSound (replicate n new_port)
new_sound zero = All-nil (λ (p : Port). IsSound p.device)
new_sound (suc n) = All-cons (λ (p : Port). IsSound p.device) new_port (replicate n new_port) sound_fresh (new_sound n)

parts_seen : (n : ℕ) (ports : List Port) → ports ≡ replicate n new_port → map part_seen ports ≡ tabulate n (λ e. idle)
parts_seen n ports is = ap (map part_seen) is ∙ seen_repeated n new_port ∙ (λ i. replicate n (new_seen i)) ∙ repeated n idle

pub opened_seen : (config : Config) (memory : AddressSpacesSeen) (bindings : List TableEntry) (ports : List Port) (bag : InFlight) (workers binding cookie : ℕ)
    → memory ≡ first_address_spaces config.frames config.first → bindings ≡ [] → ports ≡ replicate config.endpoints new_port
    → bag ≡ opened config.first → workers ≡ config.workers → binding ≡ config.first → cookie ≡ config.first
    → record {
      spaces = memory.spaces;
      places = memory.places;
      bindings = bindings_seen bindings;
      parts = map part_seen ports;
      jobs = [];
      hands = replicate workers None;
      in_flight = flights_seen bag;
      next_space = memory.next_space;
      next_binding = binding;
      next_message = bag.next;
      next_cookie = cookie;
    }
    ≡ first_wire config
opened_seen config memory bindings ports bag workers binding cookie are_spaces none are_ports is_bag are_workers first_binding first_cookie =
    λ i. record {
      spaces = (are_spaces i).spaces;
      places = (are_spaces i).places;
      bindings = bindings_seen (none i);
      parts = parts_seen config.endpoints ports are_ports i;
      jobs = [];
      hands = hands i;
      in_flight = flights_seen (is_bag i);
      next_space = (are_spaces i).next_space;
      next_binding = first_binding i;
      next_message = (is_bag i).next;
      next_cookie = first_cookie i;
    }
  where
    hands : ◌≡◌ {A = List (Option JobWire)} (replicate workers None) (tabulate config.workers (λ x. None))
    hands = (λ j. replicate (are_workers j) None) ∙ repeated config.workers None
