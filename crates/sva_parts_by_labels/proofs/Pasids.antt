-- The states of PASIDs, seen.
use Rattle.std.proofs.Common.{◌≡◌, refl, ap, sym, ◌∙◌, ℕ, zero, suc, ◌+◌, Bool, true, arith}
use Rattle.std.specs.Prelude.{not, nat_lt, if◌then◌else◌, List, [], ◌∷◌, map, drop, slice_index_or, slice_set}
use Rattle.std.proofs.lemmas.List.{map-set}
use Rattle.std.proofs.lemmas.Bool.Decides.{nat_tests}
use Rattle.sva_model.specs.State.{PasidState as DeviceState}
use Rattle.sva_model.specs.States as states
use Rattle.sva_labels.specs.Finding.{pasid_state}
use Rattle.sva_labels.specs.Moves.{with_pasid}
use Rattle.sva_endpoint.specs.declared.pasid_states.PasidState.{PasidState}
use Rattle.sva_endpoint.specs.declared.pasid_states.PasidState.TheVariants.{Off, On, Stopping}
use Rattle.sva_endpoint.specs.PasidStates.{state_of, with_state, is_on, is_stopping}
use Rattle.sva_endpoint.specs.Tables.{Tables}
use Rattle.sva_parts_by_labels.specs.Device.{pasid_seen, device_seen}
use Rattle.sva_endpoint.specs.Laws.{IsSound}
use Rattle.sva_parts_by_labels.proofs.Tables.{seen_at}

state_below : (xs : List PasidState) (t : ℕ) → slice_index_or (map pasid_seen (drop 1 xs)) t DeviceState.Off ≡ pasid_seen (slice_index_or xs (suc t) Off)
state_below [] t = refl
state_below (x ∷ xs) t = seen_at pasid_seen xs t Off

pub state_seen : (s : Tables) (t : ℕ) → IsSound s → pasid_state (device_seen s) t ≡ pasid_seen (state_of s.pasids t)
state_seen s zero h = ap pasid_seen (sym h.no_zero)
state_seen s (suc t) h = state_below s.pasids t

pub on_seen : (x : PasidState) → states.is_on (pasid_seen x) ≡ is_on x
on_seen Off = refl
on_seen On = refl
on_seen Stopping = refl

pub stopping_seen : (x : PasidState) → states.is_ending (pasid_seen x) ≡ is_stopping x
stopping_seen Off = refl
stopping_seen On = refl
stopping_seen Stopping = refl

pub started_seen : (s : Tables) (t : ℕ) → IsSound s → states.is_on (pasid_state (device_seen s) t) ≡ is_on (state_of s.pasids t)
started_seen s t h = ap states.is_on (state_seen s t h) ∙ on_seen (state_of s.pasids t)

pub ending_seen : (s : Tables) (t : ℕ) → IsSound s → states.is_ending (pasid_state (device_seen s) t) ≡ is_stopping (state_of s.pasids t)
ending_seen s t h = ap states.is_ending (state_seen s t h) ∙ stopping_seen (state_of s.pasids t)

-- a PASID more is in a state
set_below : (xs : List PasidState) (t : ℕ) (x : PasidState)
    → map pasid_seen (drop 1 (slice_set xs (suc t) x)) ≡ slice_set (map pasid_seen (drop 1 xs)) t (pasid_seen x)
set_below [] t x = refl
set_below (y ∷ xs) t x = map-set pasid_seen xs t x

pub with_state_seen : (s : Tables) (t : ℕ) (x : PasidState)
    → device_seen (record s { pasids = with_state s.pasids t x }) ≡ with_pasid t (pasid_seen x) (device_seen s)
with_state_seen s zero x = refl
with_state_seen s (suc t) x =
    let above : nat_lt 0 (suc t) ≡ true = grind (arith, nat_tests) in
    ap (λ (b : Bool). device_seen (record s { pasids = if b then slice_set s.pasids (suc t) x else s.pasids })) above
    ∙ (λ i. record (device_seen s) { pasids = set_below s.pasids t x i })

-- a page number is at most 2^36 - 1
pub beyond : (n q : ℕ) → not (nat_lt q n) ≡ nat_lt n (q + 1)
beyond n q = grind (arith, nat_tests)
