-- The units of a host, and the bindings of a space there, as its ports and its table of bindings tell them; tests and counts row by row.
use Rattle.std.proofs.Common.{◌≡◌, refl, ap, sym, ◌∙◌, ℕ, suc, ◌+◌, ◌<◌, Bool, true, false, arith}
use Rattle.std.specs.Prelude.{if◌then◌else◌, Option, option_map, List, length, slice_index_or}
use Rattle.std.proofs.lemmas.List.{length-map}
use Rattle.sva_model.specs.Words.{any_below, count_below}
use Rattle.sva_model.specs.Wire.{Wire}
use Rattle.sva_labels.specs.Finding.{unit_of, bound_at}
use Rattle.sva_pasid.specs.declared.places.TableEntry.{TableEntry}
use Rattle.sva_pasid.specs.Places.{place_between}
use Rattle.sva_parts_by_labels.specs.Bindings.{binding_seen}
use Rattle.sva_parts_by_labels.proofs.Bindings.{bindings_are_seen}
use Rattle.sva_host_state.specs.declared.host_state.HostState.TheInside.{Inside as HostState}
use Rattle.sva_host_state.specs.declared.host_state.Port.{Port}
use Rattle.sva_host_state.specs.Inner.{part_seen, wire_of}
use Rattle.sva_host_state.proofs.Ports.{part_there}

pub parts_seen : (host : HostState) (v : Wire) → wire_of host ≡ v → length v.parts ≡ length host.ports.items
parts_seen host v view = sym (ap (λ (u : Wire). length u.parts) view) ∙ length-map host.ports.items part_seen

-- the unit of an endpoint that is there
pub unit_there : (host : HostState) (v : Wire) (e : ℕ) (port : Port) → wire_of host ≡ v
    → e < length host.ports.items → port ≡ slice_index_or host.ports.items e port → port.unit.unit ≡ unit_of v e
unit_there host v e port view there same =
    ap (λ (p : Port). p.unit.unit) same
    ∙ sym (ap (λ p. p.unit) (part_there host.ports.items e port there))
    ∙ ap (λ (u : Wire). unit_of u e) view

pub bound_there : (host : HostState) (v : Wire) (e n : ℕ) (o : Option TableEntry) → wire_of host ≡ v → o ≡ place_between e n host.bindings
    → option_map binding_seen o ≡ bound_at v e n
bound_there host v e n o view found =
    ap (option_map binding_seen) found ∙ ((bindings_are_seen host.bindings).0 (wire_of host) refl).by_space e n ∙ ap (λ (u : Wire). bound_at u e n) view

-- Row by row.

pub any_none : (p : ℕ → Bool) → any_below 0 p ≡ false
unfolding any_below
any_none p = refl

pub any_next : (n : ℕ) (p : ℕ → Bool) → any_below n p ≡ false → p n ≡ false → any_below (n + 1) p ≡ false
unfolding any_below
any_next n p before here =
    let next : n + 1 ≡ suc n = omega arith in
    ap (λ k. any_below k p) next ∙ ap (λ (b : Bool). if b then true else any_below n p) here ∙ before

pub counted_none : (p : ℕ → Bool) → 0 ≡ count_below 0 p
unfolding count_below
counted_none p = refl

pub counted_there : (n : ℕ) (p : ℕ → Bool) → p n ≡ true → count_below (n + 1) p ≡ count_below n p + 1
unfolding count_below
counted_there n p here =
    let next : n + 1 ≡ suc n = omega arith in
    let one : suc (count_below n p) ≡ count_below n p + 1 = omega arith in
    ap (λ k. count_below k p) next ∙ ap (λ (b : Bool). if b then suc (count_below n p) else count_below n p) here ∙ one

pub counted_off : (n : ℕ) (p : ℕ → Bool) → p n ≡ false → count_below (n + 1) p ≡ count_below n p
unfolding count_below
counted_off n p here =
    let next : n + 1 ≡ suc n = omega arith in
    ap (λ k. count_below k p) next ∙ ap (λ (b : Bool). if b then suc (count_below n p) else count_below n p) here
