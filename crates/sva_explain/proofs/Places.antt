-- What stands at a place of a table.
use Rattle.std.proofs.Common.{◌≡◌, ◌∙◌, refl, ap, ℕ, zero, suc, List, [], ◌∷◌, slice_get, slice_index_or, Option}
use Rattle.std.proofs.Common.{◌-◌, arith}
use Rattle.std.specs.Prelude.{unwrap_or}
use Rattle.sva_model.specs.State.PasidState.{Off}
use Rattle.sva_model.specs.Wire.{DeviceWire}
use Rattle.sva_labels.specs.Finding.{pasid_state}

-- the place, or what is read past the table's end
pub place_or : {A : Type 0} (xs : List A) (k : ℕ) (d : A) → unwrap_or (slice_get xs k) d ≡ slice_index_or xs k d
place_or [] k d = refl
place_or (x ∷ xs) zero d = refl
place_or (x ∷ xs) (suc k) d = place_or xs k d

-- the same of what was found
pub place_found : {A : Type 0} (xs : List A) (k : ℕ) (d : A) (found : Option A) → found ≡ slice_get xs k → unwrap_or found d ≡ slice_index_or xs k d
place_found xs k d found is = ap (λ o. unwrap_or o d) is ∙ place_or xs k d

-- the state of a PASID above 0 stands at the place below
pub state_above : (device : DeviceWire) (pasid : ℕ) → (pasid ≡ 0 → ⊥) → pasid_state device pasid ≡ slice_index_or device.pasids (pasid - 1) Off
state_above device zero some = absurd (some refl)
state_above device (suc place) some =
    let same : place ≡ suc place - 1 = omega arith in
    ap (λ k. slice_index_or device.pasids k Off) same
