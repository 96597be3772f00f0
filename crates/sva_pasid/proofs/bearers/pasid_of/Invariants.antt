use Rattle.std.proofs.Common.{◌≡◌, ℕ, ◌<◌, ◌≤◌, false}
use Rattle.sva_pasid.specs.Bearers.{slot, is_by}
use Rattle.sva_pasid.proofs.bearers.pasid_of.Given as goal

abbrev pub invariant-loop-pasid : goal.invariant-loop-pasid
invariant-loop-pasid l = (q : ℕ) → 1 ≤ q → q < l.pasid → is_by l.space (slot q l.bearers) ≡ false
