use Rattle.std.proofs.Common.{◌≡◌, ◌∙◌, ◌-◌, rules, sym, slice_index_or}
use Rattle.sva_model.specs.State.PasidState.{Off}
use Rattle.sva_parts_by_labels.specs.Device.{pasid_seen}
use Rattle.sva_snapshot.specs.Shown.{device_shown}
use Rattle.sva_explain.proofs.Places.{state_above}
use Rattle.sva_explain.proofs.enabled.accepted.pasid_state.Goals as goal

pub returns : goal.returns
returns c =
    let below : pasid_seen c.state_at.result ≡ slice_index_or (device_shown c.args.device.now).pasids (c.args.pasid - 1) Off = search rules in
    below ∙ sym (state_above (device_shown c.args.device.now) c.args.pasid c.if-pasid-eq0.false)
