use Rattle.std.proofs.Common.{◌≡◌, ◌∙◌, ap, map}
use Rattle.std.specs.Prelude.{slice_set, Some}
use Rattle.sva_race_texts.specs.Devices.{device_seen, line_if}
use Rattle.sva_race_texts.specs.Readings.{Reading}
use Rattle.sva_race_texts.proofs.DeviceLemmas.{device_put}
use Rattle.sva_race_texts.proofs.readings.Reading.set_device.Goals as goal

pub returns : goal.returns
returns c =
    let was = c.self.view_is in
    let devices : map line_if c.set_line.new.devices.items
    ≡ slice_set c.args.self.now.devices c.args.endpoint (Some (device_seen c.args.device)) =
    ap (map line_if) c.set_line.ensures
    ∙ device_put c.self.inside.devices.items c.args.endpoint c.args.device
    ∙ ap (λ (reading : Reading). slice_set reading.devices c.args.endpoint (Some (device_seen c.args.device))) was in
    λ i. record (was i) { devices = devices i }
