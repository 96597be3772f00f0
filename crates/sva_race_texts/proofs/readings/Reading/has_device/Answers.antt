use Rattle.std.proofs.Common.{◌≡◌, ◌∙◌, ap, is_some, sym, rules, None}
use Rattle.std.specs.Prelude.{slice_index_or}
use Rattle.sva_race_texts.specs.Readings.{Reading}
use Rattle.sva_race_texts.proofs.DeviceLemmas.{device_there}
use Rattle.sva_race_texts.proofs.readings.Reading.has_device.Goals as goal

pub returns : goal.returns
returns c =
    let own : c.has_line.result ≡ is_some (slice_index_or c.self.inside.devices.items c.args.endpoint None) = search rules in
    own ∙ sym (device_there c.self.inside.devices.items c.args.endpoint)
    ∙ ap (λ (reading : Reading). is_some (slice_index_or reading.devices c.args.endpoint None)) c.self.view_is
