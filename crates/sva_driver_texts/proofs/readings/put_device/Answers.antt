use Rattle.std.proofs.Common.{refl, slice_set}
use Rattle.sva_driver_texts.specs.Devices.{device_seen}
use Rattle.sva_driver_texts.proofs.Anys.{put_seen}
use Rattle.sva_driver_texts.proofs.readings.put_device.Goals as goal

pub returns-then-endpoint-len : goal.returns-then-endpoint-len
returns-then-endpoint-len c =
    put_seen device_seen c.args.devices.now.items (slice_set c.args.devices.now.items c.args.endpoint c.replace.new.device) c.args.endpoint
    c.replace.new.device (device_seen c.args.told) refl c.replace.ensures
