-- The driver before its first line, by what calls make of what was read.
use Rattle.std.proofs.Common.{◌≡◌, ◌∙◌, ap, subst, sym, ℕ, Bool, false, List, length, map, replicate}
use Rattle.std.proofs.lemmas.List.{length-map}
use Rattle.sva_step.specs.declared.limits.Config.{Config}
use Rattle.sva_open.specs.World.{Open, opened}
use Rattle.sva_open.specs.declared.settings.Conduct.{Conduct}
use Rattle.sva_open.specs.declared.settings.Settings.{Settings}
use Rattle.sva_open.specs.declared.drivers.Driver.{Driver}
use Rattle.sva_driver_texts.specs.declared.kept_of_endpoints.DeviceRead.{DeviceRead}
use Rattle.sva_driver_texts.specs.Devices.{device_seen}
use Rattle.sva_driver_texts.specs.Readings.{Reading}
use Rattle.sva_driver_texts.specs.Texts.{IsOpening, conduct_of}
use Rattle.sva_driver_texts.proofs.Anys.{map_twice}

-- the world, by the conduct of endpoints, and by how many PASIDs they have
pub start_by : (config : Config) (settings : Settings) (own devices : List DeviceRead) (lent units : List ℕ) (pasids some : ℕ)
    (now : Open)
    → now ≡ opened settings (map (λ (device : DeviceRead). conduct_of (device_seen device)) own) lent some config.frames
    → own ≡ devices → lent ≡ units → some ≡ pasids
    → now ≡ opened settings (map conduct_of (map device_seen devices)) units pasids config.frames
start_by config settings own devices lent units pasids some now is same shared as_many =
    let conducts : List DeviceRead → List Conduct = λ own. map (λ device. conduct_of (device_seen device)) own in
    is ∙ (λ i. opened settings (conducts (same i)) (shared i) (as_many i) config.frames)
    ∙ ap (λ conducts. opened settings conducts units pasids config.frames) (map_twice conduct_of device_seen devices)

-- as many as there are in a list
pub as_many : {A B : Type 0} (seen : A → B) (xs : List A) (list : List Bool) (count : ℕ) → list ≡ replicate count false → count ≡ length xs
    → list ≡ replicate (length (map seen xs)) false
as_many seen xs list count is counted = is ∙ ap (λ n. replicate n false) (counted ∙ sym (length-map xs seen))

pub by_view : (config : Config) (seen reading : Reading) (driver : Driver) → seen ≡ reading → IsOpening config seen driver
    → IsOpening config reading driver
by_view config seen reading driver is opening = subst (λ (own : Reading). IsOpening config own driver) is opening
