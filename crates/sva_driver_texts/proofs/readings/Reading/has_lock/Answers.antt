use Rattle.std.proofs.Common.{◌∙◌, ap}
use Rattle.std.specs.List.{list_any}
use Rattle.std.specs.Str.{bytes_eq}
use Rattle.sva_driver_texts.specs.Readings.{Reading}
use Rattle.sva_driver_texts.proofs.Anys.{any_own}
use Rattle.sva_driver_texts.proofs.readings.Reading.has_lock.Goals as goal

pub returns : goal.returns
returns c =
    c.is_among.ensures ∙ ap (λ locks. list_any (λ lock. bytes_eq lock.items c.args.name.now) locks) c.as_slice.ensures.value
    ∙ any_own c.args.name.now c.self.inside.locks.items
    ∙ ap (λ (reading : Reading). list_any (λ own. bytes_eq own c.args.name.now) reading.locks) c.self.view_is
