use Rattle.std.proofs.Common.{◌∙◌, ap}
use Rattle.std.specs.List.{list_any}
use Rattle.std.specs.Str.{bytes_eq}
use Rattle.sva_driver_texts.specs.Readings.{Reading}
use Rattle.sva_driver_texts.proofs.Anys.{any_own}
use Rattle.sva_driver_texts.proofs.readings.Reading.has_flag.Goals as goal

pub returns : goal.returns
returns c =
    c.is_among.ensures ∙ ap (λ flags. list_any (λ flag. bytes_eq flag.items c.args.name.now) flags) c.as_slice.ensures.value
    ∙ any_own c.args.name.now c.self.inside.flags.items
    ∙ ap (λ (reading : Reading). list_any (λ own. bytes_eq own c.args.name.now) reading.flags) c.self.view_is
