use Rattle.std.proofs.Common.{◌∙◌, ap}
use Rattle.std.specs.List.{list_any}
use Rattle.std.specs.Str.{bytes_eq}
use Rattle.sva_driver_texts.specs.Readings.{Reading}
use Rattle.sva_driver_texts.proofs.Anys.{any_own}
use Rattle.sva_driver_texts.proofs.readings.Reading.is_set.Goals as goal

pub returns : goal.returns
returns c =
    c.is_among.ensures ∙ ap (λ words. list_any (λ word. bytes_eq word.items c.args.word.now) words) c.as_slice.ensures.value
    ∙ any_own c.args.word.now c.self.inside.set.items
    ∙ ap (λ (reading : Reading). list_any (λ own. bytes_eq own c.args.word.now) reading.set) c.self.view_is
