use Rattle.std.proofs.Common.{◌≡◌, ◌∙◌, List, ap, map, subst, ℕ}
use denote.Ref.{Bor}
use Rattle.sva_driver_texts.specs.Devices.{items_of}
use Rattle.sva_driver_texts.specs.Readings.{Reading}
use Rattle.sva_driver_texts.specs.Units.{units_of, units_or_own}
use Rattle.sva_driver_words.specs.Taking.{Gives}
use Rattle.sva_driver_texts.proofs.readings.Reading.units_in.Goals as goal

pub returns-in-Ok : goal.returns-in-Ok
returns-in-Ok c =
    let words = map {A = Bor (List ℕ)} {B = List ℕ} (λ word. word.now) c.args.words.now in
    let said : c.in-Ok.own.items ≡ units_or_own c.args.config.now c.args.self.now.units =
    c.in-Ok.ensures ∙ ap (units_or_own c.args.config.now) (c.as_slice.ensures.value ∙ ap (λ (reading : Reading). reading.units) c.self.view_is) in
    subst (λ (units : List ℕ). Gives items_of (units_of c.args.config.now units words) c.units_of.result) said c.units_of.ensures
