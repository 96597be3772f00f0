use Rattle.std.proofs.Common.{◌∙◌, ◌++◌, ap, refl, rules, sym}
use Rattle.sva_driver_texts.specs.Readings.{Reading}
use Rattle.sva_race_texts.proofs.WholeLemmas.{none_said, some_said}
use Rattle.sva_driver_texts.proofs.Wholes.{said_right, said_wrong}
use Rattle.sva_driver_texts.proofs.texts.read_of.Goals as goal

pub returns-then-not-is_empty : goal.returns-then-not-is_empty
returns-then-not-is_empty c =
    let said = ap (λ (reading : Reading). reading.said) c.reading.view_is in
    said_wrong (record { config = c.args.config; known = c.args.names; next = c.args.next; reading = c.args.reading }) c.args.out.now.items
    c.extend_from_slice.new.self.items
    (some_said said (search rules)) c.requires
    (c.in_ok-extend_from_slice.ensures.items ∙ ap (λ l. c.args.out.now.items ++ l) (c.as_slice.ensures.value ∙ said))

pub returns : goal.returns
returns c =
    let is = c.reading.view_is in
    said_right (record { config = c.args.config; known = c.args.names; next = c.args.next; reading = c.args.reading }) _ c.args.out.now.items
    (sym (ap (λ (reading : Reading). reading.said) is) ∙ none_said c.reading.inside.said.items (search rules))
    (record {
      config = refl;
      known = refl;
      next = refl;
      is_race = ap (λ (reading : Reading). reading.is_race) is;
      before = ap (λ (reading : Reading). reading.before) is;
      opening = c.in_ok-opening.ensures.driver;
      said = c.in_ok-opening.ensures.said;
    })
    c.requires
