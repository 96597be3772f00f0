use Rattle.std.proofs.Common.{◌≡◌, ◌∙◌, ◌++◌, ◌∷◌, [], ap, map}
use Rattle.std.proofs.lemmas.List.{map_push}
use Rattle.sva_driver_words.specs.Awaits.{LineSaid, line_seen}
use Rattle.sva_driver_words.specs.Sayings.{saying_seen}
use Rattle.sva_driver_texts.proofs.readings.Reading.push_line.Goals as goal

pub returns : goal.returns
returns c =
    let was = c.self.view_is in
    let line : LineSaid = record {
      number = c.args.number;
      under = c.args.under.items;
      name = c.args.name.items;
      thread = c.args.thread.items;
      text = c.args.text.items;
      saying = saying_seen c.args.saying;
    } in
    let lines : map line_seen c.push.new.self.items ≡ c.args.self.now.lines ++ line ∷ [] =
    ap (map line_seen) c.in_ok-push.ensures.items ∙ map_push line_seen c.self.inside.lines.items _ ∙ (λ i. (was i).lines ++ line ∷ []) in
    λ i. record (was i) { lines = lines i }
