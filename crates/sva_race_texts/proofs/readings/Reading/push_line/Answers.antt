use Rattle.std.proofs.Common.{◌≡◌, ◌∙◌, ◌++◌, ◌∷◌, [], ap, map}
use Rattle.std.proofs.lemmas.List.{map_push}
use Rattle.sva_race_texts.specs.Seen.{line_seen}
use Rattle.sva_race_texts.proofs.ListLemmas.{own}
use Rattle.sva_race_texts.proofs.readings.Reading.push_line.Goals as goal

pub returns : goal.returns
returns c =
    let was = c.self.view_is in
    let lines : map line_seen c.push.new.self.items ≡ c.args.self.now.lines ++ line_seen c.args.line ∷ [] =
    ap (map line_seen) c.in_ok-push.ensures.items ∙ map_push line_seen c.self.inside.lines.items c.args.line
    ∙ (λ i. (was i).lines ++ line_seen c.args.line ∷ []) in
    let threads : own c.push-2.new.self.items ≡ c.args.self.now.threads ++ c.args.thread.items ∷ [] =
    ap own c.in_ok-push-2.ensures.items ∙ map_push (λ name. name.items) c.self.inside.threads.items c.args.thread
    ∙ (λ i. (was i).threads ++ c.args.thread.items ∷ []) in
    λ i. record (was i) { lines = lines i; threads = threads i }
