use Rattle.std.proofs.Common.{◌≡◌, ◌∙◌, ◌+◌, ap, false, rules}
use Rattle.std.specs.Prelude.{is_err}
use Rattle.std.specs.Str.{bytes_eq}
use Rattle.indexmap.specs.IndexMap.{insert_entry}
use Rattle.sva_script.proofs.NameLemmas.{on_ok}
use Rattle.sva_race_reports.specs.Kinds.{times}
use Rattle.sva_race_reports.proofs.Counting.{put_seen, seen}
use Rattle.sva_race_reports.proofs.kinds.Kinds.add.Goals as goal

pub returns : goal.returns
returns c =
    let fine : is_err c.insert.result ≡ false = search rules in
    let text = c.args.text.items in
    let so_far : c.times-so_far.result ≡ times text c.args.self.now =
    c.times-so_far.ensures ∙ ap (λ t. times t c.args.self.now) c.as_slice.ensures.value in
    ap (seen (λ key. key.items)) (on_ok c.insert.result fine c.insert.ensures.entries)
    ∙ put_seen (λ key. key.items) c.args.text (c.times-so_far.result + 1) c.self.inside.times.entries
    ∙ (λ i. insert_entry bytes_eq (c.self.view_is i) text (so_far i + 1))
