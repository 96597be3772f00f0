use Rattle.std.proofs.Common.{◌∙◌, ap}
use Rattle.std.specs.Map.{lookup}
use Rattle.std.specs.Option.{unwrap_or}
use Rattle.std.specs.Str.{bytes_eq}
use Rattle.sva_script.proofs.NameLemmas.{lookup_seen}
use Rattle.sva_race_reports.proofs.kinds.Kinds.times.Goals as goal

pub returns : goal.returns
returns c =
    c.unwrap_or.ensures
    ∙ ap (λ o. unwrap_or o 0)
    (c.copied.ensures ∙ c.get.ensures.value
    ∙ lookup_seen (λ key. key.items) (bytes_eq c.args.text.now) c.self.inside.times.entries
    ∙ ap (lookup (bytes_eq c.args.text.now)) c.self.view_is)
