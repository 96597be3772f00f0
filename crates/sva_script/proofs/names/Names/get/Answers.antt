use Rattle.std.proofs.Common.{◌∙◌, ap}
use Rattle.std.specs.Str.{bytes_eq}
use Rattle.sva_script.specs.Names.{given_of}
use Rattle.sva_script.proofs.NameLemmas.{lookup_seen}
use Rattle.sva_script.proofs.names.Names.get.Goals as goal

pub returns : goal.returns
returns c =
    c.copied.ensures ∙ c.get.ensures.value ∙ lookup_seen (λ key. key.items) (bytes_eq c.args.name.now) c.self.inside.given.entries
    ∙ ap (given_of c.args.name.now) c.self.view_is
