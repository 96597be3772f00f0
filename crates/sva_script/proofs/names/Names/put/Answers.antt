use Rattle.std.proofs.Common.{◌≡◌, ◌∷◌, [], ◌++◌, ◌∙◌, ap, ℕ, List, false, map, rules}
use Rattle.std.specs.Prelude.{is_err}
use Rattle.std.specs.Map.{lookup}
use Rattle.std.specs.Str.{bytes_eq}
use Rattle.sva_script.specs.declared.given.Given.{Given}
use Rattle.sva_script.specs.Names.{given_of}
use Rattle.sva_script.proofs.NameLemmas.{inserted, lookup_seen, on_ok}
use Rattle.sva_script.proofs.names.Names.put.Goals as goal

pub returns-clause-ok : goal.returns-clause-ok
returns-clause-ok c =
    let own : c.extend_from_slice.new.self.items ≡ c.args.name.now = search rules in
    let fine : is_err c.insert.result ≡ false = search rules in
    let absent =
    lookup_seen (λ key. key.items) (bytes_eq c.extend_from_slice.new.self.items) c.self.inside.given.entries
    ∙ ap (λ name. lookup (bytes_eq name) (map {B = List ℕ × Given} (λ entry. (entry.0.items, entry.1)) c.self.inside.given.entries)) own
    ∙ ap (given_of c.args.name.now) c.self.view_is ∙ c.requires in
    let added = on_ok c.insert.result fine c.insert.ensures.entries in
    ap (map {B = List ℕ × Given} (λ entry. (entry.0.items, entry.1))) added
    ∙ inserted (λ key. key.items) _ c.extend_from_slice.new.self c.args.given c.self.inside.given.entries absent
    ∙ (λ i. c.self.view_is i ++ (own i, c.args.given) ∷ [])
