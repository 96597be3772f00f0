use Rattle.std.proofs.Common.{◌≡◌, ◌∙◌, [], Ok, ap, rules}
use Rattle.sva_program.specs.Run.{kept_of, told_on}
use Rattle.sva_program.proofs.NameLemmas.{text_made}
use Rattle.sva_program.proofs.naming.make.Goals as goal

pub returns : goal.returns
returns g c =
    let asked = c.args.asked in
    let name = c.args.name.now in
    let text = c.args.text.now in
    let ending = c.in_ok-ending.ending in
    let said = c.perform.new.writer.inner.items in
    let same : c.into_inner.result.items ≡ said = search rules in
    let reads : c.new-reader.result.inner.now ≡ text = search rules in
    let begins : c.new-writer.result.inner.items ≡ [] = search rules in
    let kept : kept_of c.perform.result ≡ Ok ending = search rules in
    text_made asked name text said c.in_ok-told.told.items c.new-reader.result.inner.now c.new-writer.result.inner.items c.perform.result ending reads begins
    kept c.perform.ensures.report (c.in_ok-told.ensures ∙ ap (told_on asked name text ending) same)
