use Rattle.std.proofs.Common.{◌≡◌, ◌∙◌, ap, arith, length, sym, vec_len}
use Rattle.sva_race_texts.proofs.Lists.{said}
use Rattle.sva_driver_words.specs.Descriptors.{descriptor_at, itself}
use Rattle.sva_driver_words.proofs.PieceLemmas.{added}
use Rattle.sva_driver_words.proofs.descriptors.add_descriptor.Goals as goal

pub returns-in-Ok-push_descriptor : goal.returns-in-Ok-push_descriptor
returns-in-Ok-push_descriptor c =
    let same : vec_len c.args.list.now ≡ length c.args.list.now.items = omega (arith, c.args.list.now.ok.0) in
    let words = said c.args.words.now in
    added itself (descriptor_at c.args.units.now c.args.endpoint c.args.name (length c.args.list.now.items) c.args.at words)
    c.args.list.now.items c.push_descriptor.new.list.items c.in-Ok.one
    (ap (λ count. descriptor_at c.args.units.now c.args.endpoint c.args.name count c.args.at words) (sym (c.len.ensures ∙ same)) ∙ c.in-Ok.ensures)
    c.in-Ok-push_descriptor.ensures
