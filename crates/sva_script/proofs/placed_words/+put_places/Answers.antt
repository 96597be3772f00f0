use Rattle.std.proofs.Common.{◌+◌, ◌-◌, drop, length, subst, take}
use Rattle.sva_script.specs.Pieces.{PutsRead}
use Rattle.sva_script.specs.Resolve.{plain_rest}
use Rattle.sva_script.proofs.ItemLemmas.{to_end}
use Rattle.sva_script.proofs.RestLemmas.{no_places, no_words, said, word_put}
use Rattle.sva_script.proofs.placed_words.+put_places.Goals as goal

pub returns-in-empty : goal.returns-in-empty
returns-in-empty fuel c =
    no_places c.args.at c.args.names.now c.args.places.now _ c.args.plain.now.items c.end_words.result c.in-empty.len_below
    (c.end_words.ensures c.args.names.now c.args.plain.now.items)

pub returns-in-empty-words : goal.returns-in-empty-words
returns-in-empty-words fuel c =
    no_words c.args.at c.args.names.now c.args.places.now c.args.words.now _ c.args.plain.now.items c.end_line.result c.in-len1-up.len_at_least
    c.in-empty-words.len_below (c.end_line.ensures c.args.plain.now.items)

pub returns-in-Ok : goal.returns-in-Ok
returns-in-Ok fuel c =
    word_put c.args.at c.args.names.now c.args.places.now c.args.words.now _ _ c.args.plain.now.items c.put_spaced.new.plain.items
    c.put_places.new.plain.items c.in-Ok.field-0 c.put_places.result c.in-len1-up.len_at_least c.in-len1-up-words.len_at_least c.in-Ok.ensures
    (subst (λ places. PutsRead (plain_rest (c.args.at + 1) c.args.names.now places (said (drop 1 c.args.words.now))) c.put_spaced.new.plain.items
    c.put_places.new.plain.items c.put_places.result) (to_end 1 c.args.places.now)
    (subst (λ words. PutsRead (plain_rest (c.args.at + 1) c.args.names.now (take (length c.args.places.now - 1) (drop 1 c.args.places.now)) (said words))
    c.put_spaced.new.plain.items c.put_places.new.plain.items c.put_places.result) (to_end 1 c.args.words.now) c.put_places.ensures))
