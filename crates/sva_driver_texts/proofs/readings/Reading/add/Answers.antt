use Rattle.std.proofs.Common.{◌≡◌, ◌∙◌, List, ap, ℕ}
use denote.Ref.{Bor}
use Rattle.std.proofs.lemmas.Result.{IfOk-weaker}
use Rattle.std.specs.Prelude.{option_map}
use Rattle.sva_race_texts.proofs.Lists.{said}
use Rattle.sva_driver_words.specs.Sayings.{saying_seen}
use Rattle.sva_driver_texts.specs.Blocks.{under_of}
use Rattle.sva_driver_texts.specs.Readings.{name_of, with_block_of}
use Rattle.sva_driver_texts.proofs.Takings.{add_is}
use Rattle.sva_driver_texts.proofs.readings.Reading.add.Goals as goal

pub returns : goal.returns
returns c =
    let name = name_of (option_map (λ (name : Bor (List ℕ)). name.now) c.args.name) in
    let words = said c.args.words.now in
    let under : c.in_ok-under.under.items ≡ under_of c.args.thread.items c.args.self.now.blocks =
    c.in_ok-under.ensures ∙ ap (λ thread. under_of thread c.args.self.now.blocks) c.as_slice.ensures.value in
    let opened : c.note_block.new.self ≡ with_block_of c.note_flag.new.self c.args.thread.items c.args.number words =
    c.in_ok-note_block.ensures ∙ ap (λ thread. with_block_of c.note_flag.new.self thread c.args.number words) c.as_slice-2.ensures.value in
    IfOk-weaker c.push_line.result _ _
    (λ done is. add_is c.args.self.now c.note_lock.new.self c.note_flag.new.self c.note_block.new.self c.push_line.new.self c.args.number
    c.in_ok-under.under.items name c.in_ok-own.own.items c.args.thread.items c.in_ok-text.text.items words (saying_seen c.args.saying) under
    c.in_ok-own.ensures c.in_ok-text.ensures c.in_ok-note_lock.ensures c.in_ok-note_flag.ensures opened is)
    c.push_line.ensures
