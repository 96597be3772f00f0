use Rattle.std.proofs.Common.{◌∙◌, ◌<◌, ◌≤◌, List, ℕ, length, rules}
use denote.Ref.{Bor}
use Rattle.sva_driver_texts.specs.Bodies.{texts}
use Rattle.sva_driver_texts.specs.WrittenOut.{put_in}
use Rattle.sva_driver_texts.proofs.Anys.{map_twice}
use Rattle.sva_driver_texts.proofs.Written.{built_end, built_next}
use Rattle.sva_driver_texts.proofs.given.put_words.Goals as goal

pub loop-word-preserved : goal.loop-word-preserved
loop-word-preserved c =
    let inside : c.loop-word.word-index < length c.args.words.now = search rules in
    built_next {A = Bor (List ℕ)} {B = List ℕ} {C = Bor (List ℕ)} (λ word. word.now)
    (λ word. put_in (texts c.args.parameters.now) (texts c.args.given.now) word.now) c.args.words.now c.loop-word.word-index _
    c.loop-word.put.items c.push.new.self.items c.put_in.result _ inside c.put_in.ensures (search rules) c.loop-word.invariant

pub returns : goal.returns
returns c =
    let past : length c.args.words.now ≤ c.loop-word.word-index = search rules in
    built_end {A = Bor (List ℕ)} {B = List ℕ} {C = Bor (List ℕ)} (λ word. word.now)
    (λ word. put_in (texts c.args.parameters.now) (texts c.args.given.now) word.now) c.args.words.now c.loop-word.word-index
    c.loop-word.put.items _ past c.loop-word.invariant
    ∙ map_twice {A = Bor (List ℕ)} {B = List ℕ} {C = List ℕ} (put_in (texts c.args.parameters.now) (texts c.args.given.now)) (λ word. word.now)
    c.args.words.now
