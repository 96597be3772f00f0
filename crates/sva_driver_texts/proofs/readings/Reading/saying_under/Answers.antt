use Rattle.std.proofs.Common.{◌≡◌, ◌∙◌, List, ap, map, subst, ℕ}
use Rattle.std.specs.Prelude.{Result}
use denote.Ref.{Bor}
use Rattle.sva_driver_words.specs.declared.faults.DriverWrong.{DriverWrong}
use Rattle.sva_driver_words.specs.Awaits.{line_seen}
use Rattle.sva_driver_words.specs.Says.{saying_by}
use Rattle.sva_driver_words.specs.Sayings.{SayingSaid, saying_seen}
use Rattle.sva_driver_words.specs.Taking.{Gives}
use Rattle.sva_driver_texts.specs.Readings.{Reading, saying_under}
use Rattle.sva_driver_texts.proofs.Anys.{own}
use Rattle.sva_driver_texts.proofs.readings.Reading.saying_under.Goals as goal

pub returns : goal.returns
returns c =
    let words = map {A = Bor (List ℕ)} {B = List ℕ} (λ word. word.now) c.args.words.now in
    let units : c.as_slice.result.now ≡ c.args.self.now.units =
    c.as_slice.ensures.value ∙ ap (λ (reading : Reading). reading.units) c.self.view_is in
    let lines : map line_seen c.as_slice-2.result.now ≡ c.args.self.now.lines =
    ap (map line_seen) c.as_slice-2.ensures.value ∙ ap (λ (reading : Reading). reading.lines) c.self.view_is in
    let locks : own c.as_slice-3.result.now ≡ c.args.self.now.locks =
    ap own c.as_slice-3.ensures.value ∙ ap (λ (reading : Reading). reading.locks) c.self.view_is in
    let flags : own c.as_slice-4.result.now ≡ c.args.self.now.flags =
    ap own c.as_slice-4.ensures.value ∙ ap (λ (reading : Reading). reading.flags) c.self.view_is in
    let path : saying_by c.args.config.now c.as_slice.result.now (map line_seen c.as_slice-2.result.now) (own c.as_slice-3.result.now)
    (own c.as_slice-4.result.now) c.args.under.now c.args.thread.now words c.word_at.result.now
    ≡ saying_under c.args.config.now c.args.self.now c.args.under.now c.args.thread.now words =
    λ i. saying_by c.args.config.now (units i) (lines i) (locks i) (flags i) c.args.under.now c.args.thread.now words (c.word_at.ensures i) in
    subst (λ (read : Result SayingSaid DriverWrong). Gives saying_seen read c.read_saying.result) path c.read_saying.ensures
