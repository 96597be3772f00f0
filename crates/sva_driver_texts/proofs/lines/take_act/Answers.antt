use Rattle.std.proofs.Common.{◌≡◌, ◌∙◌, List, ap, map, ℕ}
use Rattle.std.specs.Prelude.{option_map}
use denote.Ref.{Bor}
use Rattle.sva_script.specs.Lines.{parts_of}
use Rattle.sva_driver_words.specs.Sayings.{saying_seen}
use Rattle.sva_driver_texts.specs.Readings.{name_of, thread_of, with_line}
use Rattle.sva_driver_texts.proofs.Takings.{act_fails, act_right}
use Rattle.sva_driver_texts.proofs.lines.take_act.Goals as goal

pub returns-in-Ok-add : goal.returns-in-Ok-add
returns-in-Ok-add c =
    let old = c.args.reading.now in
    let parts = parts_of (map {A = Bor (List ℕ)} {B = List ℕ} (λ word. word.now) c.args.words.now) in
    let name : option_map {T = Bor (List ℕ)} {U = List ℕ} (λ name. name.now) c.parts_of-parts.result.name ≡ parts.name = c.parts_of-parts.ensures.name in
    let step : map {A = Bor (List ℕ)} {B = List ℕ} (λ word. word.now) c.parts_of-parts.result.step.now ≡ parts.step = c.parts_of-parts.ensures.step in
    act_right c.args.config.now old c.add.new.self c.args.number parts c.as_slice.result.now c.in-Ok.thread.items (thread_of old parts.step)
    (saying_seen c.in-Ok-read_act.saying) c.in-Ok-read_act.ensures c.as_slice.ensures.value (c.in-Ok.ensures ∙ ap (thread_of old) step)
    (c.in-Ok-add.ensures
    ∙ (λ i. with_line old c.args.number (name_of (name i)) c.in-Ok.thread.items (step i) (saying_seen c.in-Ok-read_act.saying)))

pub returns-in-Err-read_act : goal.returns-in-Err-read_act
returns-in-Err-read_act c =
    let old = c.args.reading.now in
    let parts = parts_of (map {A = Bor (List ℕ)} {B = List ℕ} (λ word. word.now) c.args.words.now) in
    let step : map {A = Bor (List ℕ)} {B = List ℕ} (λ word. word.now) c.parts_of-parts.result.step.now ≡ parts.step = c.parts_of-parts.ensures.step in
    act_fails c.args.config.now old c.args.number parts c.as_slice.result.now c.in-Ok.thread.items (thread_of old parts.step)
    c.in-Err-read_act.why c.in-Err-read_act.ensures c.as_slice.ensures.value (c.in-Ok.ensures ∙ ap (thread_of old) step)
