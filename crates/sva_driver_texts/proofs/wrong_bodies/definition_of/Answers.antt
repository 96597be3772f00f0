use Rattle.std.proofs.Common.{◌≡◌, ◌∙◌, ◌+◌, ◌<◌, ◌≤◌, Some, ap, cond, drop, false, length, map, rules, sym, true}
use Rattle.std.specs.Str.{bytes_eq}
use Rattle.sva_driver_texts.specs.Bodies.{defined_seen}
use Rattle.sva_driver_texts.specs.WrittenOut.{definition_of}
use Rattle.sva_driver_texts.specs.declared.bodies.Definition.{Definition}
use Rattle.sva_driver_texts.proofs.BodyLemmas.{definition_end, definition_next}
use Rattle.sva_driver_texts.proofs.wrong_bodies.definition_of.Goals as goal

pub returns-then-is : goal.returns-then-is
returns-then-is c =
    let inside : c.loop-own.own-index < length c.args.defined.now = search rules in
    let its : bytes_eq c.own-item.result.name.now c.args.name.now ≡ true = search rules in
    let rest = definition_of (map defined_seen (drop (c.loop-own.own-index + 1) c.args.defined.now)) c.args.name.now in
    sym (definition_next c.args.defined.now c.loop-own.own-index _ c.args.name.now inside
    ∙ ap (λ (own : Definition). cond (bytes_eq own.name.now c.args.name.now) (Some (defined_seen own)) rest) (sym c.own-item.is)
    ∙ ap (λ b. cond b (Some (defined_seen c.own-item.result)) rest) its)
    ∙ c.loop-own.invariant

pub loop-own-preserved : goal.loop-own-preserved
loop-own-preserved c =
    let inside : c.loop-own.own-index < length c.args.defined.now = search rules in
    let its : bytes_eq c.own-item.result.name.now c.args.name.now ≡ false = search rules in
    let rest = definition_of (map defined_seen (drop (c.loop-own.own-index + 1) c.args.defined.now)) c.args.name.now in
    sym (definition_next c.args.defined.now c.loop-own.own-index _ c.args.name.now inside
    ∙ ap (λ (own : Definition). cond (bytes_eq own.name.now c.args.name.now) (Some (defined_seen own)) rest) (sym c.own-item.is)
    ∙ ap (λ b. cond b (Some (defined_seen c.own-item.result)) rest) its)
    ∙ c.loop-own.invariant

pub returns : goal.returns
returns c =
    let past : length c.args.defined.now ≤ c.loop-own.own-index = search rules in
    sym (definition_end c.args.defined.now c.loop-own.own-index c.args.name.now past) ∙ c.loop-own.invariant
