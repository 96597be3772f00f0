use Rattle.std.proofs.Common.{◌≡◌, suc, List, [], ◌∷◌, ◌++◌, length, ap, sym, subst, ◌∙◌, arith}
use Rattle.sva_model.specs.Steps.{Reply}
use Rattle.sva_refinement.specs.Tallies.{IsTallied}
use Rattle.sva_core.specs.declared.journal.Entry.{Entry}
use Rattle.sva_core.specs.Journal.{History, CountsFollow, world_of, entry_of, answer_of}
use Rattle.sva_core.specs.Suiting.{Suits}
use Rattle.sva_core.proofs.Suiting.{reply_suits}
use Rattle.sva_core.proofs.JournalEntries.{performed, took, tallied, follow, length_with}
use Rattle.sva_core.proofs.journal.Journaled.perform.Goals as goal

pub bindings_after-self-inside-requires-clause-some : goal.bindings_after-self-inside-requires-clause-some
bindings_after-self-inside-requires-clause-some c =
    let t : IsTallied c.self.inside.world c.apply-answer.new.self c.apply-answer.result =
    tallied (record { config = c.self.inside.config; entries = c.self.inside.entries.items }) c.args.step.now c.apply-answer.result
    c.self.inside.world c.apply-answer.new.self c.self.invariant.0 c.self.invariant.1 c.apply-answer.ensures.step
    (c.is_out_of_memory.ensures.no c.if-is_out_of_memory.false) in
    omega (arith, t.bindings, c.self.invariant.2)

pub uses_after-self-inside-requires-clause-some : goal.uses_after-self-inside-requires-clause-some
uses_after-self-inside-requires-clause-some c =
    let t : IsTallied c.self.inside.world c.apply-answer.new.self c.apply-answer.result =
    tallied (record { config = c.self.inside.config; entries = c.self.inside.entries.items }) c.args.step.now c.apply-answer.result
    c.self.inside.world c.apply-answer.new.self c.self.invariant.0 c.self.invariant.1 c.apply-answer.ensures.step
    (c.is_out_of_memory.ensures.no c.if-is_out_of_memory.false) in
    omega (arith, t.slots, c.self.invariant.4)

pub invariant_of-self-2 : goal.invariant_of-self-2
invariant_of-self-2 c =
    let led =
    performed (record { config = c.self.inside.config; entries = c.self.inside.entries.items }) c.args.port c.args.step.now c.apply-answer.result
    c.self.inside.world c.apply-answer.new.self
    c.reserve.new.self.items c.push_reserved.new.self.items c.self.invariant.0 c.self.invariant.1 c.apply-answer.ensures.step
    (c.is_out_of_memory.ensures.no c.if-is_out_of_memory.false) c.reserve.ensures.items c.push_reserved.ensures.items in
    let t : IsTallied c.self.inside.world c.apply-answer.new.self c.apply-answer.result =
    tallied (record { config = c.self.inside.config; entries = c.self.inside.entries.items }) c.args.step.now c.apply-answer.result
    c.self.inside.world c.apply-answer.new.self c.self.invariant.0 c.self.invariant.1 c.apply-answer.ensures.step
    (c.is_out_of_memory.ensures.no c.if-is_out_of_memory.false) in
    let noted : Entry = entry_of c.args.port c.args.step.now c.apply-answer.result in
    let more : length c.push_reserved.new.self.items ≡ suc (length c.self.inside.entries.items) =
    ap length (c.push_reserved.ensures.items ∙ ap (λ (es : List Entry). es ++ noted ∷ []) c.reserve.ensures.items)
    ∙ length_with c.self.inside.entries.items noted in (
      led.0,
      led.1,
      omega (arith, t.bindings, c.self.invariant.2, c.bindings_after-self-inside.ensures.count),
      omega (arith, more, c.self.invariant.3, c.bindings_after-self-inside.ensures.few),
      omega (arith, t.slots, c.self.invariant.4, c.uses_after-self-inside.ensures.count),
      omega (arith, more, c.self.invariant.5, c.uses_after-self-inside.ensures.few),
    )

pub returns-clause-legal : goal.returns-clause-legal
returns-clause-legal c = (performed
    (record { config = c.self.inside.config; entries = c.self.inside.entries.items }) c.args.port c.args.step.now c.apply-answer.result
    c.self.inside.world c.apply-answer.new.self
    c.reserve.new.self.items c.push_reserved.new.self.items c.self.invariant.0 c.self.invariant.1 c.apply-answer.ensures.step
    (c.is_out_of_memory.ensures.no c.if-is_out_of_memory.false) c.reserve.ensures.items c.push_reserved.ensures.items).0

pub returns-clause-entry : goal.returns-clause-entry
returns-clause-entry c =
    let before : History = record { config = c.self.inside.config; entries = c.self.inside.entries.items } in
    let answered : c.apply-answer.result ≡ answer_of before c.args.step.now =
    (took before c.args.step.now c.apply-answer.result c.self.inside.world c.apply-answer.new.self c.self.invariant.0 c.self.invariant.1
    c.apply-answer.ensures.step (c.is_out_of_memory.ensures.no c.if-is_out_of_memory.false)).0 in
    ap (λ (r : Reply). entry_of c.args.port c.args.step.now r) answered
    ∙ ap (λ (h : History). entry_of c.args.port c.args.step.now (answer_of h c.args.step.now)) c.self.view_is

pub returns-clause-suits : goal.returns-clause-suits
returns-clause-suits c =
    let before : History = record { config = c.self.inside.config; entries = c.self.inside.entries.items } in
    let answered : c.apply-answer.result ≡ answer_of before c.args.step.now =
    (took before c.args.step.now c.apply-answer.result c.self.inside.world c.apply-answer.new.self c.self.invariant.0 c.self.invariant.1
    c.apply-answer.ensures.step (c.is_out_of_memory.ensures.no c.if-is_out_of_memory.false)).0 in
    subst (λ (r : Reply). Suits c.args.step.now r) (sym answered) (reply_suits (world_of before) c.args.step.now)

pub returns-clause-follow : goal.returns-clause-follow
returns-clause-follow c =
    let before : History = record { config = c.self.inside.config; entries = c.self.inside.entries.items } in
    let after : History = record { config = c.self.inside.config; entries = c.push_reserved.new.self.items } in
    let answered : c.apply-answer.result ≡ answer_of before c.args.step.now =
    (took before c.args.step.now c.apply-answer.result c.self.inside.world c.apply-answer.new.self c.self.invariant.0 c.self.invariant.1
    c.apply-answer.ensures.step (c.is_out_of_memory.ensures.no c.if-is_out_of_memory.false)).0 in
    let all : c.push_reserved.new.self.items ≡ c.self.inside.entries.items ++ entry_of c.args.port c.args.step.now c.apply-answer.result ∷ [] =
    c.push_reserved.ensures.items ∙ ap (λ (es : List Entry). es ++ entry_of c.args.port c.args.step.now c.apply-answer.result ∷ [])
    c.reserve.ensures.items in
    subst (λ (h : History). CountsFollow h after c.apply-answer.result) c.self.view_is
    (follow before c.args.port c.args.step.now c.apply-answer.result c.push_reserved.new.self.items answered all)
