use Rattle.std.proofs.Common.{ap, ◌∙◌}
use Rattle.sva_core.specs.Journal.{History}
use Rattle.sva_core.proofs.TokenLemmas.{may_bind, may_use, noted, handed_out}
use Rattle.sva_core.proofs.running.Running.step.Goals as goal

pub note-requires-clause-bindings : goal.note-requires-clause-bindings
note-requires-clause-bindings g c =
    may_bind c.self.inside.books c.self.inside.journaled c.perform.new.self c.args.step.now c.in-Ok.entry.answer c.args.held.now c.self.invariant.0
    c.in-Ok.ensures.follow c.in-Ok.ensures.suits c.requires.held

pub note-requires-clause-uses : goal.note-requires-clause-uses
note-requires-clause-uses g c =
    may_use c.self.inside.books c.self.inside.journaled c.perform.new.self c.args.step.now c.in-Ok.entry.answer c.args.held.now c.self.invariant.0
    c.in-Ok.ensures.follow c.in-Ok.ensures.suits c.requires.held

pub invariant_of-self-2 : goal.invariant_of-self-2
invariant_of-self-2 g c = (
  noted c.self.inside.books c.note.new.self c.self.inside.journaled c.perform.new.self c.in-Ok.entry c.self.invariant.0 c.in-Ok.ensures.journal
      c.note.ensures.totals,
  ap (λ (h : History). h.config) c.in-Ok.ensures.journal ∙ c.self.invariant.1,
)

pub returns-clause-counted : goal.returns-clause-counted
returns-clause-counted g c = c.note.ensures.amount

pub returns-clause-handed : goal.returns-clause-handed
returns-clause-handed g c =
    handed_out c.self.inside.books c.self.inside.journaled c.perform.new.self c.in-Ok.entry.answer c.args.held.now c.note.new.held c.self.invariant.0
    c.in-Ok.ensures.follow c.note.ensures.bindings c.note.ensures.uses
