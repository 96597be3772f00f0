use Rattle.std.proofs.Common.{◌≡◌, ◌+◌, ◌-◌, Bool, true, List, rules, sym, subst, refl, arith}
use Rattle.sva_fabric.specs.TokenNumbers.{TicketNumbers}
use Rattle.sva_fabric.specs.LoopTokens.{tokens_of_tickets}
use Rattle.sva_fabric.specs.Plays.{HasPlayed}
use Rattle.sva_fabric.proofs.Tries.{IsPlaying, line_got, lines_over, playing_none, playing_accepted, playing_again}
use Rattle.sva_fabric.proofs.Tries.{played_all, played_out, played_last, played_none}
use Rattle.sva_fabric.proofs.loops.using.play.Goals.{in-Accepted, in-Again}
use Rattle.sva_fabric.proofs.loops.using.play.Goals as goal

pub loop-turn-init : goal.loop-turn-init
loop-turn-init g c = record {
  playing = subst (λ (l : List TicketNumbers). IsPlaying c.args.script.now 0 0 c.args.port.now c.args.port.now (tokens_of_tickets c.args.tickets.now.items)
      (tokens_of_tickets l)) (sym c.reserve.ensures.items)
      (playing_none c.args.script.now c.args.port.now (tokens_of_tickets c.args.tickets.now.items));
  few = search rules;
  room = search rules;
}

pub loop-turn-preserved : goal.loop-turn-preserved
loop-turn-preserved g c =
    let h = tokens_of_tickets c.args.tickets.now.items in
    let k = tokens_of_tickets c.loop-turn.tickets.items in
    let m = tokens_of_tickets c.take_turn.new.tickets.items in
    let at = line_got c.args.script.now c.loop-turn.accepted c.get.result c.in-Some.line c.get.ensures.lookup c.in-Some.is in
    record {
      playing = elim c.match-take_turn.branch [
        | in-Accepted w ↦
            subst (λ a. IsPlaying c.args.script.now a (c.loop-turn.turn + 1) c.args.port.now c.take_turn.new.port h m) (sym w.accepted-is)
            (playing_accepted g.C.Ledgers.config c.args.script.now c.loop-turn.accepted c.loop-turn.turn c.args.port.now c.loop-turn.port
            c.take_turn.new.port h k m c.in-Some.line.now c.take_turn.result c.loop-turn.invariant.playing at c.take_turn.ensures.turn w.in-Accepted.is)
        | in-Again w ↦
            subst (λ a. IsPlaying c.args.script.now a (c.loop-turn.turn + 1) c.args.port.now c.take_turn.new.port h m) (sym w.accepted-is)
            (playing_again g.C.Ledgers.config c.args.script.now c.loop-turn.accepted c.loop-turn.turn c.args.port.now c.loop-turn.port
            c.take_turn.new.port h k m c.in-Some.line.now c.take_turn.result c.loop-turn.invariant.playing at c.take_turn.ensures.turn w.in-Again.is)
      ];
      few = c.take_turn.ensures.few;
      room = omega (arith, c.take_turn.ensures.room, c.loop-turn.invariant.room);
    }

pub returns-then-is_err-clause-played : goal.returns-then-is_err-clause-played
returns-then-is_err-clause-played g c =
    subst (λ (l : List TicketNumbers). HasPlayed g.C.Ledgers.config c.args.script.now (c.args.turns - c.args.turns) c.args.turns true c.args.port.now
    c.args.port.now (tokens_of_tickets c.args.tickets.now.items) (tokens_of_tickets l)) (sym c.reserve.ensures.items)
    (played_none g.C.Ledgers.config c.args.script.now (c.args.turns - c.args.turns) c.args.turns c.args.port.now
    (tokens_of_tickets c.args.tickets.now.items) (omega arith))

pub returns-in_default-clause-played : goal.returns-in_default-clause-played
returns-in_default-clause-played g c =
    played_all g.C.Ledgers.config c.args.script.now c.loop-turn.accepted c.loop-turn.turn _ _ c.args.port.now c.loop-turn.port
    (tokens_of_tickets c.args.tickets.now.items) (tokens_of_tickets c.loop-turn.tickets.items) c.loop-turn.invariant.playing
    (lines_over c.args.script.now c.loop-turn.accepted c.get.result c.get.ensures.lookup c.in_default.not-Some) (omega arith)

pub returns-in_default-take_turn-clause-played : goal.returns-in_default-take_turn-clause-played
returns-in_default-take_turn-clause-played g c =
    let h = tokens_of_tickets c.args.tickets.now.items in
    let k = tokens_of_tickets c.loop-turn.tickets.items in
    let m = tokens_of_tickets c.take_turn.new.tickets.items in
    let at = line_got c.args.script.now c.loop-turn.accepted c.get.result c.in-Some.line c.get.ensures.lookup c.in-Some.is in
    subst (λ (b : Bool). HasPlayed g.C.Ledgers.config c.args.script.now (c.args.turns - c.by.result.turns_left) c.by.result.turns_left b
    c.args.port.now c.take_turn.new.port h m) (sym c.by.ensures.memory)
    (played_last g.C.Ledgers.config c.args.script.now c.loop-turn.accepted c.loop-turn.turn (c.args.turns - c.by.result.turns_left) c.by.result.turns_left
    c.args.port.now c.loop-turn.port c.take_turn.new.port h k m c.in-Some.line.now c.take_turn.result c.loop-turn.invariant.playing at
    c.take_turn.ensures.turn c.in_default-take_turn.not-Accepted c.in_default-take_turn.not-Again (omega arith))

pub returns-clause-played : goal.returns-clause-played
returns-clause-played g c =
    played_out g.C.Ledgers.config c.args.script.now c.loop-turn.accepted c.loop-turn.turn (c.args.turns - 0) 0 c.args.port.now c.loop-turn.port
    (tokens_of_tickets c.args.tickets.now.items) (tokens_of_tickets c.loop-turn.tickets.items) c.loop-turn.invariant.playing (omega arith) refl
