use Rattle.std.proofs.Common.{◌≡◌, ◌≤◌, vec_len, vec_capacity}
use Rattle.sva_fabric.specs.LoopTokens.{tokens_of_tickets}
use Rattle.sva_fabric.proofs.Tries.{IsPlaying}
use Rattle.sva_fabric.proofs.loops.using.play.Given as goal

abbrev pub invariant-loop-turn : goal.invariant-loop-turn
invariant-loop-turn g l = record {
  playing : IsPlaying l.script l.accepted l.turn l.fn.port l.port (tokens_of_tickets l.fn.tickets.items) (tokens_of_tickets l.tickets.items);
  few : vec_len l.tickets ≤ 16;
  room : 16 ≤ vec_capacity l.tickets;
}
