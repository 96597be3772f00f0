use Rattle.sva_address_spaces.proofs.Ranges.{LeavingFrom}
use Rattle.sva_address_spaces.proofs.pages.take_mapped.Given as goal

abbrev pub invariant-loop-turn : goal.invariant-loop-turn
invariant-loop-turn l = LeavingFrom l.fn.space l.fn.pool l.waits l.page l.count l.space l.pool l._turn l.next
