use Rattle.sva_address_spaces.proofs.Taking.{Out}
use Rattle.sva_address_spaces.proofs.pages.take_out.Given as goal

abbrev pub invariant-loop-number : goal.invariant-loop-number
invariant-loop-number l = Out l.fn.space l.fn.pool l.waits l.page l.number l.space l.pool l.frames
