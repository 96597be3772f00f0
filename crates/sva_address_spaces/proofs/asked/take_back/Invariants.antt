use Rattle.sva_address_spaces.proofs.Mapping.{AreBack}
use Rattle.sva_address_spaces.proofs.asked.take_back.Given as goal

-- so many pages are left to be taken back
abbrev pub invariant-loop-number : goal.invariant-loop-number
invariant-loop-number l = AreBack l.pages l.fn.space l.fn.pool l.number l.space l.pool
