use Rattle.std.proofs.Common.{sym}
use Rattle.sva_address_spaces.proofs.Replies.{given_back}
use Rattle.sva_address_spaces.proofs.asked.map_new.Goals as goal

pub returns-in-Err-clause-err : goal.returns-in-Err-clause-err
returns-in-Err-clause-err c = (
  c.in-Err.ensures.err.0,
  given_back c.args.pool.now c.in-Some.frame c.in-Err.unused c.take.new.self c.give.new.self
      (sym c.in-Some.ensures.lowest) c.in-Err.ensures.err.1 c.in-Some.ensures.after c.give.ensures,
)
