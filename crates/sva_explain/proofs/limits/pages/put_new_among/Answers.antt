use Rattle.std.proofs.Common.{false}
use Rattle.sva_address_spaces.specs.Seen.{pages_seen}
use Rattle.sva_prq.specs.declared.jobs.Ask.{Ask}
use Rattle.sva_explain.proofs.NewPages.{told_next}
use Rattle.sva_explain.proofs.limits.pages.put_new_among.Goals as goal

-- what stands past the end
blank : Ask
blank = record { page = 0; read = false; write = false }

pub loop-place-preserved : goal.loop-place-preserved
unfolding blank
loop-place-preserved c =
    told_next (pages_seen c.args.pages.now) c.args.asks.now c.loop-place.place blank c.is_known.result c.args.out.now.items c.loop-place.out.items
    c.put_page_unless.new.out.items c.loop-place-test.true c.is_known.ensures c.loop-place.invariant c.in_ok-put_page_unless.ensures
