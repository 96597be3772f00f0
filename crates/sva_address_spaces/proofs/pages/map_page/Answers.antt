use Rattle.std.proofs.Common.{◌∙◌, set, sym}
use Rattle.sva_space.specs.Pages.{with_page}
use Rattle.sva_frames.specs.Frames.{Mapped}
use Rattle.sva_address_spaces.proofs.Counting.{balanced-map, balanced-is, balanced-none}
use Rattle.sva_address_spaces.proofs.Replies.{given_back, mapped_or_full, mapped_or_no_frame, mapped_or_no_memory, maps-page}
use Rattle.sva_address_spaces.proofs.pages.map_page.Goals as goal

pub returns-then-len-ge-MOST_MAPPED-clause-step : goal.returns-then-len-ge-MOST_MAPPED-clause-step
returns-then-len-ge-MOST_MAPPED-clause-step c =
    mapped_or_full c.args.space.now _ c.args.page c.len.result c.args.write c.mapped_or.result c.if-page-ge-PAGES.false c.len.ensures.len
    c.if-len-ge-MOST_MAPPED.true c.mapped_or.ensures

pub returns-in_default-clause-step : goal.returns-in_default-clause-step
returns-in_default-clause-step c =
    mapped_or_no_frame c.args.space.now c.args.pool.now c.take.new.self c.args.page c.len.result c.args.write c.mapped_or-in_default.result
    c.if-page-ge-PAGES.false c.len.ensures.len c.if-len-ge-MOST_MAPPED.false (sym c.take.ensures.lowest ∙ c.in_default.is) c.in_default.ensures.after
    c.mapped_or-in_default.ensures

pub returns-in-Ok-clause-step : goal.returns-in-Ok-clause-step
returns-in-Ok-clause-step c =
    maps-page c.args.space.now c.args.pool.now c.args.page c.len.result c.in-Some.frame c.number-number.result c.args.write c.map_new.new.self
    c.take.new.self c.if-page-ge-PAGES.false c.in-Ok.ensures.new c.len.ensures.len c.if-len-ge-MOST_MAPPED.false (sym c.in-Some.ensures.lowest)
    c.number-number.ensures c.in-Ok.ensures.ok c.in-Some.ensures.after

pub returns-in-Ok-clause-balanced : goal.returns-in-Ok-clause-balanced
returns-in-Ok-clause-balanced c =
    balanced-is c.args.space.now (with_page c.args.space.now c.args.page c.in-Some.frame c.args.write) c.map_new.new.self c.args.pool.now
    (set c.args.pool.now c.in-Some.frame Mapped) c.take.new.self c.in-Ok.ensures.ok c.in-Some.ensures.after
    (balanced-map c.args.space.now c.args.pool.now c.args.page c.in-Some.frame c.args.write c.len.ensures.rising c.in-Ok.ensures.new
    (sym c.in-Some.ensures.lowest))

pub returns-in-Err-clause-step : goal.returns-in-Err-clause-step
returns-in-Err-clause-step c =
    mapped_or_no_memory c.args.space.now c.args.pool.now c.args.page c.len.result c.in-Some.frame c.in-Err.unused c.args.write c.map_new.new.self
    c.take.new.self c.give.new.self c.in-Err.refusal c.if-page-ge-PAGES.false c.len.ensures.len c.if-len-ge-MOST_MAPPED.false
    (sym c.in-Some.ensures.lowest) c.in-Err.ensures.err.0 c.in-Err.ensures.same c.in-Some.ensures.after c.give.ensures c.in-Err.ensures.err.1

pub returns-in-Err-clause-balanced : goal.returns-in-Err-clause-balanced
returns-in-Err-clause-balanced c =
    balanced-is c.args.space.now c.args.space.now c.map_new.new.self c.args.pool.now c.args.pool.now c.give.new.self c.in-Err.ensures.same
    (given_back c.args.pool.now c.in-Some.frame c.in-Err.unused c.take.new.self c.give.new.self (sym c.in-Some.ensures.lowest) c.in-Err.ensures.err.0
    c.in-Some.ensures.after c.give.ensures)
    (balanced-none c.args.space.now c.args.pool.now)
