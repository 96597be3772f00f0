use Rattle.std.proofs.Common.{sym, ap, ◌∙◌, set}
use Rattle.sva_frames.specs.Frames.{after_waits}
use Rattle.sva_address_spaces.proofs.Taking.{none_out, never_missing, one_more_out, next_mapped}
use Rattle.sva_address_spaces.proofs.pages.take_out.Goals as goal

pub loop-number-init : goal.loop-number-init
loop-number-init c =
    none_out c.args.space.now c.args.pool.now c.args.waits.now c.args.page c.new-frames.result c.new-frames.ensures c.len-pages.ensures.rising c.requires.room

pub unreachable-requires : goal.unreachable-requires
unreachable-requires c =
    never_missing c.args.space.now c.loop-number.space c.args.page c.loop-number.number c.args.count c.loop-number.invariant.went.pages
    c.requires.mapped c.loop-number-test.true (sym c.unmap.ensures.value ∙ c.in_default.is)

pub withhold-requires-clause-mapped : goal.withhold-requires-clause-mapped
withhold-requires-clause-mapped c =
    next_mapped c.args.space.now c.loop-number.space c.args.pool.now c.loop-number.pool c.args.waits.now c.args.page c.loop-number.number
    c.in-Some.taken c.in-Some._write c.requires.owned c.loop-number.invariant.went (sym c.in-Some.ensures.value)

pub loop-number-preserved : goal.loop-number-preserved
loop-number-preserved c =
    one_more_out c.args.space.now c.loop-number.space c.unmap.new.self c.args.pool.now c.loop-number.pool c.withhold.new.self c.args.waits.now
    c.args.page c.loop-number.number c.in-Some.taken c.number.result c.in-Some._write c.loop-number.frames c.push.new.self
    c.len-pages.ensures.rising c.requires.owned c.loop-number.invariant (sym c.in-Some.ensures.value) c.number.ensures c.push.ensures
    c.unmap.ensures.after c.unmap.ensures.rising
    (c.withhold.ensures ∙ ap (λ ts. set c.loop-number.pool c.in-Some.taken (after_waits ts)) c.copied.ensures)
