use Rattle.std.proofs.Common.{◌<◌, ◌≤◌, length, rules}
use Rattle.sva_driver_texts.proofs.Lists.{piece_end, piece_next}
use Rattle.sva_variants.specs.Needed.{other_text}
use Rattle.sva_variants.proofs.telling.put_others.Goals as goal

pub loop-place-preserved : goal.loop-place-preserved
loop-place-preserved c =
    let inside : c.loop-place.place < length c.args.others.now = search rules in
    piece_next other_text c.args.others.now c.loop-place.place _ c.loop-place.out.items c.put_other.new.out.items _ inside
    c.loop-place.invariant
    c.in_ok-put_other.ensures

pub returns : goal.returns
returns c =
    let past : length c.args.others.now ≤ c.loop-place.place = search rules in
    piece_end other_text c.args.others.now c.loop-place.place c.loop-place.out.items _ past c.loop-place.invariant
