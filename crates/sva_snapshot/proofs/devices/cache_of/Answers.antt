use Rattle.std.proofs.Common.{◌≡◌, ◌≤◌, ap, map, sym, ◌∙◌, refl, arith, length}
use Rattle.std.specs.FinMap as finite
use Rattle.std.specs.FinMap.{len-entries}
use Rattle.std.proofs.lemmas.List.{take_all}
use Rattle.sva_frames.proofs.Entering.{past_end}
use Rattle.sva_parts_by_labels.specs.Device.{translation_seen}
use Rattle.sva_snapshot.specs.Shown.{cached_shown}
use Rattle.sva_snapshot.proofs.More.{shown_more}
use Rattle.sva_snapshot.proofs.devices.cache_of.Goals as goal

pub unreachable-requires : goal.unreachable-requires
unreachable-requires c =
    let long : finite.len c.args.cache.now ≡ length (finite.entries c.args.cache.now) = len-entries c.args.cache.now in
    let past = past_end (finite.entries c.args.cache.now) c.loop-place.place (sym c.at.ensures ∙ c.in_default.is) in
    omega (arith, long, past, c.len-place-end.ensures.count, c.loop-place-test.true)

pub loop-place-preserved : goal.loop-place-preserved
loop-place-preserved c =
    ap (map cached_shown) c.in_ok-push.ensures.items
    ∙ shown_more cached_shown translation_seen c.loop-place.translations.items
    (record { pasid = c.in-Some.pasid; page = c.in-Some.page; frame = c.in-Some.translation.frame; write = c.in-Some.translation.write })
    (finite.entries c.args.cache.now) c.loop-place.place ((c.in-Some.pasid, c.in-Some.page), c.in-Some.translation)
    (sym c.in-Some.ensures) c.loop-place.invariant refl

pub returns : goal.returns
returns c =
    let long : finite.len c.args.cache.now ≡ length (finite.entries c.args.cache.now) = len-entries c.args.cache.now in
    let all : length (finite.entries c.args.cache.now) ≤ c.loop-place.place = omega (arith, long, c.len-place-end.ensures.count, c.loop-place-test.false) in
    c.loop-place.invariant ∙ ap (map translation_seen) (take_all c.loop-place.place (finite.entries c.args.cache.now) all)
