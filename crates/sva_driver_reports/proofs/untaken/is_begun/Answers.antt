use Rattle.std.proofs.Common.{◌≡◌, ◌∙◌, ◌<◌, ◌≤◌, ap, length, rules, sym, true, false}
use Rattle.sva_driver_reports.specs.Untaken.{begins_with}
use Rattle.sva_driver_reports.proofs.UntakenLines.{begun_here, begun_more, begun_none}
use Rattle.sva_driver_reports.proofs.untaken.is_begun.Goals as goal

pub returns-then-begins_with : goal.returns-then-begins_with
returns-then-begins_with c =
    let inside : c.loop-place.place < length c.args.lines.now = search rules in
    let it_is : c.begins_with.result ≡ true = search rules in
    sym (begun_here c.args.taken.now c.args.number c.args.lines.now c.loop-place.place _ inside
    (ap (begins_with c.args.taken.now c.args.number c.loop-place.place) (sym c.index-lines-place.is) ∙ sym c.begins_with.ensures ∙ it_is))
    ∙ c.loop-place.invariant

pub loop-place-preserved : goal.loop-place-preserved
loop-place-preserved c =
    let inside : c.loop-place.place < length c.args.lines.now = search rules in
    let it_goes : c.begins_with.result ≡ false = search rules in
    sym (begun_more c.args.taken.now c.args.number c.args.lines.now c.loop-place.place _ inside
    (ap (begins_with c.args.taken.now c.args.number c.loop-place.place) (sym c.index-lines-place.is) ∙ sym c.begins_with.ensures ∙ it_goes))
    ∙ c.loop-place.invariant

pub returns : goal.returns
returns c =
    let past : length c.args.lines.now ≤ c.loop-place.place = search rules in
    sym (begun_none c.args.taken.now c.args.number c.args.lines.now c.loop-place.place past) ∙ c.loop-place.invariant
