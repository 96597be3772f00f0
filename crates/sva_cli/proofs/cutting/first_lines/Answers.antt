use Rattle.std.proofs.Common.{◌≡◌, ◌==◌, get_or, refl, rules, true, false}
use Rattle.sva_cli.proofs.CutLemmas.{front_end, front_met, front_next}
use Rattle.sva_cli.proofs.cutting.first_lines.Goals as goal

pub returns-then-left-eq0 : goal.returns-then-left-eq0
returns-then-left-eq0 c =
    let none : (c.loop-place.left == 0) ≡ true = search rules in
    front_met c.args.text.now c.loop-place.place c.loop-place.left c.loop-place.front.items _ none c.loop-place.invariant

pub loop-place-preserved : goal.loop-place-preserved
loop-place-preserved c =
    let text = c.args.text.now in
    let some : (c.loop-place.left == 0) ≡ false = search rules in
    front_next text c.loop-place.place (get_or text c.loop-place.place 0) c.loop-place.left c.left_behind-left.result c.loop-place.front.items
    c.push.new.self.items _ c.loop-place-test.true refl some c.in_ok-push.ensures.items c.left_behind-left.ensures c.loop-place.invariant

pub returns : goal.returns
returns c =
    front_end c.args.text.now c.loop-place.place c.loop-place.left c.loop-place.front.items _ c.loop-place-test.false c.loop-place.invariant
