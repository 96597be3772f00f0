use Rattle.std.proofs.Common.{rules, ◌≡◌, ◌<◌, ◌≤◌, true, false, sym, ◌∙◌, arith}
use Rattle.std.specs.List.{list_any}
use Rattle.sva_open.specs.Units.{has_itag}
use Rattle.sva_open_acts.proofs.Itags.{found, found_none, goes_on}
use Rattle.sva_open_acts.proofs.pumping.free_itag.Goals as goal

pub returns-then-not-is_busy : goal.returns-then-not-is_busy
returns-then-not-is_busy c =
    let low : c.loop-itag.itag < 32 = omega (arith, c.loop-itag-test.true) in
    let free : list_any (has_itag c.loop-itag.itag) c.args.issued.now ≡ false = search rules in
    sym (found c.args.issued.now c.loop-itag.itag low free) ∙ c.loop-itag.invariant

pub loop-itag-preserved : goal.loop-itag-preserved
loop-itag-preserved c =
    let low : c.loop-itag.itag < 32 = omega (arith, c.loop-itag-test.true) in
    let busy : list_any (has_itag c.loop-itag.itag) c.args.issued.now ≡ true = search rules in
    goes_on c.args.issued.now c.loop-itag.itag low busy ∙ c.loop-itag.invariant

pub returns : goal.returns
returns c =
    let high : 32 ≤ c.loop-itag.itag = omega (arith, c.loop-itag-test.false) in
    sym (found_none c.args.issued.now c.loop-itag.itag high) ∙ c.loop-itag.invariant
