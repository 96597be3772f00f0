use Rattle.std.proofs.Common.{◌≡◌, ◌==◌, ◌<◌, ◌≤◌, ◌∙◌, sym, length, arith, rules, true, false, get_or}
use Rattle.sva_script.specs.Near.{is_one_off}
use Rattle.sva_script.proofs.NearWordLemmas.{one_off_next, one_off_here, one_off_end, one_off_other_end}
use Rattle.sva_script.proofs.nearest.is_one_off.Goals as goal
use Rattle.sva_script.proofs.nearest.is_one_off.Goals.{then-loop-rest-test+else-not-is_empty, else-loop-rest-test}

pub returns-then-rest-other_rest : goal.returns-then-rest-other_rest
returns-then-rest-other_rest c =
    let some : 0 < length c.loop-rest.rest.now = search rules in
    let more : 0 < length c.loop-rest.other_rest.now = search rules in
    let differ : (get_or c.loop-rest.rest.now 0 0 == get_or c.loop-rest.other_rest.now 0 0) ≡ false = search rules in
    c.is_changed.ensures ∙ sym (one_off_here c.loop-rest.rest.now c.loop-rest.other_rest.now some more differ) ∙ c.loop-rest.invariant

pub loop-rest-preserved : goal.loop-rest-preserved
loop-rest-preserved c =
    let some : 0 < length c.loop-rest.rest.now = search rules in
    let more : 0 < length c.loop-rest.other_rest.now = search rules in
    let same : (get_or c.loop-rest.rest.now 0 0 == get_or c.loop-rest.other_rest.now 0 0) ≡ true = search rules in
    (λ i. is_one_off (c.behind_first-rest.ensures i) (c.behind_first-other_rest.ensures i))
    ∙ sym (one_off_next c.loop-rest.rest.now c.loop-rest.other_rest.now some more same) ∙ c.loop-rest.invariant

pub returns-then-is_empty : goal.returns-then-is_empty
returns-then-is_empty c =
    let none : length c.loop-rest.rest.now ≤ 0 = search rules in
    sym (one_off_end c.loop-rest.rest.now c.loop-rest.other_rest.now none) ∙ c.loop-rest.invariant

pub returns-else-is_empty : goal.returns-else-is_empty
returns-else-is_empty c =
    let some : 0 < length c.loop-rest.rest.now = search rules in
    elim c.loop-rest-test.branch [
      | then-loop-rest-test+else-not-is_empty w ↦
          (let none : length c.loop-rest.other_rest.now ≤ 0 = search rules in
          sym (one_off_other_end c.loop-rest.rest.now c.loop-rest.other_rest.now some none) ∙ c.loop-rest.invariant)
      | else-loop-rest-test w ↦ (let none : length c.loop-rest.rest.now ≤ 0 = search rules in absurd (omega (arith, some, none)))
    ]
