use Rattle.std.proofs.Common.{◌≡◌, ◌∙◌, ◌++◌, ap, codes, false, rules, sym}
use Rattle.std.specs.Prelude.{if◌then◌else◌}
use Rattle.sva_script.proofs.WordLemmas.{on_ok_by}
use Rattle.sva_driver_texts.specs.Budgets.{is_pageless, is_unasked, is_unstarted}
use Rattle.sva_driver_reports.specs.Witness.{said_if}
use Rattle.sva_driver_reports.proofs.Rests.{joined}
use Rattle.sva_driver_reports.proofs.notes.put_unmade.Goals as goal

pub returns : goal.returns
returns c =
    let out = c.args.out.now.items in
    let device = c.args.device.now in
    let first = codes "; no ask or fault can be made: it has no page" in
    let second = codes "; no use can be made: nothing asks there" in
    let pageless = said_if (is_pageless device) first in
    let unasked = said_if (is_unasked c.args.lines.now c.args.endpoint device) second in
    let started : is_unstarted c.args.lines.now c.args.endpoint device ≡ false = search rules in
    on_ok_by c.put_if-2.result
    (λ put. joined out _ _ pageless unasked
    (c.in_ok-put_if.ensures ∙ ap (λ b. out ++ said_if b first) c.is_pageless-pageless.ensures)
    (put ∙ ap (λ b. c.put_if.new.out.items ++ said_if b second) c.is_unasked-unasked.ensures)
    ∙ ap (λ b. out ++ (if b then codes "; none can be made: no line starts a PASID there" else pageless ++ unasked))
    (sym started))
    c.put_if-2.ensures
