use Rattle.std.proofs.Common.{◌≡◌, Bool, true, List, Some, None, ap, sym, ◌∙◌, arith, if◌then◌else◌, is_ok, insert, position}
use Rattle.std.proofs.lemmas.Grind.{common_steps}
use Rattle.sva_prq.specs.Groups.{OpenGroup}
use Rattle.sva_prq.specs.Slots.{is_behind}
use Rattle.sva_prq.proofs.Placed.{inserted, pushed}
use Rattle.sva_prq.proofs.reading.put.Goals as goal

pub returns-else-is_err : goal.returns-else-is_err
returns-else-is_err c =
    let ok : is_ok c.insert.result ≡ true = grind (arith, common_steps) in
    c.insert.ensures.items
    ∙ ap (λ (b : Bool). if b then insert c.args.groups.now.items c.in-Some.place c.args.group else c.args.groups.now.items) ok
    ∙ inserted c.args.group c.args.groups.now.items c.in-Some.place
    (ap (λ (gs : List OpenGroup). position (is_behind c.args.group.serial) gs) (sym c.as_slice.ensures.value) ∙ sym c.in-Some.ensures)

pub returns-in_ok-push-in-None : goal.returns-in_ok-push-in-None
returns-in_ok-push-in-None c =
    c.in_ok-push-in-None.ensures.items
    ∙ pushed c.args.group c.args.groups.now.items
    (ap (λ (gs : List OpenGroup). position (is_behind c.args.group.serial) gs) (sym c.as_slice.ensures.value) ∙ sym c.in-None.ensures)
