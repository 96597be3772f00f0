use Rattle.std.proofs.Common.{◌∙◌, ◌+◌, ◌-◌, ◌++◌, ap, sym, drop, rules, tests}
use Rattle.sva_command.specs.Command.{texts}
use Rattle.sva_command.specs.Files.{every}
use Rattle.sva_command.proofs.Parts.{all_chosen, chosen, passed, pushed}
use Rattle.sva_command.proofs.files.files_of.Goals.{then-before-eq0+in_ok-from_str+in_ok-push, else-before-eq0}
use Rattle.sva_command.proofs.files.files_of.Goals as goal

pub loop-place-preserved : goal.loop-place-preserved
loop-place-preserved c =
    let names = c.args.names.now in
    let place = c.loop-place.place in
    let rest = texts (drop (place + 1) names) in
    let list = c.loop-place.list.items in
    elim c.if-before-eq0.branch [
      | then-before-eq0+in_ok-from_str+in_ok-push w ↦
          let pushes = pushed list w.push.new.self.items c.index-names-place.result w.in_ok-from_str.field-0 _
          w.in_ok-push.ensures.items w.in_ok-from_str.ensures.ok
          c.as_str-name.ensures.value in
          ap (λ v. texts v.items ++ every c.args.part.count c.if-before-eq0.before rest) w.list-is
          ∙ ap (λ n. texts w.push.new.self.items ++ every c.args.part.count n rest)
          (w.before-is ∙ w.saturating_sub-before-then-before-eq0.ensures)
          ∙ ap (λ l. l ++ every c.args.part.count (c.args.part.count - 1) rest) pushes
          ∙ chosen names place c.index-names-place.result c.loop-place-test.true c.index-names-place.is c.args.part.count (texts list) _
          (sym (ap (λ n. texts list ++ every c.args.part.count n (texts (drop place names))) w.if-before-eq0.true) ∙ c.loop-place.invariant)
      | else-before-eq0 w ↦
          ap (λ v. texts v.items ++ every c.args.part.count c.if-before-eq0.before rest) w.list-is
          ∙ ap (λ n. texts list ++ every c.args.part.count n rest) w.before-is
          ∙ passed names place c.index-names-place.result c.loop-place-test.true c.index-names-place.is c.args.part.count c.loop-place.before (texts list) _
          (search (rules, tests)) c.loop-place.invariant
    ]

pub returns : goal.returns
returns c =
    all_chosen c.args.names.now c.loop-place.place c.loop-place-test.false c.args.part.count c.loop-place.before (texts c.loop-place.list.items) _
    c.loop-place.invariant
