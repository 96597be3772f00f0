use Rattle.std.proofs.Common.{◌∙◌, ◌++◌, ap, arith}
use Rattle.sva_several.specs.Lines.{told_text}
use Rattle.sva_several.proofs.Walks.{names_end, texts_end, told_end, told_next}
use Rattle.sva_several.proofs.reporting.put_lines.Goals as goal

pub returns-then-place-names : goal.returns-then-place-names
returns-then-place-names c =
    names_end c.args.search c.args.names.now c.args.texts.now c.args.all.now c.loop-place.place c.loop-place.out.items _ c.if-place-names.true
    c.loop-place.invariant

pub returns-then-place-texts : goal.returns-then-place-texts
returns-then-place-texts c =
    texts_end c.args.search c.args.names.now c.args.texts.now c.args.all.now c.loop-place.place c.loop-place.out.items _ c.if-place-texts.true
    c.loop-place.invariant

pub loop-place-preserved : goal.loop-place-preserved
loop-place-preserved c =
    let out = c.loop-place.out.items in
    let given = c.index-texts-place.result in
    let found = c.index-all-place.result in
    told_next c.args.search c.args.names.now c.args.texts.now c.args.all.now c.loop-place.place c.index-names-place.result given found out
    c.put_told.new.out.items _ (omega (arith, c.if-place-names.false)) (omega (arith, c.if-place-texts.false)) c.loop-place-test.true
    c.index-names-place.is c.index-texts-place.is c.index-all-place.is
    (c.in_ok-put_told.ensures ∙ ap (λ name. out ++ told_text c.args.search name given found) c.as_bytes.ensures.value)
    c.loop-place.invariant

pub returns : goal.returns
returns c =
    told_end c.args.search c.args.names.now c.args.texts.now c.args.all.now c.loop-place.place c.loop-place.out.items _ c.loop-place-test.false
    c.loop-place.invariant
