use Rattle.std.proofs.Common.{◌∙◌, ap, get_or, refl}
use Rattle.std.proofs.lemmas.List.{take_rest}
use Rattle.sva_located.specs.Columns.{is_told}
use Rattle.sva_located.proofs.LineLemmas.{column_end, column_next}
use Rattle.sva_located.proofs.columns.columns_of.Goals as goal

pub loop-place-preserved : goal.loop-place-preserved
loop-place-preserved c =
    let told = c.args.told.now in
    let line = c.args.line.now in
    let place = c.loop-place.place in
    column_next told line place (get_or line place 0) c.loop-place.begins_word _ c.in_ok-is_one.is_one c.loop-place.found.items c.put_column.new.found.items _
    c.loop-place-test.true refl (c.in_ok-is_one.ensures ∙ ap (is_told told c.loop-place.begins_word) (take_rest line place)) c.in_ok-put_column.ensures refl
    c.loop-place.invariant

pub returns : goal.returns
returns c =
    column_end c.args.told.now c.args.line.now c.loop-place.place c.loop-place.begins_word c.loop-place.found.items _ c.loop-place-test.false
    c.loop-place.invariant
