use Rattle.std.proofs.Common.{inl, inr, refl, subst}
use Rattle.sva_several.specs.Told.{TellsAll}
use Rattle.sva_cli.specs.Reading.{HaveGiven}
use Rattle.sva_cli.proofs.telling.search_on.Goals as goal

pub returns-in-Ok : goal.returns-in-Ok
returns-in-Ok g c =
    let opened = g.S.Opens.opened c.args.opens.now in
    let fails = g.S.Opens.fails c.args.opens.now in
    let input = g.I.Read.remaining c.args.input.now.inner in
    let old = g.O.Write.contents c.args.writer.now.inner in
    let new = g.O.Write.contents c.tell_all-told.new.writer.inner in
    let wanted = c.args.several.now.wanted in inl (
      c.in-Ok.texts.items,
      subst (λ names. HaveGiven opened g.S.File.Read.remaining fails input names c.in-Ok.texts.items) c.as_slice-names.ensures.value c.in-Ok.ensures,
      c.tell_all-told.result,
      subst (λ names. TellsAll wanted names c.in-Ok.texts.items old new c.tell_all-told.result) c.as_slice-names.ensures.value
          (subst (λ texts. TellsAll wanted c.as_slice-names.result.now texts old new c.tell_all-told.result) c.as_slice.ensures.value
          c.tell_all-told.ensures.told),
      c.tell_all-told.ensures.tells,
      c.ended.ensures,
    )

pub returns-in-Err : goal.returns-in-Err
returns-in-Err g c = inr (refl, (c.faulted.ensures.status, c.faulted.ensures.said))
