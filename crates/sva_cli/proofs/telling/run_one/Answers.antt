use Rattle.std.proofs.Common.{◌≡◌, inl, inr, refl, rules, subst, sym, true, false}
use Rattle.std.specs.Prelude.{string_bytes}
use Rattle.sva_program.specs.Run.{is_streamed}
use Rattle.sva_cli.specs.Reading.{IsRead}
use Rattle.sva_cli.specs.Telling.{RunsBy, StreamsOne, TellsUnreadable}
use Rattle.sva_several.specs.declared.given.Given.TheVariants as given
use Rattle.sva_cli.proofs.telling.run_one.Goals as goal

pub returns-then-is_streamed : goal.returns-then-is_streamed
returns-then-is_streamed g c =
    let it : is_streamed c.args.one.now.asked ≡ true = search rules in
    let opened = g.S.Opens.opened c.args.opens.now in
    let fails = g.S.Opens.fails c.args.opens.now in
    let input = g.I.Read.remaining c.args.input.now.inner in
    subst (λ is. RunsBy opened g.S.File.Read.remaining fails input g.O.Write.contents g.E.Write.contents c.args.writer.now c.stream_one.new.writer
    c.args.errors.now c.stream_one.new.errors c.stream_one.result is c.args.one.now) (sym it)
    (subst (λ name. StreamsOne opened g.S.File.Read.remaining fails input g.O.Write.contents g.E.Write.contents c.args.writer.now
    c.stream_one.new.writer c.args.errors.now c.stream_one.new.errors c.stream_one.result c.args.one.now.asked name) c.as_str-file.ensures.value
    c.stream_one.ensures)

pub returns-in-Ok-Text : goal.returns-in-Ok-Text
returns-in-Ok-Text g c =
    let other : is_streamed c.args.one.now.asked ≡ false = search rules in
    let opened = g.S.Opens.opened c.args.opens.now in
    let fails = g.S.Opens.fails c.args.opens.now in
    let input = g.I.Read.remaining c.args.input.now.inner in
    subst (λ is. RunsBy opened g.S.File.Read.remaining fails input g.O.Write.contents g.E.Write.contents c.args.writer.now c.tell_text.new.writer
    c.args.errors.now c.tell_text.new.errors c.tell_text.result is c.args.one.now) (sym other) (inl (
      given.Text c.in-Ok-Text.text,
      subst (λ name. IsRead opened g.S.File.Read.remaining fails input name (given.Text c.in-Ok-Text.text)) c.as_str-file.ensures.value
          (search rules),
      c.tell_text.ensures,
    ))

pub returns-in-Ok-Unread : goal.returns-in-Ok-Unread
returns-in-Ok-Unread g c =
    let other : is_streamed c.args.one.now.asked ≡ false = search rules in
    let opened = g.S.Opens.opened c.args.opens.now in
    let fails = g.S.Opens.fails c.args.opens.now in
    let input = g.I.Read.remaining c.args.input.now.inner in
    let lack = c.in-Ok-Unread.lack in
    subst (λ is. RunsBy opened g.S.File.Read.remaining fails input g.O.Write.contents g.E.Write.contents c.args.writer.now c.args.writer.now
    c.args.errors.now c.mistaken.new.errors c.mistaken.result is c.args.one.now) (sym other) (inl (
      given.Unread lack,
      subst (λ name. IsRead opened g.S.File.Read.remaining fails input name (given.Unread lack)) c.as_str-file.ensures.value (search rules),
      (
        refl,
        subst (λ name. TellsUnreadable g.E.Write.contents c.args.errors.now c.mistaken.new.errors c.mistaken.result name lack)
            c.as_str-file.ensures.value (c.unreadable.result, c.unreadable.ensures, c.mistaken.ensures),
      ),
    ))

pub returns-in-Err : goal.returns-in-Err
returns-in-Err g c =
    let other : is_streamed c.args.one.now.asked ≡ false = search rules in
    subst (λ is. RunsBy (g.S.Opens.opened c.args.opens.now) g.S.File.Read.remaining (g.S.Opens.fails c.args.opens.now)
    (g.I.Read.remaining c.args.input.now.inner) g.O.Write.contents g.E.Write.contents c.args.writer.now c.args.writer.now c.args.errors.now
    c.faulted.new.errors c.faulted.result is c.args.one.now) (sym other) (inr (refl, (c.faulted.ensures.status, c.faulted.ensures.said)))
