use Rattle.std.proofs.Common.{◌≡◌, inl, inr, refl, rules, subst, sym, true, false}
use Rattle.sva_program.specs.Run.{Reports}
use Rattle.sva_cli.specs.Inputs.{is_input}
use Rattle.sva_cli.specs.Telling.{StreamsBy}
use Rattle.sva_cli.proofs.telling.stream_one.Goals as goal

pub returns-then-is_input : goal.returns-then-is_input
returns-then-is_input g c =
    let run = c.main_of.ensures in
    let it : is_input c.args.file.now ≡ true = search rules in
    subst (λ is. StreamsBy (g.S.Opens.opened c.args.opens.now) g.S.File.Read.remaining (g.S.Opens.fails c.args.opens.now)
    (g.I.Read.remaining c.args.input.now.inner) g.O.Write.contents g.E.Write.contents c.args.writer.now c.main_of.new.writer c.args.errors.now
    c.main_of.new.errors c.main_of.result is c.args.asked c.args.file.now) (sym it) (run.0, run.1, run.2, run.4, run.5)

pub returns-in-Ok : goal.returns-in-Ok
returns-in-Ok g c =
    let run = c.main_of-in-Ok.ensures in
    let other : is_input c.args.file.now ≡ false = search rules in
    subst (λ is. StreamsBy (g.S.Opens.opened c.args.opens.now) g.S.File.Read.remaining (g.S.Opens.fails c.args.opens.now)
    (g.I.Read.remaining c.args.input.now.inner) g.O.Write.contents g.E.Write.contents c.args.writer.now c.main_of-in-Ok.new.writer c.args.errors.now
    c.main_of-in-Ok.new.errors c.main_of-in-Ok.result is c.args.asked c.args.file.now) (sym other) (inl (
      c.in-Ok.stream,
      c.in-Ok.ensures.opened,
      (
        run.0,
        run.1,
        subst (λ input. Reports c.args.asked (g.S.File.Read.remaining input) (g.O.Write.contents c.args.writer.now.inner)
            (g.O.Write.contents c.main_of-in-Ok.new.writer.inner) run.0) c.new.ensures.inner run.2,
        run.4,
        run.5,
      ),
    ))

pub returns-in-Err : goal.returns-in-Err
returns-in-Err g c =
    let other : is_input c.args.file.now ≡ false = search rules in
    subst (λ is. StreamsBy (g.S.Opens.opened c.args.opens.now) g.S.File.Read.remaining (g.S.Opens.fails c.args.opens.now)
    (g.I.Read.remaining c.args.input.now.inner) g.O.Write.contents g.E.Write.contents c.args.writer.now c.args.writer.now c.args.errors.now
    c.mistaken.new.errors c.mistaken.result is c.args.asked c.args.file.now) (sym other)
    (inr (c.in-Err.lack, c.in-Err.ensures.fails, refl, (c.unreadable.result, c.unreadable.ensures, c.mistaken.ensures)))
