use Rattle.std.proofs.Common.{◌∙◌, inl, inr, refl, subst}
use Rattle.sva_program.specs.Run.{RunsOnText}
use Rattle.sva_cli.specs.Cutting.{cut}
use Rattle.sva_cli.proofs.telling.tell_text.Goals as goal

pub returns-in-Ok : goal.returns-in-Ok
returns-in-Ok g c =
    let run = c.main_on.ensures in
    let old = g.O.Write.contents c.args.writer.now.inner in
    let new = g.O.Write.contents c.main_on.new.writer.inner in
    let asked = c.args.one.now.asked in inl (
      run.0,
      run.1,
      subst (λ name. RunsOnText asked name (cut c.args.one.now.after c.args.text.items) old new run.0) c.as_str-name.ensures.value
          (subst (λ text. RunsOnText asked c.as_str-name.result.now text old new run.0) (c.as_slice.ensures.value ∙ c.in-Ok.ensures) run.2),
      run.3,
      run.4,
    )

pub returns-in-Err : goal.returns-in-Err
returns-in-Err g c = inr (refl, (c.faulted.ensures.status, c.faulted.ensures.said))
