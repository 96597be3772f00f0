use Rattle.std.proofs.Common.{rules, ◌≡◌, ◌≤◌, ◌⊎◌, ap, inl, inr, Err, ◌∙◌, subst, sym}
use Rattle.clap.specs.Words.{HasKind, kind_of}
use Rattle.sva_streams.specs.declared.streams.DriveFault.TheVariants.{Memory}
use Rattle.sva_command.specs.Command.{Asks, faults_of, texts}
use Rattle.sva_command.specs.declared.command.Asked.TheVariants.{Explore, Judge}
use Rattle.sva_program.specs.Run.{Reports, is_strict, status_of}
use Rattle.sva_program.proofs.RunLemmas.{IsOfJudging, among_faults, asked_text, exploring_status, only_memory, ruling_status, steps_status}
use Rattle.sva_program.proofs.RunLemmas.{strictly, unwritten}
use Rattle.sva_command.proofs.CallLemmas.{help_unmistaken, no_command_asks, no_command_taken, version_unmistaken}
use Rattle.sva_command.proofs.TellLemmas.{one_alone, takes}
use Rattle.sva_program.proofs.run.main_with.Goals as goal

pub returns-in-Ok-clause-run : goal.returns-in-Ok-clause-run
returns-in-Ok-clause-run g c asked asks =
    let ran = c.perform-ended in
    let alone = one_alone asked c.in-Ok.asked (texts c.args.words.now) asks c.in-Ok.ensures.asked in (
      ran.result,
      c.finish.ensures.status ∙ ap (λ strict. status_of strict ran.result) (c.is_strict.ensures ∙ ap is_strict (sym alone)),
      subst (λ a. Reports a (g.R.Read.remaining c.args.reader.now.inner) (g.W.Write.contents c.args.writer.now.inner)
          (g.W.Write.contents ran.new.writer.inner) ran.result) (sym alone) ran.ensures.report,
      ran.ensures.cause,
      c.finish.ensures.said,
      c.finish.ensures.silent,
    )

pub returns-in-Ok-clause-no_command : goal.returns-in-Ok-clause-no_command
returns-in-Ok-clause-no_command g c few done = no_command_taken c.args.words.now few c.in-Ok.ensures.fails

pub returns-in-Ok-clause-status : goal.returns-in-Ok-clause-status
returns-in-Ok-clause-status g c other one =
    let ran = c.perform-ended in
    subst (λ status. status ≤ 2) (sym (c.finish.ensures.status ∙ ap (λ strict. status_of strict ran.result) c.is_strict.ensures))
    (steps_status c.in-Ok.asked _ _ _ ran.result
    (λ most whys few_ends is. other (most, whys, few_ends, subst (λ a. Asks a (texts c.args.words.now)) is c.in-Ok.ensures.asked))
    (λ run most strict all beside is. one (run, most, strict, all, beside, subst (λ a. Asks a (texts c.args.words.now)) is c.in-Ok.ensures.asked)) ran.ensures.report)

pub returns-in-Ok-clause-explored : goal.returns-in-Ok-clause-explored
returns-in-Ok-clause-explored g c (most, whys, few_ends, asks) =
    let ran = c.perform-ended in
    let alone = one_alone (Explore most whys few_ends) c.in-Ok.asked (texts c.args.words.now) asks c.in-Ok.ensures.asked in
    let strict = c.is_strict.ensures ∙ ap is_strict (sym alone) in
    subst (λ status. (status ≡ 0) ⊎ (status ≡ 1) ⊎ (status ≡ 4) ⊎ (status ≡ 5))
    (sym (c.finish.ensures.status ∙ ap (λ strict. status_of strict ran.result) strict))
    (exploring_status most whys few_ends _ _ _ ran.result
    (subst (λ a. Reports a (g.R.Read.remaining c.args.reader.now.inner) (g.W.Write.contents c.args.writer.now.inner)
    (g.W.Write.contents ran.new.writer.inner) ran.result) (sym alone) ran.ensures.report))

pub returns-in-Err-clause-explored : goal.returns-in-Err-clause-explored
returns-in-Err-clause-explored g c (most, whys, few_ends, asks) =
    let fails : HasKind (faults_of (texts c.args.words.now)) c.in-Err.error = search rules in
    let memory = c.answer.ensures.memory (c.kind.ensures ∙ only_memory _ c.in-Err.error (takes (Explore most whys few_ends) _ asks) fails) in
    inr (inl memory.0)

pub returns-in-Ok-clause-judged : goal.returns-in-Ok-clause-judged
returns-in-Ok-clause-judged g c (run, most, strict, all, beside, asks) =
    let ran = c.perform-ended in
    let alone = one_alone (Judge run most strict all beside) c.in-Ok.asked (texts c.args.words.now) asks c.in-Ok.ensures.asked in
    let is = c.is_strict.ensures ∙ ap is_strict (sym alone) in
    strictly run most strict all beside _ _ asks (subst (IsOfJudging strict) (sym (c.finish.ensures.status ∙ ap (λ strict. status_of strict ran.result) is))
    (ruling_status run most strict all beside _ _ _ ran.result
    (subst (λ a. Reports a (g.R.Read.remaining c.args.reader.now.inner) (g.W.Write.contents c.args.writer.now.inner)
    (g.W.Write.contents ran.new.writer.inner) ran.result) (sym alone) ran.ensures.report)))

pub returns-in-Err-clause-judged : goal.returns-in-Err-clause-judged
returns-in-Err-clause-judged g c (run, most, strict, all, beside, asks) =
    let fails : HasKind (faults_of (texts c.args.words.now)) c.in-Err.error = search rules in
    let memory = c.answer.ensures.memory (c.kind.ensures ∙ only_memory _ c.in-Err.error (takes (Judge run most strict all beside) _ asks) fails) in
    inr (inl memory.0)

pub returns-in-Err-clause-run : goal.returns-in-Err-clause-run
returns-in-Err-clause-run g c asked asks =
    let fails : HasKind (faults_of (texts c.args.words.now)) c.in-Err.error = search rules in
    let memory = c.answer.ensures.memory (c.kind.ensures ∙ only_memory _ c.in-Err.error (takes asked _ asks) fails) in (
      Err Memory,
      memory.0,
      unwritten asked _ _ _ (ap (λ told. g.W.Write.contents told.inner) memory.1),
      (c.requires.reader.1, ap (λ told. told.failures) memory.1 ∙ c.requires.writer.1),
      memory.2,
      tt,
    )

pub returns-in-Err-clause-help : goal.returns-in-Err-clause-help
returns-in-Err-clause-help g c other done =
    let fails : HasKind (faults_of (texts c.args.words.now)) c.in-Err.error = search rules in
    let help = c.answer.ensures.help done in
    (asked_text _ c.in-Err.error fails c.kind.result c.kind.ensures help.0, help.1, help.2, (help.3.0, help.3.1.0, help.3.2))

pub returns-in-Err-clause-mistake : goal.returns-in-Err-clause-mistake
returns-in-Err-clause-mistake g c two =
    let fails : HasKind (faults_of (texts c.args.words.now)) c.in-Err.error = search rules in
    let mistake = c.answer.ensures.mistake two in (
      (
        kind_of c.in-Err.error,
        λ help. mistake.1 (c.kind.ensures ∙ help),
        λ version. mistake.2 (c.kind.ensures ∙ version),
        among_faults _ c.in-Err.error fails (λ memory. mistake.0 (c.kind.ensures ∙ memory)),
      ),
      mistake.3,
      (mistake.4.0, mistake.4.1.0, mistake.4.2),
    )

pub returns-in-Err-clause-silent : goal.returns-in-Err-clause-silent
returns-in-Err-clause-silent g c other unasked =
    let fails : HasKind (faults_of (texts c.args.words.now)) c.in-Err.error = search rules in
    c.answer.ensures.silent
    (λ help. unasked (asked_text _ c.in-Err.error fails c.kind.result c.kind.ensures (inl help)))
    (λ version. unasked (asked_text _ c.in-Err.error fails c.kind.result c.kind.ensures (inr version)))

pub returns-in-Err-clause-calls_help : goal.returns-in-Err-clause-calls_help
returns-in-Err-clause-calls_help g c calls two = help_unmistaken _ calls (returns-in-Err-clause-mistake g c two).0

pub returns-in-Err-clause-calls_version : goal.returns-in-Err-clause-calls_version
returns-in-Err-clause-calls_version g c calls two = version_unmistaken _ calls (returns-in-Err-clause-mistake g c two).0

pub returns-in-Err-clause-no_command : goal.returns-in-Err-clause-no_command
returns-in-Err-clause-no_command g c few done =
    let fails : HasKind (faults_of (texts c.args.words.now)) c.in-Err.error = search rules in
    no_command_asks c.args.words.now few (asked_text _ c.in-Err.error fails c.kind.result c.kind.ensures (c.answer.ensures.help done).0)
