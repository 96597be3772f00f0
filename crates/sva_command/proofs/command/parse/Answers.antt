use Rattle.std.proofs.Common.{◌≡◌, ◌∙◌, ap, subst, sym, true, []}
use Rattle.clap.specs.Words.{App, FailsBy, HasKind, HasMatchesOf, fault_of}
use Rattle.clap.specs.Faults.{is_simple_and_free}
use Rattle.sva_command.specs.Command.{own_faults, texts}
use Rattle.sva_command.proofs.LineLemmas.{is_free}
use Rattle.sva_command.proofs.TellLemmas.{asked_meant, asks_entered, faulted, own_alone}
use Rattle.sva_command.proofs.command.parse.Goals as goal

pub returns-in-Ok-clause-fails : goal.returns-in-Ok-clause-fails
returns-in-Ok-clause-fails c =
    let words = texts c.args.words.now in
    let none = subst (λ (a : App). is_simple_and_free a ≡ true → fault_of a words ≡ []) c.in_ok-command.ensures c.in-Ok.ensures.kinds is_free in
    let has = subst (λ (a : App). HasMatchesOf a words c.in-Ok.matches) c.in_ok-command.ensures c.in-Ok.ensures.matches in
    let entered = asks_entered words c.in-Ok.matches c.entered.result none has c.entered.ensures in
    subst (λ kinds. FailsBy kinds c.meant.result) (ap own_faults entered.1 ∙ sym (own_alone words none)) c.meant.ensures.fails

pub returns-in-Ok-clause-asked : goal.returns-in-Ok-clause-asked
returns-in-Ok-clause-asked c =
    let words = texts c.args.words.now in
    let none = subst (λ (a : App). is_simple_and_free a ≡ true → fault_of a words ≡ []) c.in_ok-command.ensures c.in-Ok.ensures.kinds is_free in
    let has = subst (λ (a : App). HasMatchesOf a words c.in-Ok.matches) c.in_ok-command.ensures c.in-Ok.ensures.matches in
    let entered = asks_entered words c.in-Ok.matches c.entered.result none has c.entered.ensures in
    asked_meant words c.entered.result c.meant.result entered.0 c.meant.ensures.fails c.meant.ensures.asked

pub returns-in-Err-clause-fails : goal.returns-in-Err-clause-fails
returns-in-Err-clause-fails c =
    let words = texts c.args.words.now in
    faulted words c.in-Err.error
    (subst (λ (a : App). is_simple_and_free a ≡ true → HasKind (fault_of a words) c.in-Err.error) c.in_ok-command.ensures c.in-Err.ensures.kinds is_free)
