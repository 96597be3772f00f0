use Rattle.std.proofs.Common.{◌≡◌, ◌∙◌, ◌++◌, ap, length, rules, subst, sym}
use Rattle.std.specs.Prelude.{Err, IfOk, OnOk}
use Rattle.sva_driver_texts.specs.Texts.{behind_first}
use Rattle.sva_driver_reports.specs.Judged.{Ran, count_taken, nothing_wrong, ran_of, ran_to, refused_run, right_run, unsafe_run}
use Rattle.sva_driver_reports.proofs.judging.run_lines.Goals as goal

pub returns-in_ok-put_nothing_wrong-in-Ok : goal.returns-in_ok-put_nothing_wrong-in-Ok
returns-in_ok-put_nothing_wrong-in-Ok c =
    let read = c.args.read.now in
    let counted : c.len-count.result ≡ length c.args.read.now.opening.lines.items = search rules in
    let taken : c.count_taken-taken.result ≡ count_taken c.in-Ok.spot.taken = search rules in
    let whole : right_run c.args.read.now c.in-Ok.spot ≡ ran_of c.args.read.now = ap (ran_to read)
    (sym c.in-Ok.is ∙ c.in_ok-spot.ensures ∙ ap (behind_first read.opening) counted) in
    record {
      said = ap (λ (ran : Ran). ran.said) whole;
      text = c.in_ok-put_nothing_wrong-in-Ok.ensures ∙ ap (λ n. c.args.out.now.items ++ nothing_wrong n read.is_race) taken
          ∙ ap (λ (ran : Ran). c.args.out.now.items ++ ran.text) whole;
    }

pub returns-in_ok-put_refused-in-Err-Refused : goal.returns-in_ok-put_refused-in-Err-Refused
returns-in_ok-put_refused-in-Err-Refused c =
    let read = c.args.read.now in
    let counted : c.len-count.result ≡ length c.args.read.now.opening.lines.items = search rules in
    let whole : refused_run c.args.read.now c.in-Err-Refused.place ≡ ran_of c.args.read.now = ap (ran_to read)
    (ap Err (sym c.in-Err-Refused.field-0-is) ∙ sym c.in-Err-Refused.is ∙ c.in_ok-spot.ensures ∙ ap (behind_first read.opening) counted) in
    record {
      said = ap (λ (ran : Ran). ran.said) whole;
      text = c.in_ok-put_refused-in-Err-Refused.ensures ∙ ap (λ (ran : Ran). c.args.out.now.items ++ ran.text) whole;
    }

pub returns-in-Err-Leaks : goal.returns-in-Err-Leaks
returns-in-Err-Leaks c =
    let read = c.args.read.now in
    let counted : c.len-count.result ≡ length c.args.read.now.opening.lines.items = search rules in
    let whole : unsafe_run c.in-Err-Leaks.number c.in-Err-Leaks.wrong ≡ ran_of c.args.read.now = ap (ran_to read)
    (ap Err (sym c.in-Err-Leaks.field-0-is) ∙ sym c.in-Err-Leaks.is ∙ c.in_ok-spot.ensures ∙ ap (behind_first read.opening) counted) in
    record {
      said = subst (λ (ran : Ran). IfOk c.tell_leak.result (λ said. said ≡ ran.said)) whole c.tell_leak.ensures.said;
      text = subst (λ (ran : Ran). OnOk c.tell_leak.result (c.tell_leak.new.out.items ≡ c.args.out.now.items ++ ran.text)) whole
          c.tell_leak.ensures.text;
    }
