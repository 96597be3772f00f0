use Rattle.std.proofs.Common.{◌≡◌, ◌↔◌, subst, sym, ◌∙◌, ap}
use Rattle.sva_queue.specs.declared.descriptors.Pumped.{Pumped}
use Rattle.sva_queue.specs.declared.descriptors.Pumped.TheVariants.{Done}
use Rattle.sva_queue.specs.declared.heads.Next.TheVariants as next
use Rattle.sva_queue.specs.Calls.{IsWaitDone}
use Rattle.sva_queue.specs.Heads.{pumped_of}
use Rattle.sva_queue.proofs.Waits.{done_exactly}
use Rattle.sva_queue.proofs.Looked.{answered, is_answered, does}
use Rattle.sva_queue.proofs.units.Unit.pump.Goals as goal

pub send-requires : goal.send-requires
send-requires c = is_answered c.args.self.now c.args.prq_empty (next.Send c.in-Send.sending) c.in-Send.ensures

pub pass-requires : goal.pass-requires
pass-requires c = is_answered c.args.self.now c.args.prq_empty (next.Pass c.in-Pass.cookie) c.in-Pass.ensures

pub returns-in-Send-clause-answer : goal.returns-in-Send-clause-answer
returns-in-Send-clause-answer c = ap pumped_of c.in-Send.ensures ∙ answered c.args.self.now c.args.prq_empty

pub returns-in-Send-clause-done : goal.returns-in-Send-clause-done
returns-in-Send-clause-done c =
    λ cookie. subst (λ (answer : Pumped). (answer ≡ Done cookie) ↔ IsWaitDone c.args.self.now c.args.prq_empty cookie)
    (sym (ap pumped_of c.in-Send.ensures ∙ answered c.args.self.now c.args.prq_empty)) (done_exactly c.args.self.now c.args.prq_empty cookie)

pub returns-in-Send-clause-queue : goal.returns-in-Send-clause-queue
returns-in-Send-clause-queue c = c.send.ensures ∙ does c.args.self.now c.args.prq_empty (next.Send c.in-Send.sending) c.in-Send.ensures

pub returns-in-Pass-clause-answer : goal.returns-in-Pass-clause-answer
returns-in-Pass-clause-answer c = ap pumped_of c.in-Pass.ensures ∙ answered c.args.self.now c.args.prq_empty

pub returns-in-Pass-clause-done : goal.returns-in-Pass-clause-done
returns-in-Pass-clause-done c =
    λ cookie. subst (λ (answer : Pumped). (answer ≡ Done cookie) ↔ IsWaitDone c.args.self.now c.args.prq_empty cookie)
    (sym (ap pumped_of c.in-Pass.ensures ∙ answered c.args.self.now c.args.prq_empty)) (done_exactly c.args.self.now c.args.prq_empty cookie)

pub returns-in-Pass-clause-queue : goal.returns-in-Pass-clause-queue
returns-in-Pass-clause-queue c = c.pass.ensures ∙ does c.args.self.now c.args.prq_empty (next.Pass c.in-Pass.cookie) c.in-Pass.ensures

pub returns-in-Blocked-clause-answer : goal.returns-in-Blocked-clause-answer
returns-in-Blocked-clause-answer c = ap pumped_of c.in-Blocked.ensures ∙ answered c.args.self.now c.args.prq_empty

pub returns-in-Blocked-clause-done : goal.returns-in-Blocked-clause-done
returns-in-Blocked-clause-done c =
    λ cookie. subst (λ (answer : Pumped). (answer ≡ Done cookie) ↔ IsWaitDone c.args.self.now c.args.prq_empty cookie)
    (sym (ap pumped_of c.in-Blocked.ensures ∙ answered c.args.self.now c.args.prq_empty)) (done_exactly c.args.self.now c.args.prq_empty cookie)

pub returns-in-Blocked-clause-queue : goal.returns-in-Blocked-clause-queue
returns-in-Blocked-clause-queue c = does c.args.self.now c.args.prq_empty next.Blocked c.in-Blocked.ensures

pub returns-in-Idle-clause-answer : goal.returns-in-Idle-clause-answer
returns-in-Idle-clause-answer c = ap pumped_of c.in-Idle.ensures ∙ answered c.args.self.now c.args.prq_empty

pub returns-in-Idle-clause-done : goal.returns-in-Idle-clause-done
returns-in-Idle-clause-done c =
    λ cookie. subst (λ (answer : Pumped). (answer ≡ Done cookie) ↔ IsWaitDone c.args.self.now c.args.prq_empty cookie)
    (sym (ap pumped_of c.in-Idle.ensures ∙ answered c.args.self.now c.args.prq_empty)) (done_exactly c.args.self.now c.args.prq_empty cookie)

pub returns-in-Idle-clause-queue : goal.returns-in-Idle-clause-queue
returns-in-Idle-clause-queue c = does c.args.self.now c.args.prq_empty next.Idle c.in-Idle.ensures
