use Rattle.std.proofs.Common.{sym, subst, ◌∙◌, ◌<◌, arith}
use Rattle.sva_step.specs.declared.steps.Step.TheVariants as step
use Rattle.sva_labels.specs.Sound.{IsSound}
use Rattle.sva_labels.specs.Sound.{HaveSpaces}
use Rattle.sva_host_state.proofs.Devices.{is_err, went}
use Rattle.sva_parts_by_labels.specs.JobTable.{job_seen}
use Rattle.sva_host.specs.Inner.{wire_of}
use Rattle.sva_host.proofs.Sounds.{host_sound}
use Rattle.sva_host.proofs.Replies.{reply_done, reply_refused, reply_kept, reply_still, sends_none, job_alone, space_there}
use Rattle.sva_host.proofs.host.Host.reply.Goals as goal

pub respond-requires-clause-sound : goal.respond-requires-clause-sound
respond-requires-clause-sound c = host_sound c.self.inside _ c.self.view_is c.self.invariant c.requires.sound

pub respond-requires-clause-job : goal.respond-requires-clause-job
respond-requires-clause-job c =
    let there : c.args.worker < c.self.inside.workers = omega (arith, c.if-worker-self.false) in
    job_alone c.self.inside c.args.worker c.in-Some.job.now (subst IsSound (sym c.self.view_is) c.requires.sound) (record {
      worker = there;
      held =
          sym c.in-Some.ensures;
    })

pub respond-requires-clause-space : goal.respond-requires-clause-space
respond-requires-clause-space c = space_there c.self.inside c.in-Some.job.now.binding (subst HaveSpaces (sym c.self.view_is) c.requires.spaces)

pub invariant_of-self : goal.invariant_of-self
invariant_of-self c = reply_kept c.self.inside (job_seen c.in-Some.job.now) c.args.verdict _ _ c.self.invariant c.in_err-answer.ensures.step

pub returns-in_err-answer-clause-step : goal.returns-in_err-answer-clause-step
returns-in_err-answer-clause-step c =
    let there : c.args.worker < c.self.inside.workers = omega (arith, c.if-worker-self.false) in
    went (wire_of c.self.inside) _ _ (step.Reply c.args.worker c.args.verdict) _ _ c.self.view_is c.from_residual.ensures
    (reply_refused c.self.inside c.args.worker c.in-Some.job.now c.args.verdict _ _ c.self.invariant
    (record { worker = there; held = sym c.in-Some.ensures }) c.in_err-answer.ensures.step)

pub returns-in_err-answer-clause-memory : goal.returns-in_err-answer-clause-memory
returns-in_err-answer-clause-memory c drops wants =
    let there : c.args.worker < c.self.inside.workers = omega (arith, c.if-worker-self.false) in
    let quiet = sends_none c.self.inside _ c.args.worker c.in-Some.job.now c.args.verdict c.self.view_is c.self.invariant
    (record { worker = there; held = sym c.in-Some.ensures }) drops in
    c.in_err-answer.ensures.memory quiet (sym (is_err _ _ c.from_residual.ensures) ∙ wants)

pub invariant_of-self-2 : goal.invariant_of-self-2
invariant_of-self-2 c =
    let there : c.args.worker < c.self.inside.workers = omega (arith, c.if-worker-self.false) in
    reply_still c.self.inside c.args.worker c.in-Some.job.now c.args.verdict c.in_ok-answer.answer _ _ c.self.invariant
    (subst IsSound (sym c.self.view_is) c.requires.sound)
    (record { worker = there; held = sym c.in-Some.ensures }) c.in_ok-answer.ensures.step c.let_go.ensures

pub returns-clause-step : goal.returns-clause-step
returns-clause-step c =
    let there : c.args.worker < c.self.inside.workers = omega (arith, c.if-worker-self.false) in
    reply_done c.self.inside _ c.args.worker c.in-Some.job.now c.args.verdict c.in_ok-answer.answer _ _ c.self.view_is c.self.invariant
    (subst IsSound (sym c.self.view_is) c.requires.sound)
    (record { worker = there; held = sym c.in-Some.ensures }) c.in_ok-answer.ensures.step c.let_go.ensures
