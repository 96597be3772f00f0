use Rattle.std.proofs.Common.{sym, ◌∙◌}
use Rattle.sva_frames.proofs.Tables.{push_apart, push_same, push_other}
use Rattle.sva_frames.proofs.heads.set_first.Goals as goal

pub returns-in-Some-clause-apart : goal.returns-in-Some-clause-apart
returns-in-Some-clause-apart c =
    rw c.push.ensures.items (push_apart c.take_out.new.pending.items (record { cookie = c.args.cookie; first = c.in-Some.first })
    c.take_out.ensures.apart c.take_out.ensures.none)

pub returns-in-Some-clause-here : goal.returns-in-Some-clause-here
returns-in-Some-clause-here c =
    rw c.push.ensures.items (push_same c.take_out.new.pending.items (record { cookie = c.args.cookie; first = c.in-Some.first })
    c.take_out.ensures.none ∙ sym c.in-Some.is)

pub returns-in-Some-clause-others : goal.returns-in-Some-clause-others
returns-in-Some-clause-others c =
    rw c.push.ensures.items (λ q other. push_other c.take_out.new.pending.items (record { cookie = c.args.cookie; first = c.in-Some.first }) q other
    ∙ c.take_out.ensures.others q other)
