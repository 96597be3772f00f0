use Rattle.std.proofs.Common.{sym, ◌∙◌, subst}
use Rattle.sva_space.specs.Pages.{IsRising}
use Rattle.sva_space.proofs.Rows.{first_mapped, without_absent}
use Rattle.sva_space.proofs.pages.Space.unmap_start.Goals as goal

pub returns-clause-some : goal.returns-clause-some
returns-clause-some c =
    let rising = subst IsRising c.self.view_is c.self.invariant in
    first_mapped c.args.first c.args.end (c.in_ok-frame.frame, c.in_ok-frame.write) c.args.self.now rising
    c.if-first-end.false (sym c.unmap.ensures.value ∙ c.in_ok-frame.was)

pub returns-in_err-frame-clause-none : goal.returns-in_err-frame-clause-none
returns-in_err-frame-clause-none c =
    let absent = without_absent c.args.first c.args.self.now (sym c.unmap.ensures.value ∙ c.in_err-frame.was) in
    rw c.from_residual.ensures (c.unmap.ensures.after ∙ absent)
