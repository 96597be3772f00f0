use Rattle.std.proofs.Common.{◌≡◌, Some, sym, ap, ◌∙◌, slice_get}
use Rattle.sva_frames.proofs.Tables.{remove_apart, taken_out-none, taken_out-others}
use Rattle.sva_frames.proofs.heads.take_out.Goals as goal

-- the entry that is taken out
at : (c : goal.After-remove) → slice_get c.args.pending.now.items c.in-Some.place ≡ Some c.in-Some.ensures.some.0
at c = ap (λ es. slice_get es c.in-Some.place) (sym c.deref.ensures.0) ∙ c.in-Some.ensures.some.1

pub returns-in-Some-clause-apart : goal.returns-in-Some-clause-apart
returns-in-Some-clause-apart c = rw c.remove.ensures.items (remove_apart c.args.pending.now.items c.in-Some.place c.in-Some.ensures.some.0 c.requires (at c))

pub returns-in-Some-clause-none : goal.returns-in-Some-clause-none
returns-in-Some-clause-none c =
    rw c.remove.ensures.items
    (taken_out-none c.args.pending.now.items c.args.cookie c.in-Some.place c.in-Some.ensures.some.0 c.requires (at c) c.in-Some.ensures.some.2)

pub returns-in-Some-clause-others : goal.returns-in-Some-clause-others
returns-in-Some-clause-others c =
    rw c.remove.ensures.items
    (taken_out-others c.args.pending.now.items c.args.cookie c.in-Some.place c.in-Some.ensures.some.0 (at c) c.in-Some.ensures.some.2)
