use Rattle.std.proofs.Common.{Bool, not, sym, ◌∙◌, ap, arith}
use Rattle.sva_pasid.proofs.BearerLemmas.{free_in-some, free_in-none, free_slot}
use Rattle.sva_pasid.proofs.bearers.first_free.Goals as goal

pub returns-then-is_none : goal.returns-then-is_none
returns-then-is_none c =
    sym (free_in-some c.args.bearers.now c.loop-pasid.pasid (omega arith) (omega arith)
    (free_slot c.loop-pasid.pasid c.args.bearers.now (c.is_none.ensures ∙ ap (λ (t : Bool). not t) c.if-is_none.true)) c.loop-pasid.invariant)

pub returns : goal.returns
returns c = sym (free_in-none c.args.bearers.now (λ q l m. c.loop-pasid.invariant q l (omega arith)))
