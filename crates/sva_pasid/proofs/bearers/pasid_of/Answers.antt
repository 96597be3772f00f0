use Rattle.std.proofs.Common.{sym, ◌∙◌, arith}
use Rattle.sva_pasid.proofs.BearerLemmas.{pasid_in-some, pasid_in-none}
use Rattle.sva_pasid.proofs.bearers.pasid_of.Goals as goal

pub returns-then-is_by : goal.returns-then-is_by
returns-then-is_by c =
    sym (pasid_in-some c.args.space c.args.bearers.now c.loop-pasid.pasid (omega arith) (omega arith) (sym c.is_by.ensures ∙ c.if-is_by.true)
    c.loop-pasid.invariant)

pub returns : goal.returns
returns c = sym (pasid_in-none c.args.space c.args.bearers.now (λ q l m. c.loop-pasid.invariant q l (omega arith)))
