use Rattle.std.proofs.Common.{sym, subst}
use Rattle.sva_core.specs.Books.{TokenCounts, IsHandedIn}
use Rattle.sva_core.proofs.TokenLemmas.{plain_handed}
use Rattle.sva_fabric.proofs.fabric.Fabric.step.Goals as goal

pub call-requires : goal.call-requires
call-requires g c = record {
  held = subst (λ (h : TokenCounts). IsHandedIn c.args.step.now h) (sym c.none.ensures) (plain_handed c.args.step.now c.requires.plain);
}

pub returns-clause-answered : goal.returns-clause-answered
returns-clause-answered g c = c.call.ensures.answered

pub returns-clause-kept : goal.returns-clause-kept
returns-clause-kept g c = c.call.ensures.kept

pub returns-clause-err : goal.returns-clause-err
returns-clause-err g c = c.call.ensures.err

pub returns-clause-fault : goal.returns-clause-fault
returns-clause-fault g c = c.call.ensures.fault
