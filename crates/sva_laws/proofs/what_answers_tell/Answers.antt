use Rattle.sva_laws.proofs.Said.{always_finishes, always_uses, always_looks, always_frees}
use Rattle.sva_laws.proofs.Successes.{always_succeeds}
use Rattle.sva_laws.proofs.Asked.{always_maps_asked, always_replies_by}
use Rattle.sva_laws.proofs.InOrder.{always_maps_in_order}
use Rattle.sva_laws.proofs.what_answers_tell.Goals as goal

pub returns-clause-finishes : goal.returns-clause-finishes
returns-clause-finishes c = λ rule config steps e vector count said fits accepted. always_finishes rule config steps e vector count said accepted

pub returns-clause-uses : goal.returns-clause-uses
returns-clause-uses c = λ rule config steps e pasid page write said fits accepted. always_uses rule config steps e pasid page write said accepted

pub returns-clause-looks : goal.returns-clause-looks
returns-clause-looks c = λ rule config steps frame said fits accepted. always_looks rule config steps frame said accepted

pub returns-clause-frees : goal.returns-clause-frees
returns-clause-frees c = λ rule config steps s e names fits opened delivers. always_frees rule config steps s e names opened delivers

pub returns-clause-succeeds : goal.returns-clause-succeeds
returns-clause-succeeds c = λ rule config steps worker verdict count fits accepted. always_succeeds rule config steps worker verdict count accepted

pub returns-clause-asked : goal.returns-clause-asked
returns-clause-asked c = λ rule config steps worker job verdict count fits accepted hand.
    always_maps_asked rule config steps worker job verdict count accepted hand

pub returns-clause-replies : goal.returns-clause-replies
returns-clause-replies c = λ rule config steps worker job verdict said fits accepted hand.
    always_replies_by rule config steps worker job verdict said accepted hand

pub returns-clause-order : goal.returns-clause-order
returns-clause-order c = λ rule config steps x j verdict count fits success hand. always_maps_in_order rule config steps x j verdict count success hand
