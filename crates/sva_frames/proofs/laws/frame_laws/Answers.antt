use Rattle.sva_frames.proofs.CallLists.{divided, withheld_waits, lowest_free, mapped_in_hand, free_at_once, withheld_until_settled, free_when_settled}
use Rattle.sva_frames.proofs.CallLists.{settles_waits}
use Rattle.sva_frames.proofs.laws.frame_laws.Goals as goal

pub returns-clause-divided : goal.returns-clause-divided
returns-clause-divided c = divided

pub returns-clause-withheld : goal.returns-clause-withheld
returns-clause-withheld c = withheld_waits

pub returns-clause-lowest : goal.returns-clause-lowest
returns-clause-lowest c = lowest_free

pub returns-clause-in_hand : goal.returns-clause-in_hand
returns-clause-in_hand c = mapped_in_hand

pub returns-clause-at_once : goal.returns-clause-at_once
returns-clause-at_once c = free_at_once

pub returns-clause-until_settled : goal.returns-clause-until_settled
returns-clause-until_settled c = withheld_until_settled

pub returns-clause-when_settled : goal.returns-clause-when_settled
returns-clause-when_settled c = free_when_settled

pub returns-clause-settles : goal.returns-clause-settles
returns-clause-settles c = settles_waits
