use Rattle.std.proofs.Common.{rules}
use Rattle.sva_endpoint.proofs.device.Endpoint.complete.Goals as goal

pub returns-then-not-has_room_for-clause-answer : goal.returns-then-not-has_room_for-clause-answer
returns-then-not-has_room_for-clause-answer c = search rules

pub returns-then-not-has_room_for-clause-after : goal.returns-then-not-has_room_for-clause-after
returns-then-not-has_room_for-clause-after c = search rules

pub returns-in-Free : goal.returns-in-Free
returns-in-Free c = search rules

pub returns-in-Out-clause-answer : goal.returns-in-Out-clause-answer
returns-in-Out-clause-answer c = search rules

pub returns-in-Out-clause-after : goal.returns-in-Out-clause-after
returns-in-Out-clause-after c = search rules

pub returns-else-not-has_room_for-clause-answer : goal.returns-else-not-has_room_for-clause-answer
returns-else-not-has_room_for-clause-answer c = search rules

pub returns-else-not-has_room_for-clause-after : goal.returns-else-not-has_room_for-clause-after
returns-else-not-has_room_for-clause-after c = search rules
