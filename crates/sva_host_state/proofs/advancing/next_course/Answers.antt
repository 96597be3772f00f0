use Rattle.std.proofs.Common.{rules}
use Rattle.sva_host_state.proofs.advancing.next_course.Goals as goal

pub returns-in-Some-Invalidating : goal.returns-in-Some-Invalidating
returns-in-Some-Invalidating c = search rules
