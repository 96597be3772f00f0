use Rattle.std.proofs.Common.{rules}
use Rattle.sva_host_state.proofs.host_state.new_ports.Goals as goal

pub loop-number-init : goal.loop-number-init
loop-number-init c = search rules
