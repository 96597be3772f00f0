-- A whole page request group, as it is handed to a worker.
use Rattle.std.specs.Prelude.{ℕ, List}
use Rattle.sva_model.specs.Wire.{AskWire}
use Rattle.sva_msg.specs.declared.messages.PageRequest.{PageRequest}
use Rattle.sva_prq.specs.declared.jobs.Ask.{Ask}

-- what a page request asks for
abbrev pub ask_of : PageRequest → Ask
ask_of request = record { page = request.page; read = request.read; write = request.write }

-- the same, as it is seen by the definitions by labels
abbrev pub ask_seen : Ask → AskWire
ask_seen ask = record { page = ask.page; read = ask.read; write = ask.write }

-- the unit at which the requests came, the binding and the group index under which they were filed, what they ask for in
-- order of filing, and the serial of their group
pub record Job : Type 0 where
  pub unit : ℕ
  pub binding : ℕ
  pub index : ℕ
  pub asks : List Ask
  pub serial : ℕ
