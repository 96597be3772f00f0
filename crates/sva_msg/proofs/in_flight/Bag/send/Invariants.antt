use Rattle.std.proofs.Common.{◌≡◌, ◌+◌, ◌-◌, ◌≤◌, ◌++◌}
use Rattle.indexmap.specs.IndexMap.{spare}
use Rattle.sva_msg.specs.Bag.{copies_of}
use Rattle.sva_msg.proofs.in_flight.Bag.send.Given as goal

abbrev pub invariant-loop-number : goal.invariant-loop-number
invariant-loop-number l =
    record {
      sent : l.self-inside.messages.entries ≡ l.fn.self.messages ++ copies_of l.message l.first (l.number - l.first);
      room : l.number-end ≤ l.number + spare l.self-inside.messages;
    }
