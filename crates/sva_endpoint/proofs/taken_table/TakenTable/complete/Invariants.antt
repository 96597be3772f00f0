use Rattle.sva_endpoint.proofs.TakenFacts.{IsCompletedBelow}
use Rattle.sva_endpoint.proofs.taken_table.TakenTable.complete.Given as goal

abbrev pub invariant-loop-itag : goal.invariant-loop-itag
invariant-loop-itag l = IsCompletedBelow l.vector l.itag l.initial.self-inside.places.items l.self-inside.places.items
