use Rattle.sva_tests_of_threads.proofs.worlds.ends_so.Given as goal

abbrev pub ghosts-tried_on-C-Ledger : goal.ghosts-tried_on-C-Ledger
ghosts-tried_on-C-Ledger g a = record { name = a.blanks.calls.name; parts = a.blanks.calls.parts }

abbrev pub ghosts-tried_on-C-Ledgers : goal.ghosts-tried_on-C-Ledgers
ghosts-tried_on-C-Ledgers g a = record {
  config = record { endpoints = 2; frames = 4; workers = 1; first = 0 };
  bindings = a.blanks.bindings.name;
  uses = a.blanks.uses.name;
}
