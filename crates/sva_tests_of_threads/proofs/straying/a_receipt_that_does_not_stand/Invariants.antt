use Rattle.sva_tests_of_threads.proofs.straying.a_receipt_that_does_not_stand.Given as goal

abbrev pub ghosts-tried-C-Ledger : goal.ghosts-tried-C-Ledger
ghosts-tried-C-Ledger g a = record { name = a.blanks.calls.name; parts = a.blanks.calls.parts }

abbrev pub ghosts-tried-C-Ledgers : goal.ghosts-tried-C-Ledgers
ghosts-tried-C-Ledgers g a = record {
  config = record { endpoints = 2; frames = 4; workers = 1; first = 0 };
  bindings = a.blanks.bindings.name;
  uses = a.blanks.uses.name;
}
