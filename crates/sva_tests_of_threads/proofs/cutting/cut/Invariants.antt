use Rattle.sva_tests_of_threads.proofs.cutting.cut.Given as goal

abbrev pub ghosts-cut_with-C-Ledger : goal.ghosts-cut_with-C-Ledger
ghosts-cut_with-C-Ledger g a = record { name = a.blanks.calls.name; parts = a.blanks.calls.parts }

abbrev pub ghosts-cut_with-C-Ledgers : goal.ghosts-cut_with-C-Ledgers
ghosts-cut_with-C-Ledgers g a = record {
  config = record { endpoints = 1; frames = 4; workers = 1; first = 0 };
  bindings = a.blanks.bindings.name;
  uses = a.blanks.uses.name;
}
