use Rattle.sva_tests_of_storms.proofs.worlds.plays_alone.Given as goal

abbrev pub ghosts-plays_on-C-Ledger : goal.ghosts-plays_on-C-Ledger
ghosts-plays_on-C-Ledger g a = record { name = a.blanks.calls.name; parts = a.blanks.calls.parts }

abbrev pub ghosts-plays_on-C-Ledgers : goal.ghosts-plays_on-C-Ledgers
ghosts-plays_on-C-Ledgers g a = record {
  config = a.config;
  bindings = a.blanks.bindings.name;
  uses = a.blanks.uses.name;
}
