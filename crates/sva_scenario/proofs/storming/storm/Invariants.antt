use Rattle.sva_scenario.proofs.storming.storm.Given as goal

abbrev pub ghosts-play_all-C-Ledger : goal.ghosts-play_all-C-Ledger
ghosts-play_all-C-Ledger g a = record { name = a.blanks.calls.name; parts = a.blanks.calls.parts }

abbrev pub ghosts-play_all-C-Ledgers : goal.ghosts-play_all-C-Ledgers
ghosts-play_all-C-Ledgers g a = record {
  config = a.scenario.now.config;
  bindings = a.blanks.bindings.name;
  uses = a.blanks.uses.name;
}

-- the lines of the scenario, and the turns that each thread is given
abbrev pub ghosts-play_all-S-Plan : goal.ghosts-play_all-S-Plan
ghosts-play_all-S-Plan g a = record { steps = a.scenario.now.steps; turns = a.turns }
