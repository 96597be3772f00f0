use Rattle.sva_probe.proofs.shared.take_shared.Given as goal

abbrev pub ghosts-take_on-C-Ledger : goal.ghosts-take_on-C-Ledger
ghosts-take_on-C-Ledger g a = record { name = a.blanks.calls.name; parts = a.blanks.calls.parts }

abbrev pub ghosts-take_on-C-Ledgers : goal.ghosts-take_on-C-Ledgers
ghosts-take_on-C-Ledgers g a = record { config = a.config; bindings = a.blanks.bindings.name; uses = a.blanks.uses.name }
