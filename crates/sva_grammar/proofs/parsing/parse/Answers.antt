use Rattle.sva_grammar.proofs.parsing.parse.Goals as goal

-- a text that is too large is a fault of a line, and so no want of memory
pub returns-then-text-gt-MOST_BYTES-clause-memory : goal.returns-then-text-gt-MOST_BYTES-clause-memory
returns-then-text-gt-MOST_BYTES-clause-memory c lacking = absurd (cc lacking)
