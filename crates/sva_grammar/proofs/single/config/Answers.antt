use Rattle.std.proofs.Common.{arith}
use Rattle.sva_grammar.specs.Grammar.{config_of}
use Rattle.sva_grammar.proofs.SingleLemmas.{not_single, read_single}
use Rattle.sva_grammar.proofs.single.config.Goals as goal

pub returns-then-len-line : goal.returns-then-len-line
returns-then-len-line c = not_single config_of c.args.line.now (omega (arith, c.take_first-len.ensures.len, c.if-len-line.true))

pub returns : goal.returns
returns c =
    read_single config_of c.args.line.now c.take_first-len.new.self c.config_in.result (omega (arith, c.take_first-len.ensures.len, c.if-len-line.false))
    c.take_first-len.ensures.line c.config_in.ensures
