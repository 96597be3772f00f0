use Rattle.std.proofs.Common.{arith}
use Rattle.sva_grammar.specs.Grammar.{step_of}
use Rattle.sva_grammar.proofs.SingleLemmas.{not_single, read_single}
use Rattle.sva_grammar.proofs.single.step.Goals as goal

pub returns-then-len-line : goal.returns-then-len-line
returns-then-len-line c = not_single step_of c.args.line.now (omega (arith, c.take_first-len.ensures.len, c.if-len-line.true))

pub returns : goal.returns
returns c =
    read_single step_of c.args.line.now c.take_first-len.new.self c.step_in.result (omega (arith, c.take_first-len.ensures.len, c.if-len-line.false))
    c.take_first-len.ensures.line c.step_in.ensures
