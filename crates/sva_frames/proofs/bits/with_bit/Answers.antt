use Rattle.std.specs.Int.{w64}
use Rattle.std.proofs.lemmas.Nat.Bits.{bit_at_set_same, bit_at_set_other, bit_at_clear_same, bit_at_clear_other}
use Rattle.sva_frames.proofs.bits.with_bit.Goals as goal

pub returns-then-is_set-clause-same : goal.returns-then-is_set-clause-same
returns-then-is_set-clause-same c = rw c.if-is_set.true (bit_at_set_same w64 c.args.word c.args.bit c.requires)

pub returns-then-is_set-clause-others : goal.returns-then-is_set-clause-others
returns-then-is_set-clause-others c = λ other _. bit_at_set_other w64 c.args.word c.args.bit c.requires other

pub returns-else-is_set-clause-same : goal.returns-else-is_set-clause-same
returns-else-is_set-clause-same c = rw c.if-is_set.false (bit_at_clear_same w64 c.args.word c.args.bit c.requires)

pub returns-else-is_set-clause-others : goal.returns-else-is_set-clause-others
returns-else-is_set-clause-others c = bit_at_clear_other w64 c.args.word c.args.bit c.requires
