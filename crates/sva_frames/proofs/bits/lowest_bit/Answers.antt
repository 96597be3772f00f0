use Rattle.std.proofs.Common.{◌<◌, arith}
use Rattle.std.specs.Int.{w64}
use Rattle.std.proofs.lemmas.Nat.Bits.{bit_at-trailing_zeros}
use Rattle.sva_frames.proofs.bits.lowest_bit.Goals as goal

pub returns-clause-some : goal.returns-clause-some
returns-clause-some c =
    let some : 0 < c.args.word = omega arith in
    bit_at-trailing_zeros w64 c.args.word some (omega arith)
