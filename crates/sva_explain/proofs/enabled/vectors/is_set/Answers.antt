use Rattle.std.proofs.Common.{◌≡◌, ◌∙◌, ◌==◌, ap, arith, false, nat_lt, sym}
use Rattle.std.specs.Int.{bit_at}
use Rattle.std.proofs.lemmas.Bool.Decides.{nat_tests}
use Rattle.std.proofs.lemmas.Nat.Bits.{bit_at_above}
use Rattle.sva_explain.proofs.enabled.vectors.is_set.Goals as goal

pub returns-else-itag-lt32 : goal.returns-else-itag-lt32
returns-else-itag-lt32 c =
    let zero : bit_at c.args.vector c.args.itag ≡ 0 = bit_at_above c.args.vector 32 c.args.itag c.ranges.vector.fits (grind (arith, nat_tests)) in
    let out : nat_lt c.args.itag 32 ≡ false = grind (arith, nat_tests) in
    out ∙ sym (ap (λ bit. bit == 1) zero)
