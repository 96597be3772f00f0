-- What is answered is a value of its type, so its numbers have so many bits, and a list of frames so many of them.
use Rattle.std.proofs.Common.{◌<◌, ◌^◌, ℕ, zero, suc, List, [], ◌∷◌, ◌++◌, length, get_or, arith}
use denote.Array.{each}
use denote.Builtin.{u32}
use denote.Shadow.{shadow}
use mir.Val.{Val}
use Rattle.sva_reports.proofs.ReportLemmas.{reply_short}
use Rattle.sva_reports.proofs.driving.take_step.Lts
use Rattle.sva_reports.proofs.driving.take_step.Goals as goal

-- the numbers at the front of an array of 32 bits each
each_small : (xs ys : List ℕ) (us : List Val) → shadow (each u32.Denot u32.own_val (xs ++ ys) us) → (i : ℕ) → i < length xs → get_or xs i 0 < 2 ^ 64
each_small [] ys us s i below = absurd (omega arith)
each_small (x ∷ xs) ys [] s i below = absurd s
each_small (x ∷ xs) ys (u ∷ us) s zero below = let first = s.0 in omega arith
each_small (x ∷ xs) ys (u ∷ us) s (suc i) below = each_small xs ys us s.1 i (omega arith)

pub returns-clause-short : goal.returns-clause-short
returns-clause-short c =
    reply_short (λ r. Lts.r-0.is.Ok c.apply.lifetimes r)
    (record {
      space = λ n h. omega arith;
      frame = λ n h. omega arith;
      free = λ frames h. (omega arith, search (each_small));
      withheld = λ frames h. (omega arith, search (each_small));
      binding = λ n m h. (omega arith, omega arith);
      itag = λ n h. omega arith;
      job = λ n m k h. (omega arith, omega arith, omega arith);
      success = λ n h. omega arith;
      tag = λ n h. omega arith;
      in_use = λ n m h. (omega arith, omega arith);
      group = λ n h. omega arith;
      sent = λ n h. omega arith;
      freed = λ n h. omega arith;
      range_free = λ n h. omega arith;
      range_withheld = λ n h. omega arith;
      bearer = λ n m h. (omega arith, omega arith);
    })
    c.apply.result c.apply.type_inv

pub returns-clause-step : goal.returns-clause-step
returns-clause-step c = c.apply.ensures.step
