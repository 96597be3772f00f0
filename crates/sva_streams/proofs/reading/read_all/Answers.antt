use Rattle.std.proofs.Common.{◌≡◌, ◌++◌, ◌-◌, ◌∙◌, arith, ap, Some, min, take, length}
use Rattle.std.proofs.lemmas.Grind.{common_steps}
use Rattle.sva_streams.proofs.StreamLemmas.{KeepsFront-more, KeepsFront-all, Consumes-some}
use Rattle.sva_streams.proofs.reading.read_all.Goals as goal

pub returns-then-count-eq0-clause-ok : goal.returns-then-count-eq0-clause-ok
returns-then-count-eq0-clause-ok g c =
    let none : c.in-Some.count ≡ 0 = omega arith in
    KeepsFront-all 1048577 c.in-Some.count _ _ _ c.loop-turn.kept.items c.read_once.new.piece none c.loop-turn.invariant.kept c.in-Some.ensures.read.2
    (c.in-Some.ensures.end (ap Some none))

pub returns-then-is_err-clause-memory : goal.returns-then-is_err-clause-memory
returns-then-is_err-clause-memory g c _ = (
  c.in-Some.ensures.read.1 ∙ c.loop-turn.invariant.failures,
  omega arith,
  Consumes-some 1048577 c.in-Some.count _ _ _ c.loop-turn.kept.items c.read_once.new.piece (omega arith) c.in-Some.ensures.read.0
      c.loop-turn.invariant.kept c.in-Some.ensures.read.2,
)

pub loop-turn-preserved : goal.loop-turn-preserved
loop-turn-preserved g c =
    let grew : c.extend_from_slice.new.self.items ≡ c.loop-turn.kept.items ++ take c.min-more.result c.read_once.new.piece = grind (arith, common_steps) in
    let more : c.min-more.result ≡ min c.in-Some.count (1048577 - length c.loop-turn.kept.items) = omega (arith, c.loop-turn.kept.ok.0) in
    record {
      kept = KeepsFront-more 1048577 c.in-Some.count c.min-more.result _ _ _ c.loop-turn.kept.items _ c.read_once.new.piece more grew
          c.loop-turn.invariant.kept c.in-Some.ensures.read.2;
      room = grind (arith, common_steps);
      calls = omega arith;
      failures = c.in-Some.ensures.read.1 ∙ c.loop-turn.invariant.failures;
    }

-- a read that failed ends in a fault, so nothing is claimed of what was kept
pub returns-in_default-clause-ok : goal.returns-in_default-clause-ok
returns-in_default-clause-ok g c = tt

pub returns-in_default-clause-end : goal.returns-in_default-clause-end
returns-in_default-clause-end g c = tt
