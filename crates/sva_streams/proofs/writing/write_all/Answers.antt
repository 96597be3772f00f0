use Rattle.std.proofs.Common.{arith, ◌∙◌}
use Rattle.sva_streams.proofs.StreamLemmas.{Appends-more, AppendsPrefix-cut}
use Rattle.sva_streams.proofs.writing.write_all.Goals as goal

pub returns-in_default-clause-front : goal.returns-in_default-clause-front
returns-in_default-clause-front g c =
    AppendsPrefix-cut _ _ _ c.args.bytes.now _ c.loop-written-test.true c.loop-written.invariant.front c.in_default.ensures.failed.1

pub loop-written-preserved : goal.loop-written-preserved
loop-written-preserved g c = record {
  inside = omega (arith, c.in-Some.ensures.written.1);
  front = Appends-more _ _ _ c.args.bytes.now _ _ c.loop-written.invariant.front c.in-Some.ensures.written.3;
  calls = omega (arith, c.in-Some.ensures.written.0);
  failures = c.in-Some.ensures.written.2 ∙ c.loop-written.invariant.failures;
}

pub returns-clause-err : goal.returns-clause-err
returns-clause-err g c = tt

pub returns-clause-front : goal.returns-clause-front
returns-clause-front g c = tt
