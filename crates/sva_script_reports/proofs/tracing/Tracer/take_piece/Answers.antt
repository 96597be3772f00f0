use Rattle.std.proofs.Common.{◌∙◌, ◌+◌, ◌-◌, ◌++◌, [], arith, drop, length, subst, sym, take}
use Rattle.sva_script.proofs.ItemLemmas.{to_end}
use Rattle.sva_script_reports.specs.Traces.{NoEnd, TracesLine}
use Rattle.sva_script_reading.proofs.FaultLemmas.{on_ok_if}
use Rattle.sva_script_reports.proofs.TraceLemmas.{TracedSoFar, cut_at, no_end-both, none_in, piece_line}
use Rattle.sva_script_reports.proofs.tracing.Tracer.take_piece.Goals as goal

pub loop-end-preserved : goal.loop-end-preserved
loop-end-preserved g c =
    let rest = c.loop-end.rest.now in
    let cut = cut_at rest c.in-Some.end (sym c.end_in.ensures.at ∙ c.in-Some.is) in
    let taken : TracesLine g.E.Explains.explained c.loop-end.self (c.loop-end.held.items ++ take c.in-Some.end rest) c.take_held.new.self c.loop-end.out.items
    c.take_held.new.out.items =
    c.in_ok-take_held.ensures.traced in
    let so_far = piece_line g.E.Explains.explained c.args.self.now c.loop-end.self c.take_held.new.self c.args.held.now.items c.args.piece.now
    c.loop-end.held.items rest
    (take c.in-Some.end rest) (drop (c.in-Some.end + 1) rest) c.args.out.now.items c.loop-end.out.items c.take_held.new.out.items c.loop-end.invariant.so_far
    cut.0 cut.1 taken in
    let next = c.in-Some.end + 1 in
    let left = take (length rest - next) (drop next rest) in
    record {
      so_far = subst (λ kept. TracedSoFar g.E.Explains.explained c.args.self.now c.take_held.new.self c.args.held.now.items c.args.piece.now kept
          left c.args.out.now.items
          c.take_held.new.out.items) (sym c.in_ok-take_held.ensures.held)
          (subst (λ more. TracedSoFar g.E.Explains.explained c.args.self.now c.take_held.new.self c.args.held.now.items c.args.piece.now [] more
          c.args.out.now.items
          c.take_held.new.out.items) (sym (to_end next rest)) so_far);
      few = omega (arith, c.loop-end.invariant.few, taken.1, c.in-Some.ensures.within);
    }

pub returns-clause-held : goal.returns-clause-held
returns-clause-held g c =
    on_ok_if c.extend_from_slice.result c.extend_from_slice.new.self.items _ _ c.extend_from_slice.ensures.items
    (λ put. subst NoEnd (sym put) (no_end-both c.loop-end.held.items c.loop-end.rest.now c.loop-end.invariant.so_far.no_end
    (none_in c.loop-end.rest.now (sym c.end_in.ensures.at ∙ c.in_default.is))))
