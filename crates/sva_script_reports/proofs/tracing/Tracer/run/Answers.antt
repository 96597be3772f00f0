use Rattle.std.proofs.Common.{◌≡◌, ◌∙◌, ◌+◌, ◌++◌, ◌≤◌, [], List, Some, ap, arith, length, refl, rules, subst, sym, take, ℕ}
use Rattle.std.proofs.lemmas.List.{length-take}
use Rattle.sva_streams.specs.declared.streams.DriveFault.TheVariants.{Memory, Read}
use Rattle.sva_script.proofs.NameLemmas.{on_ok}
use Rattle.sva_script_reports.specs.Traces.{NoEnd, Tracer, trace_rest}
use Rattle.sva_script_reports.proofs.InputLemmas.{TracesInput, failed_print, input_begins, input_breaks, input_cut, input_end_breaks, input_ends}
use Rattle.sva_script_reports.proofs.InputLemmas.{input_goes_on, piece_said}
use Rattle.sva_script_reports.proofs.tracing.Tracer.run.Goals as goal

pub loop-turn-init : goal.loop-turn-init
loop-turn-init g c =
    let style = c.args.self.now.style in
    let input = g.R.Read.remaining c.args.reader.now.inner in
    let written = g.W.Write.contents c.args.writer.now.inner in
    record {
      traced = subst (λ (held : List ℕ). TracesInput g.E.Explains.explained style input input written written c.args.self.now held)
          (sym c.new-held.ensures.items)
          (subst (λ (tracer : Tracer). TracesInput g.E.Explains.explained style input input written written tracer []) (sym c.requires.fresh)
          (input_begins g.E.Explains.explained style input written));
      no_end = subst NoEnd (sym c.new-held.ensures.items) refl;
      lines = omega (arith, ap (λ (tracer : Tracer). tracer.lines) c.requires.fresh);
      calls = c.requires.reader.0;
      read = c.requires.reader.1;
      written = c.requires.writer.1;
    }

pub returns-in_default-clause-printed : goal.returns-in_default-clause-printed
returns-in_default-clause-printed g c =
    input_cut g.E.Explains.explained c.args.self.now.style _ _ _ _ c.loop-turn.self c.loop-turn.held.items Read c.loop-turn.invariant.traced

pub returns-then-is_err-clause-printed : goal.returns-then-is_err-clause-printed
returns-then-is_err-clause-printed g c =
    input_cut g.E.Explains.explained c.args.self.now.style _ _ _ _ c.loop-turn.self c.loop-turn.held.items Memory c.loop-turn.invariant.traced

pub returns-in_err-write_piece-clause-printed : goal.returns-in_err-write_piece-clause-printed
returns-in_err-write_piece-clause-printed g c =
    let none : c.in-Some.count ≡ 0 = omega arith in
    let said = on_ok c.take_end.result (sym c.is_err.ensures.value ∙ c.if-is_err.false) c.take_end.ensures.said in
    let out : c.as_slice.result.now ≡ (trace_rest g.E.Explains.explained c.loop-turn.self c.loop-turn.held.items).text =
    c.as_slice.ensures.value ∙ said ∙ ap (λ l. l ++ (trace_rest g.E.Explains.explained c.loop-turn.self c.deref.result.now).text) c.clear.ensures.items
    ∙ ap (λ held. (trace_rest g.E.Explains.explained c.loop-turn.self held).text) c.deref.ensures.value in
    failed_print g.E.Explains.explained c.args.self.now.style _ _ _ c.from_residual.result c.from_residual.ensures.0
    (λ fault. input_end_breaks g.E.Explains.explained c.args.self.now.style _ _ _ _ _ _ c.loop-turn.self c.loop-turn.held.items
    (take c.in-Some.count c.read_once.new.piece)
    c.as_slice.result.now fault c.loop-turn.invariant.traced c.in-Some.ensures.read.2 (ap (λ n. take n c.read_once.new.piece) none)
    (c.in-Some.ensures.end (ap Some none)) out c.in_err-write_piece.ensures.written)

pub returns-then-count-eq0-clause-printed : goal.returns-then-count-eq0-clause-printed
returns-then-count-eq0-clause-printed g c =
    let none : c.in-Some.count ≡ 0 = omega arith in
    let fine = sym c.is_err.ensures.value ∙ c.if-is_err.false in
    let said = on_ok c.take_end.result fine c.take_end.ensures.said in
    let out : c.as_slice.result.now ≡ (trace_rest g.E.Explains.explained c.loop-turn.self c.loop-turn.held.items).text =
    c.as_slice.ensures.value ∙ said ∙ ap (λ l. l ++ (trace_rest g.E.Explains.explained c.loop-turn.self c.deref.result.now).text) c.clear.ensures.items
    ∙ ap (λ held. (trace_rest g.E.Explains.explained c.loop-turn.self held).text) c.deref.ensures.value in
    let ends = c.outcome.ensures ∙ on_ok c.take_end.result fine c.take_end.ensures.outcome
    ∙ ap (λ held. (trace_rest g.E.Explains.explained c.loop-turn.self held).outcome) c.deref.ensures.value in
    input_ends g.E.Explains.explained c.args.self.now.style _ _ _ _ _ _ c.loop-turn.self c.loop-turn.held.items (take c.in-Some.count c.read_once.new.piece)
    c.as_slice.result.now c.outcome.result c.loop-turn.invariant.traced c.in-Some.ensures.read.2 (ap (λ n. take n c.read_once.new.piece) none)
    (c.in-Some.ensures.end (ap Some none)) out ends c.in_ok-write_piece.ensures.written

pub returns-then-is_err-2-clause-printed : goal.returns-then-is_err-2-clause-printed
returns-then-is_err-2-clause-printed g c =
    input_cut g.E.Explains.explained c.args.self.now.style _ _ _ _ c.loop-turn.self c.loop-turn.held.items Memory c.loop-turn.invariant.traced

pub returns-in_err-write_piece-2-clause-printed : goal.returns-in_err-write_piece-2-clause-printed
returns-in_err-write_piece-2-clause-printed g c =
    let piece = take c.in-Some.count c.read_once.new.piece in
    let fine = sym c.is_err-in-loop-turn.ensures.value ∙ c.if-is_err-2.false in
    let said = piece_said g.E.Explains.explained c.loop-turn.self c.take_piece.new.self c.loop-turn.held.items piece c.take_piece.new.held.items
    c.clear.new.self.items
    c.take_piece.new.out.items c.as_slice-in-loop-turn.result.now c.clear.ensures.items c.as_slice-in-loop-turn.ensures.value
    (on_ok c.take_piece.result fine c.take_piece.ensures.traced) in
    failed_print g.E.Explains.explained c.args.self.now.style _ _ _ c.from_residual-in_err-write_piece-2.result c.from_residual-in_err-write_piece-2.ensures.0
    (λ fault. input_breaks g.E.Explains.explained c.args.self.now.style _ _ _ _ _ _ c.loop-turn.self c.take_piece.new.self c.loop-turn.held.items
    c.take_piece.new.held.items piece
    c.as_slice-in-loop-turn.result.now fault c.loop-turn.invariant.traced c.in-Some.ensures.read.2 said c.in_err-write_piece-2.ensures.written)

pub loop-turn-preserved : goal.loop-turn-preserved
loop-turn-preserved g c =
    let piece = take c.in-Some.count c.read_once.new.piece in
    let fine = sym c.is_err-in-loop-turn.ensures.value ∙ c.if-is_err-2.false in
    let said = piece_said g.E.Explains.explained c.loop-turn.self c.take_piece.new.self c.loop-turn.held.items piece c.take_piece.new.held.items
    c.clear.new.self.items
    c.take_piece.new.out.items c.as_slice-in-loop-turn.result.now c.clear.ensures.items c.as_slice-in-loop-turn.ensures.value
    (on_ok c.take_piece.result fine c.take_piece.ensures.traced) in
    let few = on_ok c.take_piece.result fine c.take_piece.ensures.few in
    let bound : c.in-Some.count ≤ 4096 = search rules in
    let short : length piece ≤ c.in-Some.count = omega (arith, length-take c.in-Some.count c.read_once.new.piece) in
    record {
      traced = input_goes_on g.E.Explains.explained c.args.self.now.style _ _ _ _ _ _ c.loop-turn.self c.take_piece.new.self c.loop-turn.held.items
          c.take_piece.new.held.items piece
          c.as_slice-in-loop-turn.result.now c.loop-turn.invariant.traced c.in-Some.ensures.read.2 said c.in_ok-write_piece-2.ensures.written;
      no_end = on_ok c.take_piece.result fine c.take_piece.ensures.held;
      lines = omega (arith, few, short, bound, c.loop-turn.invariant.lines);
      calls = c.read_once.ensures.calls ∙ ap (λ n. n + 1) c.loop-turn.invariant.calls;
      read = c.in-Some.ensures.read.1 ∙ c.loop-turn.invariant.read;
      written = c.in_ok-write_piece-2.ensures.told ∙ c.loop-turn.invariant.written;
    }

pub returns-clause-printed : goal.returns-clause-printed
returns-clause-printed g c =
    input_cut g.E.Explains.explained c.args.self.now.style _ _ _ _ c.loop-turn.self c.loop-turn.held.items Read c.loop-turn.invariant.traced
