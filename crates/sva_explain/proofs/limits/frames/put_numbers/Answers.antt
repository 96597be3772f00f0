use Rattle.std.proofs.Common.{◌≡◌, ◌∙◌, ◌++◌, ap, length, subst, sym}
use Rattle.std.proofs.lemmas.List.{length-map}
use Rattle.std.specs.Prelude.{OnOk, codes}
use Rattle.sva_lines.specs.Pieces.{line_end}
use Rattle.sva_lines.proofs.Lines.{both}
use Rattle.sva_explain.specs.declared.blockers.levels.Level.TheVariants.{First}
use Rattle.sva_explain.specs.Lines.{start}
use Rattle.sva_explain.specs.Units.{held_seen}
use Rattle.sva_explain.proofs.Frames.{all_seen}
use Rattle.sva_explain.proofs.limits.frames.put_numbers.Goals as goal

pub returns : goal.returns
returns c =
    let old = c.args.out.now.items in
    let many = sym (length-map c.args.frames.now held_seen) ∙ ap (λ places. length places) (all_seen c.args.frames.now) in
    subst (λ count. OnOk c.end_line.result (c.end_line.new.out.items ≡ old ++ (start First (codes "frames have numbers below ") count ++ line_end)))
    many (both c.end_line.result old c.put_start.new.out.items c.end_line.new.out.items _ _ c.in_ok-put_start.ensures c.end_line.ensures)
