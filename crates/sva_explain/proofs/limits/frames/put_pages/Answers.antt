use Rattle.std.proofs.Common.{◌≡◌, ◌++◌, subst, sym}
use Rattle.std.proofs.lemmas.List.{length-map}
use Rattle.std.specs.Prelude.{codes}
use Rattle.sva_address_spaces.specs.Seen.{page_seen}
use Rattle.sva_lines.specs.Pieces.{field}
use Rattle.sva_lines.proofs.Lines.{both}
use Rattle.sva_explain.proofs.Chains.{joined}
use Rattle.sva_explain.proofs.limits.frames.put_pages.Goals as goal

pub returns : goal.returns
returns c =
    let old = c.args.out.now.items in
    let many = sym (length-map c.args.pages.now page_seen) in
    let to_1 = joined old c.put_start.new.out.items c.put_field.new.out.items _ _ c.in_ok-put_start.ensures
    (subst (λ count. c.put_field.new.out.items ≡ c.put_start.new.out.items ++ field (codes ": ") count) many c.in_ok-put_field.ensures) in
    let to_2 = joined old c.put_field.new.out.items c.put_unmap.new.out.items _ _ to_1 c.in_ok-put_unmap.ensures in
    both c.end_line.result old c.put_unmap.new.out.items c.end_line.new.out.items _ _ to_2 c.end_line.ensures
