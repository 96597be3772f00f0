use Rattle.std.proofs.Common.{◌∙◌, ◌++◌, ap, append_assoc}
use Rattle.std.specs.Prelude.{codes, decimal}
use Rattle.sva_variants.specs.Needed.{other_text}
use Rattle.sva_variants.proofs.telling.put_other.Goals as goal

pub returns : goal.returns
unfolding other_text
returns c =
    c.in_ok-put_number.ensures ∙ ap (λ l. l ++ decimal c.args.number) c.in_ok-extend_from_slice.ensures.items
    ∙ append_assoc c.args.out.now.items (codes ", with line ") (decimal c.args.number)
