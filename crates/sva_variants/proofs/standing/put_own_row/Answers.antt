use Rattle.std.proofs.Common.{◌∙◌, ◌++◌, ap}
use Rattle.sva_variants.specs.Platforms.{as_it_stands, own_row, row_text}
use Rattle.sva_variants.proofs.standing.put_own_row.Goals as goal

pub returns : goal.returns
unfolding own_row
returns c =
    c.in_ok-put_row.ensures ∙ ap (λ line. c.args.out.now.items ++ row_text as_it_stands line) c.first_line.ensures
