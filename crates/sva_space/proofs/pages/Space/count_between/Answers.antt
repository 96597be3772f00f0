use Rattle.std.proofs.Common.{ℕ, Bool, List, length, sym, ap, ◌∙◌}
use Rattle.std.proofs.lemmas.Iterator.Consumers.{count_from_yields_List, YieldsList-from_first}
use Rattle.sva_space.specs.Pages.{mappings_between}
use Rattle.sva_space.proofs.Ranges.{none_between, between-is}
use Rattle.sva_space.proofs.pages.Space.count_between.Goals as goal

pub returns-then-first-end : goal.returns-then-first-end
returns-then-first-end c =
    sym (ap (λ (xs : List (ℕ × (ℕ × Bool))). length xs) (none_between c.args.first c.args.end c.args.self.now c.if-first-end.true))

pub returns : goal.returns
returns c =
    let rest = c.range.ensures.between tt ∙ between-is c.args.first c.args.end c.self.inside.pages.entries
    ∙ ap (mappings_between c.args.first c.args.end) c.self.view_is in
    count_from_yields_List c.range.result c.count.result c.count.ensures.ran
    (YieldsList-from_first (λ x. (x.0.now, x.1.now)) (λ s. s) (mappings_between c.args.first c.args.end c.args.self.now) rest)
