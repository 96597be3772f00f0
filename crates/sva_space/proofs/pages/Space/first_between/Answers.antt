use Rattle.std.proofs.Common.{ℕ, Bool, List, Option, option_map, sym, ap, ◌∙◌}
use Rattle.std.specs.Prelude.{slice_get}
use Rattle.sva_space.specs.Pages.{is_between, mappings_between}
use Rattle.sva_space.proofs.Ranges.{none_between, none_first, first_of, between-is}
use Rattle.sva_space.proofs.pages.Space.first_between.Goals as goal

abbrev number : Option (ℕ × (ℕ × Bool)) → Option ℕ
number o = option_map (λ mapping. mapping.0) o

pub returns-then-first-end : goal.returns-then-first-end
returns-then-first-end c =
    sym (ap number (none_first (is_between c.args.first c.args.end) c.args.self.now
    (none_between c.args.first c.args.end c.args.self.now c.if-first-end.true)))

pub returns-in-Some : goal.returns-in-Some
returns-in-Some c =
    let rest = c.range.ensures.between tt ∙ between-is c.args.first c.args.end c.self.inside.pages.entries
    ∙ ap (mappings_between c.args.first c.args.end) c.self.view_is in
    let steps = c.in-Some.ensures in
    ap (λ (ms : List (ℕ × (ℕ × Bool))). number (slice_get ms 0)) (sym steps.steps ∙ rest)
    ∙ ap number (first_of (is_between c.args.first c.args.end) c.args.self.now)

pub returns-in-None : goal.returns-in-None
returns-in-None c =
    let rest = c.range.ensures.between tt ∙ between-is c.args.first c.args.end c.self.inside.pages.entries
    ∙ ap (mappings_between c.args.first c.args.end) c.self.view_is in
    let steps = c.in-None.ensures in
    sym (ap number (none_first (is_between c.args.first c.args.end) c.args.self.now (sym rest ∙ steps.steps.0)))
