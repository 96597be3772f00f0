use Rattle.std.proofs.Common.{◌≡◌, ◌+◌, ◌∙◌, ℕ, List, Option, Some, option_map, length, sym, ap, refl, arith}
use Rattle.std.specs.Prelude.{slice_get}
use Rattle.std.proofs.lemmas.Iterator.Consumers.{count_from_yields_List, YieldsList-from_first}
use Rattle.sva_space.specs.Pages.{is_between, mappings_between}
use Rattle.sva_space.proofs.Ranges.{Mapping, none_between, none_first, first_of, between-is}
use Rattle.sva_space.proofs.pages.Space.mapped_between.Goals as goal

-- what is told of the lowest one
abbrev told : ℕ → Option Mapping → Option (ℕ × ℕ)
told count o = option_map (λ lowest. (lowest.0, count)) o

pub returns-then-first-end-clause-mapped : goal.returns-then-first-end-clause-mapped
returns-then-first-end-clause-mapped c =
    sym (ap (told _) (none_first (is_between c.args.first c.args.end) c.args.self.now
    (none_between c.args.first c.args.end c.args.self.now c.if-first-end.true)))

pub returns-in_default-clause-mapped : goal.returns-in_default-clause-mapped
returns-in_default-clause-mapped c =
    let rest = c.range-mapped.ensures.between tt ∙ between-is c.args.first c.args.end c.self.inside.pages.entries
    ∙ ap (mappings_between c.args.first c.args.end) c.self.view_is in
    sym (ap (told _) (none_first (is_between c.args.first c.args.end) c.args.self.now (sym rest ∙ c.in_default.ensures.steps.0)))

pub returns-clause-mapped : goal.returns-clause-mapped
returns-clause-mapped c =
    let rest = c.range-mapped.ensures.between tt ∙ between-is c.args.first c.args.end c.self.inside.pages.entries
    ∙ ap (mappings_between c.args.first c.args.end) c.self.view_is in
    let all = sym rest ∙ c.in-Some.ensures.steps in
    let found = sym (first_of (is_between c.args.first c.args.end) c.args.self.now)
    ∙ ap (λ (ms : List Mapping). slice_get ms 0) all in
    let others = count_from_yields_List c.next.new.self c.count.result c.count.ensures.ran
    (YieldsList-from_first (λ x. (x.0.now, x.1.now)) (λ s. s) c.next.new.self refl) in
    let whole : c.count.result + 1 ≡ length (mappings_between c.args.first c.args.end c.args.self.now) =
    omega (arith, others, ap (λ (ms : List Mapping). length ms) all) in
    (λ i. Some (c.in-Some.lowest.now, whole i)) ∙ sym (ap (told _) found)
