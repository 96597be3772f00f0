use Rattle.std.proofs.Common.{List, sym, ap, ◌∙◌, subst}
use Rattle.std.specs.Prelude.{find, option_map}
use Rattle.sva_space.specs.Pages.{IsRising, is_between, mapping_at}
use Rattle.sva_space.proofs.Ranges.{Mapping, found_taken, found_mapped}
use Rattle.sva_space.proofs.pages.Space.unmap_first.Goals as goal

pub returns-in_err-frame-clause-none : goal.returns-in_err-frame-clause-none
returns-in_err-frame-clause-none c =
    let rising = subst IsRising c.self.view_is c.self.invariant in
    let same = c.in_default.ensures.none in
    let lowest = c.first_between.ensures
    ∙ ap (λ (ms : List Mapping). option_map (λ m. m.0) (find (is_between c.args.first c.args.end) ms)) same in
    let value = c.unmap.ensures.value ∙ ap (λ (ms : List Mapping). mapping_at ms c.in_ok-lowest.lowest) same in
    absurd (found_mapped c.args.first c.args.end c.in_ok-lowest.lowest c.args.self.now rising (sym lowest ∙ c.in_ok-lowest.was)
    (sym value ∙ c.in_err-frame.was))

pub returns-clause-some : goal.returns-clause-some
returns-clause-some c =
    let rising = subst IsRising c.self.view_is c.self.invariant in
    let same = c.in_default.ensures.none in
    let lowest = c.first_between.ensures
    ∙ ap (λ (ms : List Mapping). option_map (λ m. m.0) (find (is_between c.args.first c.args.end) ms)) same in
    let value = c.unmap.ensures.value ∙ ap (λ (ms : List Mapping). mapping_at ms c.in_ok-lowest.lowest) same in
    found_taken c.args.first c.args.end c.in_ok-lowest.lowest (c.in_ok-frame.frame, c.in_ok-frame.write) c.args.self.now rising
    (sym lowest ∙ c.in_ok-lowest.was) (sym value ∙ c.in_ok-frame.was)
