use Rattle.std.proofs.Common.{ℕ, nat_eq, true, ◌≡◌, sym, ◌∙◌, subst, arith}
use Rattle.std.proofs.lemmas.Bool.Decides.{nat_tests}
use Rattle.sva_space.specs.Pages.{IsRising}
use Rattle.sva_space.proofs.Ranges.{all-counted}
use Rattle.sva_space.proofs.pages.Space.are_mapped.Goals as goal

same : (a b : ℕ) → nat_eq a b ≡ true → a ≡ b
same a b h = grind (arith, nat_tests)

told : (a b : ℕ) → a ≡ b → nat_eq a b ≡ true
told a b h = grind (arith, nat_tests)

pub returns : goal.returns
returns c =
    let rising = subst IsRising c.self.view_is c.self.invariant in
    let both = all-counted c.args.first c.args.end c.args.self.now rising in (
      λ h. both.0 (sym c.count_between.ensures ∙ same c.count_between.result c.saturating_sub.result h ∙ c.saturating_sub.ensures),
      λ all. told c.count_between.result c.saturating_sub.result (c.count_between.ensures ∙ both.1 all ∙ sym c.saturating_sub.ensures),
    )
