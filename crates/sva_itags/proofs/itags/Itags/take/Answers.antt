use Rattle.std.proofs.Common.{◌≡◌, ◌<◌, Some, None, length, is_some, count_by, refl, ap, arith, sym, ◌∙◌}
use Rattle.sva_itags.specs.Tags.{lowest_free}
use Rattle.sva_itags.proofs.FreeTags.{none_free, some_free}
use Rattle.sva_itags.proofs.itags.Itags.take.Goals as goal

pub returns-in_default-clause-none : goal.returns-in_default-clause-none
returns-in_default-clause-none c =
    let is_full : None ≡ lowest_free c.self.inside.places.items = sym c.in_default.is ∙ c.first_free.ensures.lowest ∙ ap lowest_free c.deref.ensures.0 in
    let all : count_by is_some c.self.inside.places.items ≡ 32 = none_free c.self.inside.places.items is_full ∙ c.self.invariant.0 in
    (λ _. rw (← c.self.view_is) all, λ _. refl)

pub returns-clause-none : goal.returns-clause-none
returns-clause-none c =
    let is_free : Some c.in-Some.tag ≡ lowest_free c.self.inside.places.items = sym c.in-Some.is ∙ c.first_free.ensures.lowest
    ∙ ap lowest_free c.deref.ensures.0 in
    let fewer : count_by is_some c.self.inside.places.items < length c.self.inside.places.items =
    some_free c.self.inside.places.items c.in-Some.tag is_free in
    let viewed : count_by is_some c.args.self.now < 32 = rw (← c.self.view_is) (omega (arith, c.self.invariant.0)) in
    (λ h. cc, λ h. absurd (omega (arith, h)))
