use Rattle.std.proofs.Common.{◌≡◌, ℕ, List, true, sym, ap, subst, ◌∙◌}
use Rattle.std.specs.Prelude.{IsOk, Option}
use Rattle.sva_model.specs.Wire.{PageWire}
use Rattle.sva_labels.specs.Finding.{or_no_pages}
use Rattle.sva_address_spaces.specs.Seen.{AddressSpacesSeen, pages_seen, places_seen}
use Rattle.sva_address_spaces.specs.Inner.{spaces_in}
use Rattle.sva_address_spaces.specs.Pieces.{verdict}
use Rattle.sva_address_spaces.specs.Steps.{has_space, AllMoves}
use Rattle.sva_address_spaces.specs.Asked.{asks_seen, new_pages, success_causes, may_map_all, maps_of, taken_back}
use Rattle.sva_labels.specs.Replying.{new_among}
use Rattle.sva_address_spaces.proofs.LiveLists.{owns-at, pages_of-at}
use Rattle.sva_address_spaces.proofs.ChangedSpace.{has_space as space_there, lacks_space, one_changed, stays_the_same, with_space}
use Rattle.sva_address_spaces.proofs.JobPages.{is_lacking, maps_seen, maps_back, none_seen, on_ok, if_ok, if_both, on_err}
use Rattle.sva_address_spaces.proofs.address_spaces.AddressSpaces.map_all.Goals as goal

pub unreachable-requires : goal.unreachable-requires
unreachable-requires c =
    is_lacking (spaces_in c.self.inside) c.args.space (lacks_space c.self.inside c.args.space _ c.in_default.ensures c.deref.ensures.value)
    (subst (λ (m : AddressSpacesSeen). has_space m c.args.space ≡ true) (sym c.self.view_is) c.requires.there)

pub map_all-requires-clause-may : goal.map_all-requires-clause-may
map_all-requires-clause-may c =
    let live = c.index_mut.result.now in
    let at = space_there c.self.inside c.args.space c.in-Some.place live _ c.self.invariant c.in-Some.ensures c.deref.ensures.value
    c.index_mut.ensures.value in
    subst (λ (o : Option (List PageWire)). IsOk (verdict (success_causes (or_no_pages o) (spaces_in c.self.inside).places (asks_seen c.args.asks.now))))
    (pages_of-at c.self.inside.spaces.items c.args.space c.in-Some.place live at.there at.is_number at.once)
    (subst (λ (m : AddressSpacesSeen). IsOk (may_map_all m c.args.space (asks_seen c.args.asks.now))) (sym c.self.view_is) c.requires.may)

pub map_all-requires-clause-owned : goal.map_all-requires-clause-owned
map_all-requires-clause-owned c =
    let at = space_there c.self.inside c.args.space c.in-Some.place c.index_mut.result.now _ c.self.invariant c.in-Some.ensures c.deref.ensures.value
    c.index_mut.ensures.value in
    owns-at c.self.inside.spaces.items c.self.inside.pool c.in-Some.place c.index_mut.result.now c.self.invariant.owned at.there

pub invariant_of-self : goal.invariant_of-self
invariant_of-self c =
    let at = space_there c.self.inside c.args.space c.in-Some.place c.index_mut.result.now _ c.self.invariant c.in-Some.ensures c.deref.ensures.value
    c.index_mut.ensures.value in
    stays_the_same c.self.inside c.args.space c.in-Some.place c.index_mut.result.now c.map_all.new.space c.map_all.new.pool c.self.invariant at
    c.map_all.ensures.balanced

pub returns-clause-pages : goal.returns-clause-pages
returns-clause-pages c =
    let live = c.index_mut.result.now in
    let at = space_there c.self.inside c.args.space c.in-Some.place live _ c.self.invariant c.in-Some.ensures c.deref.ensures.value
    c.index_mut.ensures.value in
    let asks = asks_seen c.args.asks.now in
    let same : new_among (pages_seen live.space) asks ≡ new_pages c.args.self.now c.args.space asks =
    ap (λ (o : Option (List PageWire)). new_among (or_no_pages o) asks)
    (sym (pages_of-at c.self.inside.spaces.items c.args.space c.in-Some.place live at.there at.is_number at.once))
    ∙ ap (λ (m : AddressSpacesSeen). new_pages m c.args.space asks) c.self.view_is in
    if_ok c.map_all.result (λ pages. pages.items ≡ new_among (pages_seen live.space) asks)
    (λ pages. pages.items ≡ new_pages c.args.self.now c.args.space asks) (λ pages is. is ∙ same) c.map_all.ensures.asked

pub returns-clause-after : goal.returns-clause-after
returns-clause-after c =
    let live = c.index_mut.result.now in
    let at = space_there c.self.inside c.args.space c.in-Some.place live _ c.self.invariant c.in-Some.ensures c.deref.ensures.value
    c.index_mut.ensures.value in
    let asks = asks_seen c.args.asks.now in
    let after = spaces_in (with_space c.self.inside c.in-Some.place live c.map_all.new.space c.map_all.new.pool) in
    on_ok c.map_all.result _ (AllMoves (maps_of c.args.self.now c.args.space asks) c.args.self.now after)
    (λ maps. subst (λ (m : AddressSpacesSeen). AllMoves (maps_of m c.args.space asks) m after) c.self.view_is
    (maps_seen (spaces_in c.self.inside) c.args.space asks (pages_seen live.space) (pages_seen c.map_all.new.space) _ (places_seen c.map_all.new.pool)
    (one_changed c.self.inside c.args.space c.in-Some.place live c.map_all.new.space at) maps))
    c.map_all.ensures.ok

pub returns-clause-back : goal.returns-clause-back
returns-clause-back c =
    let live = c.index_mut.result.now in
    let at = space_there c.self.inside c.args.space c.in-Some.place live _ c.self.invariant c.in-Some.ensures c.deref.ensures.value
    c.index_mut.ensures.value in
    let asks = asks_seen c.args.asks.now in
    let after = spaces_in (with_space c.self.inside c.in-Some.place live c.map_all.new.space c.map_all.new.pool) in
    if_both c.map_all.result (λ pages. pages.items ≡ new_among (pages_seen live.space) asks)
    (λ pages. taken_back after c.args.space pages.items ≡ c.args.self.now) _
    (λ pages is maps. ap (λ (qs : List ℕ). taken_back after c.args.space qs) is
    ∙ maps_back (spaces_in c.self.inside) c.args.space asks (pages_seen live.space) (pages_seen c.map_all.new.space) _ _ (places_seen c.map_all.new.pool)
    (one_changed c.self.inside c.args.space c.in-Some.place live c.map_all.new.space at)
    (one_changed c.self.inside c.args.space c.in-Some.place live live.space at) maps
    ∙ c.self.view_is)
    c.map_all.ensures.asked c.map_all.ensures.ok

pub returns-clause-err : goal.returns-clause-err
returns-clause-err c =
    let live = c.index_mut.result.now in
    let at = space_there c.self.inside c.args.space c.in-Some.place live _ c.self.invariant c.in-Some.ensures c.deref.ensures.value
    c.index_mut.ensures.value in
    on_err c.map_all.result _ _
    (λ kept. none_seen (spaces_in c.self.inside) c.args.space (pages_seen live.space) (pages_seen c.map_all.new.space) _ (places_seen c.map_all.new.pool)
    (one_changed c.self.inside c.args.space c.in-Some.place live c.map_all.new.space at) kept.0 kept.1 ∙ c.self.view_is)
    c.map_all.ensures.err

pub returns-clause-none : goal.returns-clause-none
returns-clause-none c none =
    let live = c.index_mut.result.now in
    let at = space_there c.self.inside c.args.space c.in-Some.place live _ c.self.invariant c.in-Some.ensures c.deref.ensures.value
    c.index_mut.ensures.value in
    let asks = asks_seen c.args.asks.now in
    let same : new_among (pages_seen live.space) asks ≡ new_pages c.args.self.now c.args.space asks =
    ap (λ (o : Option (List PageWire)). new_among (or_no_pages o) asks)
    (sym (pages_of-at c.self.inside.spaces.items c.args.space c.in-Some.place live at.there at.is_number at.once))
    ∙ ap (λ (m : AddressSpacesSeen). new_pages m c.args.space asks) c.self.view_is in
    c.map_all.ensures.none (same ∙ none)
