use Rattle.std.proofs.Common.{◌^◌, sym, ap, ◌∙◌, subst}
use Rattle.std.specs.Prelude.{Option, List, IsOk, ◌+◌, filter}
use Rattle.sva_model.specs.Wire.{PageWire}
use Rattle.sva_model.specs.Words.{count_below}
use Rattle.sva_labels.specs.Finding.{pages_of, or_no_pages, is_mapped}
use Rattle.sva_labels.specs.Moves.{is_between, placed, place_for, without_pages}
use Rattle.sva_address_spaces.specs.Seen.{AddressSpacesSeen, pages_seen, places_seen, targets_seen}
use Rattle.sva_address_spaces.specs.Inner.{spaces_in}
use Rattle.sva_labels.specs.Causes.{page_causes_of_unmap_range}
use Rattle.sva_address_spaces.specs.Unmapping.{may_unmap_range, mapped_of, unmapped}
use Rattle.sva_address_spaces.specs.Room.{HaveRoom}
use Rattle.sva_address_spaces.proofs.Permits.{count_mapped-is, size, size-most, may_unmap_range-tests}
use Rattle.sva_address_spaces.proofs.Waiting.{room_of}
use Rattle.sva_address_spaces.proofs.LiveLists.{owns-at, pages_of-at}
use Rattle.sva_address_spaces.proofs.ChangedSpace.{has_space, one_changed, stays_the_same}
use Rattle.sva_address_spaces.proofs.Unmapped.{is_there, tested, taken_out}
use Rattle.sva_address_spaces.proofs.address_spaces.AddressSpaces.unmap_range.Goals as goal

pub unreachable-requires : goal.unreachable-requires
unreachable-requires c =
    is_there (λ pages. page_causes_of_unmap_range pages c.args.page c.args.order) c.self.inside c.args.space _
    (subst (λ (m : AddressSpacesSeen). IsOk (may_unmap_range m c.args.space c.args.page c.args.order)) (sym c.self.view_is) c.requires.may)
    c.in_default.ensures c.deref.ensures.value

pub take_mapped-requires-clause-few : goal.take_mapped-requires-clause-few
take_mapped-requires-clause-few c =
    let live = c.index_mut.result.now in
    let at = has_space c.self.inside c.args.space c.in-Some.place live _ c.self.invariant c.in-Some.ensures c.deref.ensures.value c.index_mut.ensures.value in
    size-most c.args.order
    (may_unmap_range-tests (pages_seen live.space) c.args.page c.args.order
    (tested (λ pages. page_causes_of_unmap_range pages c.args.page c.args.order)
    (pages_of (spaces_in c.self.inside).spaces c.args.space) (pages_seen live.space)
    (pages_of-at c.self.inside.spaces.items c.args.space c.in-Some.place live at.there at.is_number at.once)
    (subst (λ (m : AddressSpacesSeen). IsOk (may_unmap_range m c.args.space c.args.page c.args.order)) (sym c.self.view_is) c.requires.may))).small

pub take_mapped-requires-clause-owned : goal.take_mapped-requires-clause-owned
take_mapped-requires-clause-owned c =
    let at = has_space c.self.inside c.args.space c.in-Some.place c.index_mut.result.now _ c.self.invariant c.in-Some.ensures c.deref.ensures.value
    c.index_mut.ensures.value in
    owns-at c.self.inside.spaces.items c.self.inside.pool c.in-Some.place c.index_mut.result.now c.self.invariant.owned at.there

pub take_mapped-requires-clause-room : goal.take_mapped-requires-clause-room
take_mapped-requires-clause-room c =
    room_of c.self.inside.pool c.args.waits.now
    (subst (λ (m : AddressSpacesSeen). HaveRoom m.places (targets_seen c.args.waits.now)) (sym c.self.view_is) c.requires.room)

pub invariant_of-self : goal.invariant_of-self
invariant_of-self c =
    let at = has_space c.self.inside c.args.space c.in-Some.place c.index_mut.result.now _ c.self.invariant c.in-Some.ensures c.deref.ensures.value
    c.index_mut.ensures.value in
    stays_the_same c.self.inside c.args.space c.in-Some.place c.index_mut.result.now c.take_mapped.new.space c.take_mapped.new.pool c.self.invariant at
    c.take_mapped.ensures.balanced

pub returns-clause-frames : goal.returns-clause-frames
returns-clause-frames c =
    let live = c.index_mut.result.now in
    let at = has_space c.self.inside c.args.space c.in-Some.place live _ c.self.invariant c.in-Some.ensures c.deref.ensures.value c.index_mut.ensures.value in
    let there = pages_of-at c.self.inside.spaces.items c.args.space c.in-Some.place live at.there at.is_number at.once in
    let tests = may_unmap_range-tests (pages_seen live.space) c.args.page c.args.order
    (tested (λ pages. page_causes_of_unmap_range pages c.args.page c.args.order)
    (pages_of (spaces_in c.self.inside).spaces c.args.space) (pages_seen live.space) there
    (subst (λ (m : AddressSpacesSeen). IsOk (may_unmap_range m c.args.space c.args.page c.args.order)) (sym c.self.view_is) c.requires.may)) in
    c.take_mapped.ensures.frames ∙ count_mapped-is (pages_seen live.space) c.args.page _ (2 ^ c.args.order) (size c.args.order tests.small)
    ∙ sym (ap (λ (o : Option (List PageWire)). count_below (2 ^ c.args.order) (λ j. is_mapped (or_no_pages o) (c.args.page + j))) there)
    ∙ ap (λ (m : AddressSpacesSeen). mapped_of m c.args.space c.args.page (2 ^ c.args.order)) c.self.view_is

pub returns-clause-after : goal.returns-clause-after
returns-clause-after c =
    let live = c.index_mut.result.now in
    let at = has_space c.self.inside c.args.space c.in-Some.place live _ c.self.invariant c.in-Some.ensures c.deref.ensures.value c.index_mut.ensures.value in
    let there = pages_of-at c.self.inside.spaces.items c.args.space c.in-Some.place live at.there at.is_number at.once in
    let tests = may_unmap_range-tests (pages_seen live.space) c.args.page c.args.order
    (tested (λ pages. page_causes_of_unmap_range pages c.args.page c.args.order)
    (pages_of (spaces_in c.self.inside).spaces c.args.space) (pages_seen live.space) there
    (subst (λ (m : AddressSpacesSeen). IsOk (may_unmap_range m c.args.space c.args.page c.args.order)) (sym c.self.view_is) c.requires.may)) in
    let targets = targets_seen c.args.waits.now in
    taken_out (spaces_in c.self.inside) c.args.space c.args.page (2 ^ c.args.order) targets (pages_seen live.space)
    (pages_seen c.take_mapped.new.space) _ (places_seen c.take_mapped.new.pool)
    (one_changed c.self.inside c.args.space c.in-Some.place live c.take_mapped.new.space at)
    (c.take_mapped.ensures.pages ∙ ap (λ k. without_pages c.args.page k (pages_seen live.space)) (size c.args.order tests.small))
    (c.take_mapped.ensures.places
    ∙ ap (λ k. placed (place_for targets) (filter (is_between c.args.page k) (pages_seen live.space)) (places_seen c.self.inside.pool))
    (size c.args.order tests.small))
    ∙ ap (λ (m : AddressSpacesSeen). unmapped m c.args.space c.args.page (2 ^ c.args.order) targets) c.self.view_is
