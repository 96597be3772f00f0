use Rattle.std.proofs.Common.{sym, ap, ◌∙◌, subst}
use Rattle.std.specs.Prelude.{Option, List, IsOk}
use Rattle.sva_model.specs.Wire.{PageWire}
use Rattle.sva_labels.specs.Finding.{pages_of, or_no_pages}
use Rattle.sva_labels.specs.Finding as finding
use Rattle.sva_address_spaces.specs.Seen.{AddressSpacesSeen, pages_seen, places_seen, targets_seen}
use Rattle.sva_address_spaces.specs.Inner.{spaces_in}
use Rattle.sva_labels.specs.Causes.{page_causes_of_unmap}
use Rattle.sva_address_spaces.specs.Unmapping.{may_unmap, frames_of, unmapped}
use Rattle.sva_address_spaces.specs.Room.{HaveRoom}
use Rattle.sva_address_spaces.proofs.Permits.{may_unmap-tests}
use Rattle.sva_address_spaces.proofs.Waiting.{room_of}
use Rattle.sva_address_spaces.proofs.LiveLists.{owns-at, pages_of-at}
use Rattle.sva_address_spaces.proofs.ChangedSpace.{has_space, one_changed, stays_the_same}
use Rattle.sva_address_spaces.proofs.Unmapped.{is_there, tested, taken_out}
use Rattle.sva_address_spaces.proofs.address_spaces.AddressSpaces.unmap.Goals as goal

pub unreachable-requires : goal.unreachable-requires
unreachable-requires c =
    is_there (λ pages. page_causes_of_unmap pages c.args.page c.args.count) c.self.inside c.args.space _
    (subst (λ (m : AddressSpacesSeen). IsOk (may_unmap m c.args.space c.args.page c.args.count)) (sym c.self.view_is) c.requires.may) c.in_default.ensures
    c.deref.ensures.value

pub take_out-requires-clause-mapped : goal.take_out-requires-clause-mapped
take_out-requires-clause-mapped c =
    let live = c.index_mut.result.now in
    let at = has_space c.self.inside c.args.space c.in-Some.place live _ c.self.invariant c.in-Some.ensures c.deref.ensures.value c.index_mut.ensures.value in
    (may_unmap-tests (pages_seen live.space) c.args.page c.args.count
    (tested (λ pages. page_causes_of_unmap pages c.args.page c.args.count) (pages_of (spaces_in c.self.inside).spaces c.args.space) (pages_seen live.space)
    (pages_of-at c.self.inside.spaces.items c.args.space c.in-Some.place live at.there at.is_number at.once)
    (subst (λ (m : AddressSpacesSeen). IsOk (may_unmap m c.args.space c.args.page c.args.count)) (sym c.self.view_is) c.requires.may))).mapped

pub take_out-requires-clause-owned : goal.take_out-requires-clause-owned
take_out-requires-clause-owned c =
    let at = has_space c.self.inside c.args.space c.in-Some.place c.index_mut.result.now _ c.self.invariant c.in-Some.ensures c.deref.ensures.value
    c.index_mut.ensures.value in
    owns-at c.self.inside.spaces.items c.self.inside.pool c.in-Some.place c.index_mut.result.now c.self.invariant.owned at.there

pub take_out-requires-clause-room : goal.take_out-requires-clause-room
take_out-requires-clause-room c =
    room_of c.self.inside.pool c.args.waits.now
    (subst (λ (m : AddressSpacesSeen). HaveRoom m.places (targets_seen c.args.waits.now)) (sym c.self.view_is) c.requires.room)

pub invariant_of-self : goal.invariant_of-self
invariant_of-self c =
    let at = has_space c.self.inside c.args.space c.in-Some.place c.index_mut.result.now _ c.self.invariant c.in-Some.ensures c.deref.ensures.value
    c.index_mut.ensures.value in
    stays_the_same c.self.inside c.args.space c.in-Some.place c.index_mut.result.now c.take_out.new.space c.take_out.new.pool c.self.invariant at
    c.take_out.ensures.balanced

pub returns-clause-frames : goal.returns-clause-frames
returns-clause-frames c =
    let live = c.index_mut.result.now in
    let at = has_space c.self.inside c.args.space c.in-Some.place live _ c.self.invariant c.in-Some.ensures c.deref.ensures.value c.index_mut.ensures.value in
    c.take_out.ensures.frames
    ∙ sym (ap (λ (o : Option (List PageWire)). finding.frames_of (or_no_pages o) c.args.page c.args.count)
    (pages_of-at c.self.inside.spaces.items c.args.space c.in-Some.place live at.there at.is_number at.once))
    ∙ ap (λ (m : AddressSpacesSeen). frames_of m c.args.space c.args.page c.args.count) c.self.view_is

pub returns-clause-after : goal.returns-clause-after
returns-clause-after c =
    let live = c.index_mut.result.now in
    let at = has_space c.self.inside c.args.space c.in-Some.place live _ c.self.invariant c.in-Some.ensures c.deref.ensures.value c.index_mut.ensures.value in
    taken_out (spaces_in c.self.inside) c.args.space c.args.page c.args.count (targets_seen c.args.waits.now) (pages_seen live.space)
    (pages_seen c.take_out.new.space) _ (places_seen c.take_out.new.pool)
    (one_changed c.self.inside c.args.space c.in-Some.place live c.take_out.new.space at) c.take_out.ensures.pages c.take_out.ensures.places
    ∙ ap (λ (m : AddressSpacesSeen). unmapped m c.args.space c.args.page c.args.count (targets_seen c.args.waits.now)) c.self.view_is
