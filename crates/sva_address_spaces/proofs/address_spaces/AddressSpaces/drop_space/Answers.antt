use Rattle.std.proofs.Common.{ap, ◌∙◌, sym, subst}
use Rattle.std.specs.Prelude.{is_some}
use Rattle.sva_labels.specs.Moves.{Move}
use Rattle.sva_address_spaces.specs.Seen.{AddressSpacesSeen, pages_seen, places_seen, with_address_spaces}
use Rattle.sva_address_spaces.specs.Lives.{spaces_seen}
use Rattle.sva_address_spaces.specs.Inner.{spaces_in}
use Rattle.sva_address_spaces.specs.Steps.{Moves}
use Rattle.sva_address_spaces.specs.Steps as steps
use Rattle.sva_address_spaces.proofs.Hosts.{moves_each, by_drop}
use Rattle.sva_address_spaces.proofs.LiveLists.{owns-at, pages_of-at}
use Rattle.sva_address_spaces.proofs.Dropping.{spaces-removed, numbered-dropped, owned-dropped}
use Rattle.sva_address_spaces.proofs.ChangedSpace.{has_space, lacks_space}
use Rattle.sva_address_spaces.proofs.address_spaces.AddressSpaces.drop_space.Goals as goal

pub unreachable-requires : goal.unreachable-requires
unreachable-requires c =
    cc
    (sym c.requires ∙ sym (ap (λ (m : AddressSpacesSeen). steps.has_space m c.args.number) c.self.view_is)
    ∙ ap is_some (lacks_space c.self.inside c.args.number _ c.in_default.ensures c.deref.ensures.value))

pub give_all-requires : goal.give_all-requires
give_all-requires c =
    let at = has_space c.self.inside c.args.number c.in-Some.place c.remove-space.result _ c.self.invariant c.in-Some.ensures c.deref.ensures.value
    c.remove-space.ensures.value in
    owns-at c.self.inside.spaces.items c.self.inside.pool c.in-Some.place c.remove-space.result c.self.invariant.owned at.there

pub invariant_of-self : goal.invariant_of-self
invariant_of-self c =
    let at = has_space c.self.inside c.args.number c.in-Some.place c.remove-space.result _ c.self.invariant c.in-Some.ensures c.deref.ensures.value
    c.remove-space.ensures.value in
    record {
      numbered = numbered-dropped c.self.inside.spaces.items c.remove-space.new.self.items c.self.inside.next_space c.in-Some.place
          c.self.invariant.numbered c.remove-space.ensures.items;
      owned = owned-dropped c.self.inside.spaces.items c.remove-space.new.self.items c.self.inside.pool c.give_all.new.pool c.in-Some.place
          c.remove-space.result c.self.invariant.owned at.there c.remove-space.ensures.items c.give_all.ensures.spent;
    }

pub returns : goal.returns
returns c =
    let live = c.remove-space.result in
    let at = has_space c.self.inside c.args.number c.in-Some.place live _ c.self.invariant c.in-Some.ensures c.deref.ensures.value
    c.remove-space.ensures.value in
    subst (λ (m : AddressSpacesSeen). Moves (Move.DropSpace c.args.number) m
    (record {
      spaces = spaces_seen c.remove-space.new.self.items;
      places = places_seen c.give_all.new.pool;
      next_space =
          c.self.inside.next_space;
    })) c.self.view_is
    (moves_each (Move.DropSpace c.args.number) (spaces_in c.self.inside) _
    (λ w. by_drop (with_address_spaces w (spaces_in c.self.inside)) c.args.number (pages_seen live.space) (spaces_seen c.remove-space.new.self.items)
    (places_seen c.give_all.new.pool)
    (pages_of-at c.self.inside.spaces.items c.args.number c.in-Some.place live at.there at.is_number at.once)
    (ap spaces_seen c.remove-space.ensures.items ∙ spaces-removed c.self.inside.spaces.items c.args.number c.in-Some.place live at.there at.is_number at.once)
    c.give_all.ensures.places))
