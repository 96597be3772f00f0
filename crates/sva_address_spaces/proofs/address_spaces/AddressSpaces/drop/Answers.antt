use Rattle.sva_address_spaces.proofs.LiveLists.{owns-last, owned-rest}
use Rattle.sva_address_spaces.proofs.address_spaces.AddressSpaces.drop.Goals as goal

pub give_all-requires : goal.give_all-requires
give_all-requires c = owns-last c.loop-live.spaces.items c.pop.new.self.items c.loop-live.pool c.in-Some.live c.in-Some.ensures.items c.loop-live.invariant

pub loop-live-preserved : goal.loop-live-preserved
loop-live-preserved c =
    owned-rest c.loop-live.spaces.items c.pop.new.self.items c.loop-live.pool c.give_all.new.pool c.in-Some.live c.in-Some.ensures.items
    c.loop-live.invariant c.give_all.ensures.spent
