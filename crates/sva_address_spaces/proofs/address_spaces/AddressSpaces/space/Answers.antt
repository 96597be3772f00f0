use Rattle.std.proofs.Common.{◌≡◌, ◌≤◌, ◌+◌, List, [], ◌∷◌, ◌++◌, sym, ap, ◌∙◌, subst}
use Rattle.sva_address_spaces.specs.declared.live.LiveSpace.{LiveSpace}
use Rattle.sva_address_spaces.specs.Lives.{count_all, AreNumbered}
use Rattle.sva_address_spaces.specs.Owned.{mapped_bit}
use Rattle.sva_address_spaces.proofs.LiveLists.{numbered-new, owned-new}
use Rattle.sva_address_spaces.proofs.address_spaces.AddressSpaces.space.Goals as goal

pub invariant_of-self-2 : goal.invariant_of-self-2
invariant_of-self-2 c =
    let lives = c.self.inside.spaces.items in
    let added : c.push_reserved.new.self.items ≡ lives ++ record { number = c.self.inside.next_space; space = c.new.result } ∷ [] =
    c.push_reserved.ensures.items ∙ ap (λ (ls : List LiveSpace). ls ++ record { number = c.self.inside.next_space; space = c.new.result } ∷ [])
    c.reserve.ensures.items in
    record {
      numbered = subst (λ (ls : List LiveSpace). AreNumbered ls (c.self.inside.next_space + 1)) (sym added)
          (numbered-new lives c.self.inside.next_space c.new.result c.self.invariant.numbered);
      owned =
          λ f. subst (λ (ls : List LiveSpace). count_all f ls ≤ mapped_bit f c.self.inside.pool) (sym added)
          (owned-new lives c.self.inside.pool (record { number = c.self.inside.next_space; space = c.new.result }) c.self.invariant.owned c.new.ensures f);
    }
