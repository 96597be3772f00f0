-- What is known of the open groups by the number of the requests that were filed.
use Rattle.std.specs.Prelude.{ℕ, ◌≤◌, length, List, All}
use Rattle.sva_prq.specs.Groups.{Groups, OpenGroup}

-- no group has more requests than this
abbrev pub AreFew : ℕ → List OpenGroup → Type 0
AreFew most groups = All (λ (group : OpenGroup). length group.asks ≤ most) groups

-- and no more groups have begun
abbrev pub HasFew : ℕ → Groups → Type 0
HasFew most groups = AreFew most groups.groups × (groups.next ≤ most)
