use Rattle.std.proofs.Common.{◌≡◌, ◌++◌, ◌+◌, ◌-◌}
use Rattle.sva_address_spaces.specs.Seen.{pages_seen}
use Rattle.sva_why.specs.Causes.{unmapped_lines}
use Rattle.sva_why.proofs.causes.put_unmapped.Given as goal

-- what was said and what is left make the whole
abbrev pub invariant-loop-offset : goal.invariant-loop-offset
invariant-loop-offset l =
    l.out.items ++ unmapped_lines (pages_seen l.pages) (l.page + l.offset) (l.count - l.offset)
    ≡ l.initial.out.items ++ unmapped_lines (pages_seen l.pages) l.page l.count
