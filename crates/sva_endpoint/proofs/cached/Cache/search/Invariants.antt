use Rattle.std.proofs.Common.{◌≡◌, ◌+◌, ◌-◌, ◌*◌, ◌<◌, ◌≤◌, ◌^◌, ℕ, length, cond}
use Rattle.std.specs.Option.{is_some}
use Rattle.std.specs.FinMap.{find}
use Rattle.sva_endpoint.specs.Cache.{key_cmp, smaller_first, halvings}
use Rattle.sva_endpoint.proofs.cached.Cache.search.Given as goal

-- The key's place is from `low` on and not past `high`, and below `high` where it is there. Less than 2^left entries are left
-- to be looked at, and as many comparisons as `left` at most will be made. Those that were made and those that are still to be
-- made are as many as all. Before the first one all entries are left, at most 64.
abbrev pub invariant-loop-low : goal.invariant-loop-low
invariant-loop-low l = record {
  from : l.low ≤ smaller_first key_cmp l.key l.entries;
  to : smaller_first key_cmp l.key l.entries + cond (is_some (find key_cmp l.key l.entries)) 1 0 ≤ l.high;
  within : l.high ≤ length l.entries;
  left : ℕ;
  few : left ≤ 7;
  halved : l.high - l.low < 2 ^ left;
  spent : l.ticks + left ≡ l.initial.ticks + 7;
  exact : l.ticks + halvings left l.low l.high (smaller_first key_cmp l.key l.entries) (is_some (find key_cmp l.key l.entries))
      ≡ l.initial.ticks + halvings 7 0 (length l.entries) (smaller_first key_cmp l.key l.entries) (is_some (find key_cmp l.key l.entries));
  begun : length l.entries ≤ l.high - l.low + 64 * (l.ticks - l.initial.ticks);
}

abbrev pub decreases-loop-low : goal.decreases-loop-low
decreases-loop-low l = l.high - l.low
