use Rattle.std.proofs.Common.{◌∙◌, ap, [], length}
use Rattle.std.specs.FinMap.{from_sorted, empty_of_len, len-entries, entries-from_sorted}
use Rattle.sva_endpoint.specs.Cache.{key_cmp}
use Rattle.sva_endpoint.proofs.cached.Cache.new.Goals as goal

pub returns : goal.returns
returns c =
    ap from_sorted c.new.ensures ∙ empty_of_len (from_sorted []) (len-entries (from_sorted []) ∙ ap length (entries-from_sorted key_cmp [] tt))
