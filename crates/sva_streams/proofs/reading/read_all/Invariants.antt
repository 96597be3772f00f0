use Rattle.std.proofs.Common.{◌≡◌, ◌≤◌, vec_len}
use Rattle.sva_streams.proofs.StreamLemmas.{KeepsFront}
use Rattle.sva_streams.proofs.reading.read_all.Given as goal

-- what is kept is a prefix of what was read
abbrev pub invariant-loop-turn : goal.invariant-loop-turn
invariant-loop-turn g l = record {
  kept : KeepsFront 1048577 (g.R.Read.remaining l.fn.reader.inner) (g.R.Read.remaining l.reader.inner) l.kept.items;
  room : vec_len l.kept ≤ 1048577;
  calls : l.reader.calls ≡ l._turn;
  failures : l.reader.failures ≡ 0;
}
