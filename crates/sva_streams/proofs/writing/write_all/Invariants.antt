use Rattle.std.proofs.Common.{length, ◌-◌, ◌≡◌, ◌+◌, ◌≤◌, take}
use Rattle.std.specs.Io.KnownBytes.{Appends}
use Rattle.sva_streams.proofs.writing.write_all.Given as goal

-- a prefix of the bytes is written, by calls that each took one or more
abbrev pub invariant-loop-written : goal.invariant-loop-written
invariant-loop-written g l = record {
  inside : l.written ≤ length l.bytes;
  front : Appends (g.W.Write.contents l.fn.writer.inner) (g.W.Write.contents l.writer.inner) (take l.written l.bytes);
  calls : l.writer.calls ≤ l.fn.writer.calls + l.written;
  failures : l.writer.failures ≡ l.fn.writer.failures;
}

abbrev pub decreases-loop-written : goal.decreases-loop-written
decreases-loop-written g l = length l.bytes - l.written
