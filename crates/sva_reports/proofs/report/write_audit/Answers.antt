use Rattle.std.proofs.Common.{rules}
use Rattle.sva_grammar.specs.Replies.{ended}
use Rattle.sva_streams.proofs.StreamLemmas.{writes_as}
use Rattle.sva_reports.proofs.report.write_audit.Goals as goal

pub returns-clause-written : goal.returns-clause-written
returns-clause-written g c = writes_as _ _ (ended c.put_count.new.line.items) _ c.end_line.result (search rules) c.end_line.ensures.written
