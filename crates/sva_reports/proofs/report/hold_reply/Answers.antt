use Rattle.std.proofs.Common.{◌≡◌, rules, subst}
use Rattle.sva_grammar.specs.Replies.{ended, reply_text}
use Rattle.sva_streams.specs.Streams.{AppendsPrefix}
use Rattle.sva_reports.proofs.ReportLemmas.{holds_front}
use Rattle.sva_streams.proofs.StreamLemmas.{AppendsPrefix-longer}
use Rattle.sva_reports.proofs.report.hold_reply.Goals as goal

pub returns-in_err-flush-clause-held : goal.returns-in_err-flush-clause-held
returns-in_err-flush-clause-held g c =
    let same : c.truncate.new.self.items ≡ c.args.held.now.items = search rules in
    holds_front _ _ c.args.held.now.items _ (ended (reply_text c.args.reply.now)) c.from_residual.result c.from_residual.ensures.0
    (AppendsPrefix-longer _ _ c.args.held.now.items (ended (reply_text c.args.reply.now)) (subst (AppendsPrefix _ _) same c.in_err-flush.ensures.written))
