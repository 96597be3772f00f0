use Rattle.std.proofs.Common.{◌∙◌, ◌++◌, ap, codes}
use Rattle.sva_driver_words.specs.Pieces.{with_endpoint}
use Rattle.sva_driver_reports.specs.Limits.{next_ask}
use Rattle.sva_driver_reports.proofs.Rests.{joined}
use Rattle.sva_driver_reports.proofs.limits.put_next_ask.Goals as goal

pub returns : goal.returns
returns c =
    let out = c.args.out.now.items in
    let said-1 = codes "not asked: " in
    let which = next_ask c.args.asks in
    let so_far-2 = joined out _ _ said-1 which c.in_ok-extend_from_slice.ensures.items
    (c.in_ok-extend_from_slice-2.ensures.items
    ∙ ap (λ l. c.extend_from_slice.new.self.items ++ l) (c.as_bytes.ensures.value ∙ c.next_ask.ensures)) in
    let said-2 = said-1 ++ which in
    let at = with_endpoint (codes " ask at endpoint") c.args.endpoint in
    let so_far-3 = joined out _ _ said-2 at so_far-2 c.in_ok-put_endpoint.ensures in
    let said-3 = said-2 ++ at in
    joined out _ _ said-3 (codes ": with caches on one may leave an entry kept, one a translation, and one meet both\n")
    so_far-3 c.in_ok-extend_from_slice-3.ensures.items
