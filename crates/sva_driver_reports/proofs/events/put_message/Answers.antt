use Rattle.sva_open.specs.World.{Part}
use Rattle.std.proofs.Common.{◌∙◌, ◌++◌, ap, codes, take}
use Rattle.std.specs.Prelude.{count_by}
use Rattle.sva_open.specs.Finding.{is_of_kind, kind_of}
use Rattle.sva_driver_words.specs.Pieces.{and_older, kind_text, with_endpoint}
use Rattle.sva_driver_reports.specs.Events.{older_messages}
use Rattle.sva_driver_reports.proofs.Rests.{joined}
use Rattle.sva_driver_reports.proofs.events.put_message.Goals as goal

pub returns : goal.returns
returns c =
    let out = c.args.out.now.items in
    let kind_is = c.kind_of-kind.ensures in
    let said-1 = codes "deliver " in
    let so_far-2 = joined out _ _ said-1 (with_endpoint (kind_text
    (kind_of c.args.sent.now.message)) c.args.endpoint) c.in_ok-extend_from_slice.ensures.items (c.in_ok-put_endpoint.ensures
    ∙ ap (λ word. c.extend_from_slice.new.self.items ++ with_endpoint word c.args.endpoint)
    (c.as_bytes.ensures.value ∙ c.kind_text.ensures ∙ ap kind_text kind_is)) in
    let said-2 = said-1 ++ with_endpoint (kind_text (kind_of c.args.sent.now.message)) c.args.endpoint in
    joined out _ _ said-2 (and_older (older_messages c.args.part.now.flight c.args.place c.args.sent.now)) so_far-2 (c.in_ok-put_older.ensures
    ∙ ap (λ older. c.put_endpoint.new.out.items ++ and_older older)
    (c.older_messages.ensures ∙ (λ i. count_by (is_of_kind (kind_is i)) (take c.args.place ((c.as_slice.ensures.value
    ∙ ap (λ (p : Part). p.flight) c.part.view_is) i)))))
