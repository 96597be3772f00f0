use Rattle.std.proofs.Common.{◌∙◌, ◌&&◌, ap, not, sym}
use Rattle.sva_labels.specs.Causes.{lacks, queue_full, waits_needed}
use Rattle.sva_explain.proofs.UnmapCauses.{unmap_accepted}
use Rattle.sva_explain.proofs.enabled.unmapping.can_unmap.Goals as goal

pub returns-then-is_page_of : goal.returns-then-is_page_of
returns-then-is_page_of c =
    let wire = c.args.snapshot.now in
    let rest = not (queue_full wire c.args.space 2).0 && not (lacks wire.next_cookie (waits_needed wire c.args.space)) in
    let holds = sym c.is_page_of.ensures ∙ c.if-is_page_of.true in
    c.may_submit.ensures ∙ sym (ap (λ b. b && rest) holds) ∙ sym (unmap_accepted wire c.args.space c.args.page)

pub returns-else-is_page_of : goal.returns-else-is_page_of
returns-else-is_page_of c =
    let wire = c.args.snapshot.now in
    let rest = not (queue_full wire c.args.space 2).0 && not (lacks wire.next_cookie (waits_needed wire c.args.space)) in
    let fails = sym c.is_page_of.ensures ∙ c.if-is_page_of.false in
    c.if-is_page_of.false ∙ sym (ap (λ b. b && rest) fails) ∙ sym (unmap_accepted wire c.args.space c.args.page)
