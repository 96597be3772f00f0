use Rattle.std.proofs.Common.{◌∙◌, ◌++◌, ap, subst, Some}
use Rattle.std.specs.List.{AllZip}
use Rattle.sva_variants.specs.Needed.{IsTriedBy, report_text, ruling_of}
use Rattle.sva_variants.proofs.Trials.{are_tried}
use Rattle.sva_variants.proofs.telling.tell_needed.Goals as goal

pub returns : goal.returns
returns g c =
    are_tried c.args.text.now c.args.most c.args.own.now c.in_ok-cuts.cuts.items c.in_ok-all.all.items _ c.args.out.now.items
    c.put_needed.new.out.items c.in_ok-cuts.ensures
    (subst (λ cuts. AllZip (IsTriedBy c.args.text.now c.args.most) cuts c.in_ok-all.all.items) c.as_slice.ensures.value c.in_ok-all.ensures)
    (ap Some (c.ruling_of.ensures ∙ ap ruling_of c.as_slice-3.ensures.value)) c.requires
    (c.in_ok-put_needed.ensures ∙ ap (λ all. c.args.out.now.items ++ report_text c.args.own.now all) c.as_slice-2.ensures.value)
