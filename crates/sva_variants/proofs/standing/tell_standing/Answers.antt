use Rattle.std.proofs.Common.{◌∙◌, ◌++◌, ap, subst}
use Rattle.std.specs.List.{AllZip}
use Rattle.sva_variants.specs.Platforms.{IsOn, others_of, report_text, ruling_of}
use Rattle.sva_variants.proofs.Trials.{are_on}
use Rattle.sva_variants.proofs.standing.tell_standing.Goals as goal

pub returns : goal.returns
returns g c =
    are_on c.args.text.now c.args.most c.args.first c.args.own.now c.in_ok-settings.settings.items c.in_ok-others.others.items
    c.in_ok-all.all.items _ c.args.out.now.items c.put_standing.new.out.items c.in_ok-settings.ensures
    (c.in_ok-others.ensures ∙ ap others_of c.as_slice.ensures.value)
    (subst (λ others. AllZip (IsOn c.args.text.now c.args.most) others c.in_ok-all.all.items) c.as_slice-2.ensures.value c.in_ok-all.ensures)
    (c.ruling_of.ensures ∙ ap (ruling_of c.args.first) c.as_slice-4.ensures.value) c.requires
    (c.in_ok-put_standing.ensures ∙ ap (λ all. c.args.out.now.items ++ report_text c.args.own.now all) c.as_slice-3.ensures.value)
