use Rattle.std.proofs.Common.{sym, ap, ◌∙◌, Bool}
use Rattle.std.specs.Prelude.{if◌then◌else◌, None}
use Rattle.sva_model.specs.Wire.{Wire}
use Rattle.sva_labels.specs.Finding.{page_at, pages_in}
use Rattle.sva_host_state.proofs.Requested.{found_by}
use Rattle.sva_host.proofs.link.requests.translation.Goals as goal

pub returns-in_default : goal.returns-in_default
returns-in_default c = found_by c.host.inside _ c.args.endpoint c.args.pasid c.args.page _ c.host.view_is c.in_default.ensures

pub returns-then-not-is_live : goal.returns-then-not-is_live
returns-then-not-is_live c =
    sym (ap (λ (b : Bool). if b then page_at (pages_in c.args.host.now c.in-Some.place.now.space) c.args.page else None) (sym c.is_live.ensures
    ∙ c.if-not-is_live.true))
    ∙ found_by c.host.inside _ c.args.endpoint c.args.pasid c.args.page _ c.host.view_is c.in-Some.ensures

pub returns : goal.returns
returns c =
    c.find.ensures
    ∙ ap (λ (w : Wire). page_at (pages_in w c.in-Some.place.now.space) c.args.page) c.host.view_is
    ∙ sym (ap (λ (b : Bool). if b then page_at (pages_in c.args.host.now c.in-Some.place.now.space) c.args.page else None) (sym c.is_live.ensures
    ∙ c.if-not-is_live.false))
    ∙ found_by c.host.inside _ c.args.endpoint c.args.pasid c.args.page _ c.host.view_is c.in-Some.ensures
