use Rattle.std.proofs.Common.{◌∙◌, ap, sym, option_map}
use Rattle.std.specs.Prelude.{slice_get}
use Rattle.std.proofs.lemmas.Option.{slice_get-map}
use Rattle.sva_iommu.specs.Seen.{UnitSeen}
use Rattle.sva_msg.specs.Seen.{page_request_seen}
use Rattle.sva_iommu.proofs.units.RemappingUnit.first_request.Goals as goal

pub returns : goal.returns
returns c =
    ap (option_map page_request_seen) c.head.ensures ∙ sym (slice_get-map page_request_seen c.self.inside.requests 0)
    ∙ ap (λ (s : UnitSeen). slice_get s.page_queue 0) c.self.view_is
