use Rattle.std.proofs.Common.{ap, ◌∙◌, count_by}
use Rattle.sva_frames.specs.Frames.{is_free, is_mapped, is_withheld}
use Rattle.sva_labels.specs.Finding.{is_free as is_free_wire}
use Rattle.sva_address_spaces.specs.Seen.{AddressSpacesSeen}
use Rattle.sva_address_spaces.specs.Steps.{is_mapped_place, is_withheld_place}
use Rattle.sva_address_spaces.proofs.FrameLists.{is_free-seen, count-seen, mapped-seen, withheld-seen}
use Rattle.sva_address_spaces.proofs.address_spaces.AddressSpaces.counts.Goals as goal

pub returns : goal.returns
returns c = record {
  free = c.counts.ensures.free ∙ count-seen is_free is_free_wire is_free-seen c.self.inside.pool
      ∙ ap (λ (m : AddressSpacesSeen). count_by is_free_wire m.places) c.self.view_is;
  mapped = c.counts.ensures.mapped ∙ count-seen is_mapped is_mapped_place mapped-seen c.self.inside.pool
      ∙ ap (λ (m : AddressSpacesSeen). count_by is_mapped_place m.places) c.self.view_is;
  withheld = c.counts.ensures.withheld ∙ count-seen is_withheld is_withheld_place withheld-seen c.self.inside.pool
      ∙ ap (λ (m : AddressSpacesSeen). count_by is_withheld_place m.places) c.self.view_is;
}
