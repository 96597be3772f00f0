use Rattle.sva_laws.proofs.Runs.{always}
use Rattle.sva_refinement.proofs.SpacesByNumber.{space_of}
use Rattle.sva_refinement.proofs.PagesOfSpaces.{page_at_is}
use Rattle.sva_refinement.proofs.PlacesByNumber.{lowest_is}
use Rattle.sva_model.specs.Steps.{world_after}
use Rattle.sva_refinement.proofs.found_by_number.Goals as goal

pub returns : goal.returns
returns c =
    record {
      spaces = λ rule config steps n. space_of (world_after rule config steps) n;
      pages = λ rule config steps s q. page_at_is (world_after rule config steps) (always rule config steps).mapped s q;
      frames = λ rule config steps. lowest_is (world_after rule config steps);
    }
