use Rattle.std.specs.Prelude.{refl}
use Rattle.sva_model.specs.Words.{lowest, any_below, all_below, count_below, select, tabulate}
use Rattle.sva_labels.specs.Host.{replies_of}
use Rattle.sva_refinement.specs.ByLabels.{counts_after}
use Rattle.sva_refinement.proofs.by_labels.what_stays_by_labels.Goals as goal

pub returns : goal.returns
unfolding lowest any_below all_below count_below select tabulate replies_of counts_after
returns c =
    record {
      same_page_of_two_pasids = (refl, refl);
      evict_of_one_page = (refl, refl);
      no_translation_beside_an_older = (refl, refl);
      cache_full_of_two = (refl, refl);
    }
