use Rattle.std.proofs.Common.{◌≡◌, rules, option_copied, option_map, slice_get}
use Rattle.sva_labels.specs.Finding.{idle}
use Rattle.sva_snapshot.specs.Shown.{endpoint_shown}
use Rattle.sva_explain.proofs.Places.{place_found}
use Rattle.sva_explain.proofs.enabled.lookups.part_at.Goals as goal

pub returns-clause-part : goal.returns-clause-part
returns-clause-part c =
    let found : option_map endpoint_shown (option_copied c.part_among.result) ≡ slice_get c.args.snapshot.now.parts c.args.endpoint = search rules in
    place_found c.args.snapshot.now.parts c.args.endpoint idle (option_map endpoint_shown (option_copied c.part_among.result)) found
