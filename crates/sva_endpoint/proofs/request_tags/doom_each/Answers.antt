use Rattle.std.proofs.Common.{rules}
use Rattle.std.proofs.lemmas.List.Edits.{map_over_more}
use Rattle.sva_endpoint.specs.RequestTags.{doomed_by}
use Rattle.sva_endpoint.proofs.request_tags.doom_each.Goals as goal

pub loop-place-preserved : goal.loop-place-preserved
loop-place-preserved c = search (rules, map_over_more (doomed_by c.args.invalidation.now))
