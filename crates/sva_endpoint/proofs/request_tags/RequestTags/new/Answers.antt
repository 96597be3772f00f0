use Rattle.std.proofs.Common.{rules}
use Rattle.sva_endpoint.proofs.request_tags.RequestTags.new.Goals as goal

pub returns : goal.returns
returns c = search rules
