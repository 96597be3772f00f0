use Rattle.std.proofs.Common.{◌≡◌, ◌∙◌, sym, ap, false, ◌||◌, rules}
use Rattle.std.specs.Prelude.{nat_lt}
use Rattle.std.specs.FinMap as finite
use Rattle.sva_endpoint.specs.Cache.{Key}
use Rattle.sva_endpoint.proofs.Edits.{length_is}
use Rattle.sva_endpoint.proofs.cached.Cache.has_room_for.Goals as goal

pub returns-else-is_some : goal.returns-else-is_some
returns-else-is_some c =
    let key : Key = (c.args.pasid, c.args.page) in
    let absent : finite.contains_key c.args.self.now key ≡ false = search rules in
    let count : finite.len c.args.self.now ≡ c.len.result = length_is _ _ c.self.invariant.0 c.self.view_is ∙ sym c.len.ensures.value in
    ap (λ n. nat_lt n 64) (sym count) ∙ ap (λ b. b || nat_lt (finite.len c.args.self.now) 64) (sym absent)
