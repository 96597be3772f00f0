use Rattle.std.proofs.Common.{◌==◌, sym, ap, ◌∙◌}
use Rattle.std.specs.Prelude.{◌||◌, is_some}
use Rattle.std.specs.List.{list_any}
use Rattle.sva_address_spaces.proofs.PageLists.{is_mapped-seen}
use Rattle.sva_address_spaces.proofs.asked.is_known.Goals as goal

pub returns-then-is_some : goal.returns-then-is_some
returns-then-is_some c =
    ap (λ b. b || list_any (λ q. q == c.args.page) c.args.listed.now)
    (c.if-is_some.ensures ∙ ap is_some c.find.ensures.value ∙ sym (is_mapped-seen c.args.space.now c.args.page))

pub returns : goal.returns
returns c =
    c.contains.ensures.value
    ∙ ap (λ b. b || list_any (λ q. q == c.args.page) c.args.listed.now)
    (c.if-is_some.ensures ∙ ap is_some c.find.ensures.value ∙ sym (is_mapped-seen c.args.space.now c.args.page))
