use Rattle.std.proofs.Common.{ℕ, Bool, List, refl, sym, ap, ◌∙◌}
use Rattle.sva_labels.specs.Moves.{placed}
use Rattle.sva_model.specs.Wire.PlaceWire.{FreeWire}
use Rattle.sva_address_spaces.specs.Seen.{pages_seen, places_seen}
use Rattle.sva_address_spaces.proofs.FrameLists.{first-placed}
use Rattle.sva_address_spaces.proofs.Counting.{balanced-none, balanced-on, owns-on, first-mapped, first-balanced, spent}
use Rattle.sva_address_spaces.proofs.pages.give_all.Goals as goal

pub loop-page-init : goal.loop-page-init
loop-page-init c = (balanced-none c.args.space c.args.pool.now, refl)

pub give-requires : goal.give-requires
give-requires c =
    first-mapped c.loop-page.space c.pop_first.new.self c.loop-page.pool (c.in-Some._page, (c.in-Some.frame, c.in-Some._write)) c.in-Some.ensures.some
    (owns-on c.args.space c.loop-page.space c.args.pool.now c.loop-page.pool c.requires c.loop-page.invariant.0)

pub loop-page-preserved : goal.loop-page-preserved
loop-page-preserved c = (
  balanced-on c.args.space c.loop-page.space c.pop_first.new.self c.args.pool.now c.loop-page.pool c.give.new.self c.loop-page.invariant.0
      (first-balanced c.loop-page.space c.pop_first.new.self c.loop-page.pool c.give.new.self (c.in-Some._page, (c.in-Some.frame, c.in-Some._write))
      c.in-Some.ensures.some c.give.ensures
      (owns-on c.args.space c.loop-page.space c.args.pool.now c.loop-page.pool c.requires c.loop-page.invariant.0)),
  first-placed c.loop-page.space c.pop_first.new.self c.loop-page.pool c.give.new.self (c.in-Some._page, (c.in-Some.frame, c.in-Some._write))
      c.in-Some.ensures.some c.give.ensures ∙ c.loop-page.invariant.1,
)

pub returns-clause-places : goal.returns-clause-places
returns-clause-places c =
    ap (λ (left : List (ℕ × (ℕ × Bool))). placed FreeWire (pages_seen left) (places_seen c.loop-page.pool)) (sym c.in_default.ensures.none.0)
    ∙ c.loop-page.invariant.1

pub returns-clause-spent : goal.returns-clause-spent
returns-clause-spent c = spent c.args.space c.loop-page.space c.args.pool.now c.loop-page.pool c.in_default.ensures.none.0 c.loop-page.invariant.0
