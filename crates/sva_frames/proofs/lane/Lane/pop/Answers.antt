use Rattle.std.proofs.Common.{◌≡◌, Option, Some, sym, ap, arith, ◌∙◌, slice_get}
use Rattle.std.proofs.lemmas.List.{map-set}
use Rattle.std.proofs.lemmas.Option.{get_or_from_slice_get}
use Rattle.sva_frames.specs.declared.waits.Target.{Target}
use Rattle.sva_frames.specs.declared.lane.Cell.{Cell}
use Rattle.sva_frames.specs.Chains.{target_of, unlinked, first_at}
use Rattle.sva_frames.proofs.Lanes.{first_waits, none_at, lane_pop, cell_target, first_within}
use Rattle.sva_frames.proofs.lane.Lane.pop.Goals as goal

pub returns-in_err-frame-clause-none : goal.returns-in_err-frame-clause-none
returns-in_err-frame-clause-none c =
    rw c.from_residual.ensures
    (λ n. rw (← c.self.view_is)
    (none_at c.self.inside.cells.items c.self.inside.heads c.args.target c.self.invariant (sym c.in_err-frame.was ∙ c.first.ensures.first) n))

-- what holds once a first frame was found
here : (c : goal.After-set) → Some c.in_ok-frame.frame ≡ first_at c.self.inside.heads c.args.target
here c = sym c.in_ok-frame.was ∙ c.first.ensures.first

cell : (c : goal.After-set) → (cell : Cell) × (slice_get c.self.inside.cells.items c.in_ok-frame.frame ≡ Some cell) × (cell.target ≡ Some c.args.target)
cell c = first_waits c.self.inside.cells.items c.self.inside.heads c.args.target c.in_ok-frame.frame c.self.invariant (here c)

pub index-requires : goal.index-requires
index-requires c =
    omega (
      arith,
      first_within c.self.inside.cells.items c.self.inside.heads c.args.target c.in_ok-frame.frame c.self.invariant
          (sym c.in_ok-frame.was ∙ c.first.ensures.first),
    )

pub index_mut-requires : goal.index_mut-requires
index_mut-requires c =
    omega (
      arith,
      first_within c.self.inside.cells.items c.self.inside.heads c.args.target c.in_ok-frame.frame c.self.invariant
          (sym c.in_ok-frame.was ∙ c.first.ensures.first),
    )

pub invariant_of-self : goal.invariant_of-self
invariant_of-self c =
    lane_pop c.self.inside.cells.items c.self.inside.heads c.set.new.self c.args.target c.in_ok-frame.frame c.index.result.now.next c.self.invariant (here c)
    (λ x there. ap (λ (y : Cell). y.next) (c.index.ensures ∙ get_or_from_slice_get c.self.inside.cells.items c.in_ok-frame.frame x c.index.result.now there))
    c.set.ensures.here c.set.ensures.others

pub returns-clause-some : goal.returns-clause-some
returns-clause-some c =
    rw (← c.self.view_is) (cell_target c.self.inside.cells.items c.in_ok-frame.frame (cell c).0 (cell c).1 ∙ ap (λ (o : Option Target). Some o) (cell c).2)

pub returns-clause-after : goal.returns-clause-after
returns-clause-after c = map-set target_of c.self.inside.cells.items c.in_ok-frame.frame unlinked ∙ rw c.self.view_is
