use Rattle.std.proofs.Common.{◌<◌, length, get_or, Some, sym, ◌∙◌, ap, subst, arith}
use Rattle.std.specs.FinMap as finite
use Rattle.sva_endpoint.proofs.Edits.{found_within, found_get}
use Rattle.sva_endpoint.proofs.cached.Cache.get.Goals as goal

pub offset_bounds-deref-place : goal.offset_bounds-deref-place
offset_bounds-deref-place c =
    let within = found_within c.self.inside.entries.items c.args.self.now c.self.invariant.0 c.self.view_is c.new.result c.in-Ok.place
    c.in-Ok.ensures.place in
    omega arith

pub bounds-deref-place : goal.bounds-deref-place
bounds-deref-place c =
    subst (λ xs. c.in-Ok.place < length xs) (sym c.deref.ensures.0)
    (found_within c.self.inside.entries.items c.args.self.now c.self.invariant.0 c.self.view_is c.new.result c.in-Ok.place c.in-Ok.ensures.place)

pub bounds-deref-place-in-Ok : goal.bounds-deref-place-in-Ok
bounds-deref-place-in-Ok c =
    subst (λ xs. c.in-Ok.place < length xs) (sym c.deref.ensures.0)
    (found_within c.self.inside.entries.items c.args.self.now c.self.invariant.0 c.self.view_is c.new.result c.in-Ok.place c.in-Ok.ensures.place)

pub returns-in-Ok : goal.returns-in-Ok
returns-in-Ok c =
    let read = c.index-deref-place.is in
    ap (λ e. Some e.1) (sym read)
    ∙ found_get c.self.inside.entries.items c.args.self.now c.self.invariant.0 c.self.view_is c.new.result c.in-Ok.place c.in-Ok.ensures.place
    c.index-deref-place.result (read ∙ ap (λ xs. get_or xs c.in-Ok.place c.index-deref-place.result) c.deref.ensures.0)
    ∙ ap (finite.get c.args.self.now) c.new.ensures
