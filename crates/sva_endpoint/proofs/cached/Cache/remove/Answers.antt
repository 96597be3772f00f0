use Rattle.std.proofs.Common.{rules, sym, ◌∙◌, ap, arith}
use Rattle.std.specs.FinMap as finite
use Rattle.sva_endpoint.proofs.Edits.{found_within, found_removed, gap_left, removed}
use Rattle.sva_endpoint.proofs.cached.Cache.remove.Goals as goal

pub remove-requires : goal.remove-requires
remove-requires c = (
  search rules,
  found_within c.self.inside.entries.items c.args.self.now c.self.invariant.0 c.self.view_is c.new.result c.in-Ok.place
      c.in-Ok.ensures.place,
)

pub invariant_of-self : goal.invariant_of-self
invariant_of-self c =
    let left = found_removed c.self.inside.entries.items c.args.self.now c.self.invariant.0 c.self.view_is c.new.result c.in-Ok.place c.in-Ok.ensures.place in
    let done = removed c.self.inside.entries.items c.args.self.now c.self.invariant.0 c.self.view_is c.remove.new.self.items c.new.result
    (c.remove.ensures.items ∙ left) in
    let less = c.remove.ensures.len in
    (done.0, omega arith)

pub returns-in-Ok : goal.returns-in-Ok
returns-in-Ok c =
    let left = found_removed c.self.inside.entries.items c.args.self.now c.self.invariant.0 c.self.view_is c.new.result c.in-Ok.place c.in-Ok.ensures.place in
    let done = removed c.self.inside.entries.items c.args.self.now c.self.invariant.0 c.self.view_is c.remove.new.self.items c.new.result
    (c.remove.ensures.items ∙ left) in
    done.1 ∙ ap (finite.remove c.args.self.now) c.new.ensures

pub returns-in_default : goal.returns-in_default
returns-in_default c =
    let same = gap_left c.self.inside.entries.items c.args.self.now c.self.invariant.0 c.self.view_is c.new.result c.in_default.field-0
    c.in_default.ensures.place in
    let done = removed c.self.inside.entries.items c.args.self.now c.self.invariant.0 c.self.view_is c.self.inside.entries.items c.new.result same in
    sym c.self.view_is ∙ done.1 ∙ ap (finite.remove c.args.self.now) c.new.ensures
