use Rattle.std.proofs.Common.{rules, ◌≡◌, ◌<◌, ◌≤◌, ℕ, length, set, sym, ◌∙◌, ap, subst, arith}
use Rattle.std.proofs.Math.ListN.{length-set}
use Rattle.std.specs.FinMap as finite
use Rattle.arrayvec.proofs.ArrayVecLemmas.{items-with_items}
use Rattle.sva_endpoint.specs.Cache.{Key, has_room_for}
use Rattle.sva_endpoint.proofs.Edits.{found_within, found_written, gap_within, gap_put, gap_room, inserted}
use Rattle.sva_endpoint.proofs.cached.Cache.insert.Goals as goal

pub offset_bounds-deref_mut-place : goal.offset_bounds-deref_mut-place
offset_bounds-deref_mut-place c =
    let within = found_within c.self.inside.entries.items c.args.self.now c.self.invariant.0 c.self.view_is c.new-key.result c.in-Ok.place
    c.in-Ok.ensures.place in
    omega arith

pub bounds-deref_mut-place : goal.bounds-deref_mut-place
bounds-deref_mut-place c =
    subst (λ xs. c.in-Ok.place < length xs) (sym c.deref_mut.ensures.value)
    (found_within c.self.inside.entries.items c.args.self.now c.self.invariant.0 c.self.view_is c.new-key.result c.in-Ok.place c.in-Ok.ensures.place)

pub invariant_of-self : goal.invariant_of-self
invariant_of-self c =
    let long = length-set c.deref_mut.result.now c.in-Ok.place (c.new-key.result, c.args.translation) ∙ ap length c.deref_mut.ensures.value in
    let is = items-with_items c.self.inside.entries (set c.deref_mut.result.now c.in-Ok.place (c.new-key.result, c.args.translation)) long in
    let same = is ∙ ap (λ xs. set xs c.in-Ok.place (c.new-key.result, c.args.translation)) c.deref_mut.ensures.value in
    let written = found_written c.self.inside.entries.items c.args.self.now c.self.invariant.0 c.self.view_is c.new-key.result c.in-Ok.place
    c.in-Ok.ensures.place c.args.translation in
    let done = inserted c.self.inside.entries.items c.args.self.now c.self.invariant.0 c.self.view_is _ c.new-key.result c.args.translation
    (same ∙ written) in
    (done.0, subst (λ (n : ℕ). n ≤ 64) (sym (ap length is ∙ long)) c.self.invariant.1)

pub insert-requires : goal.insert-requires
insert-requires c =
    let key : c.new-key.result ≡ (c.args.pasid, c.args.page) = c.new-key.ensures ∙ ap (λ (p : ℕ). (p, c.args.page)) c.from.ensures in (
      search rules,
      (
        gap_within c.self.inside.entries.items c.args.self.now c.self.invariant.0 c.self.view_is c.new-key.result c.in-Err.place c.in-Err.ensures.place,
        gap_room c.self.inside.entries.items c.args.self.now c.self.invariant.0 c.self.view_is c.new-key.result c.in-Err.place c.in-Err.ensures.place
            (ap (has_room_for c.args.self.now) key ∙ c.requires),
      ),
    )

pub invariant_of-self-in-Err : goal.invariant_of-self-in-Err
invariant_of-self-in-Err c =
    let key : c.new-key.result ≡ (c.args.pasid, c.args.page) = c.new-key.ensures ∙ ap (λ (p : ℕ). (p, c.args.page)) c.from.ensures in
    let put_in = gap_put c.self.inside.entries.items c.args.self.now c.self.invariant.0 c.self.view_is c.new-key.result c.in-Err.place
    c.in-Err.ensures.place c.args.translation in
    let done = inserted c.self.inside.entries.items c.args.self.now c.self.invariant.0 c.self.view_is _ c.new-key.result c.args.translation
    (c.insert.ensures.items ∙ put_in) in
    let room = gap_room c.self.inside.entries.items c.args.self.now c.self.invariant.0 c.self.view_is c.new-key.result c.in-Err.place c.in-Err.ensures.place
    (ap (has_room_for c.args.self.now) key ∙ c.requires) in
    let count = c.insert.ensures.len in
    (done.0, omega arith)

pub returns-in-Ok : goal.returns-in-Ok
returns-in-Ok c =
    let long = length-set c.deref_mut.result.now c.in-Ok.place (c.new-key.result, c.args.translation) ∙ ap length c.deref_mut.ensures.value in
    let is = items-with_items c.self.inside.entries (set c.deref_mut.result.now c.in-Ok.place (c.new-key.result, c.args.translation)) long in
    let same = is ∙ ap (λ xs. set xs c.in-Ok.place (c.new-key.result, c.args.translation)) c.deref_mut.ensures.value in
    let written = found_written c.self.inside.entries.items c.args.self.now c.self.invariant.0 c.self.view_is c.new-key.result c.in-Ok.place
    c.in-Ok.ensures.place c.args.translation in
    let done = inserted c.self.inside.entries.items c.args.self.now c.self.invariant.0 c.self.view_is _ c.new-key.result c.args.translation
    (same ∙ written) in
    let key : c.new-key.result ≡ (c.args.pasid, c.args.page) = c.new-key.ensures ∙ ap (λ (p : ℕ). (p, c.args.page)) c.from.ensures in
    done.1 ∙ ap (λ (k : Key). finite.insert c.args.self.now k c.args.translation) key

pub returns-in-Err : goal.returns-in-Err
returns-in-Err c =
    let key : c.new-key.result ≡ (c.args.pasid, c.args.page) = c.new-key.ensures ∙ ap (λ (p : ℕ). (p, c.args.page)) c.from.ensures in
    let put_in = gap_put c.self.inside.entries.items c.args.self.now c.self.invariant.0 c.self.view_is c.new-key.result c.in-Err.place
    c.in-Err.ensures.place c.args.translation in
    let done = inserted c.self.inside.entries.items c.args.self.now c.self.invariant.0 c.self.view_is _ c.new-key.result c.args.translation
    (c.insert.ensures.items ∙ put_in) in
    done.1 ∙ ap (λ (k : Key). finite.insert c.args.self.now k c.args.translation) key
