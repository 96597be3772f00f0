use Rattle.std.proofs.Common.{◌≡◌, ◌<◌, ◌+◌, ◌^◌, ℕ, true, None, Some, length, get_or, set, find, refl, sym, ap, ◌∙◌, subst, arith, IfSome}
use Rattle.std.proofs.lemmas.Option.{MatchOption-at_some, same_Some}
use Rattle.sva_prq.specs.Groups.{OpenGroup, Groups, is_collecting, new_group, with_request, filed, job_of, job_made}
use Rattle.sva_prq.specs.Slots.{IsAt, groups_in, AreKept, MayHold}
use Rattle.sva_prq.proofs.Searches.{filed-in, filed-new, may_begin}
use Rattle.sva_prq.proofs.Slots.{passing_at, any_at, none_in, none_unfinished, found-joined, kept-joined, groups-joined, kept-begun, groups-begun}
use Rattle.sva_prq.proofs.group_table.Groups.file.Goals as goal

abbrev few : OpenGroup → Type 0
few g = length g.asks < 32

pub join-requires-clause-room : goal.join-requires-clause-room
join-requires-clause-room c g is =
    let p = is_collecting c.args.unit c.args.binding c.args.request.index in
    let old = c.self.inside.slots.slots in
    let there = passing_at p (get_or old c.in-Some.key None) c.in-Some.ensures.found in
    let found = found-joined old old c.self.inside.cells c.self.inside.next c.self.invariant.0 c.in-Some.key there.0 there.1 (λ _ _. refl) c.args.unit
    c.args.binding c.args.request there.2 in
    subst few (same_Some _ _ (sym there.1 ∙ is))
    (MatchOption-at_some _ few there.0 (ap (λ s. find p s.groups) (sym c.self.view_is) ∙ found) c.requires)

pub invariant_of-self : goal.invariant_of-self
invariant_of-self c =
    let p = is_collecting c.args.unit c.args.binding c.args.request.index in
    let old = c.self.inside.slots.slots in
    let there = passing_at p (get_or old c.in-Some.key None) c.in-Some.ensures.found in
    let updates = c.join.ensures.group there.0 there.1 in
    let len = c.join.ensures.len in
    let capacity = c.join.ensures.capacity in
    let fits = c.self.invariant.1 in (
      kept-joined old c.join.new.slots.slots c.self.inside.cells c.self.inside.next c.self.invariant.0 c.in-Some.key there.0 there.1 updates.others
          c.args.unit c.args.binding c.args.request there.2 updates.changed,
      omega (arith, len, capacity, fits),
    )

pub returns-in-Some-clause-groups : goal.returns-in-Some-clause-groups
returns-in-Some-clause-groups c =
    let p = is_collecting c.args.unit c.args.binding c.args.request.index in
    let old = c.self.inside.slots.slots in
    let new = c.join.new.slots.slots in
    let cells = c.self.inside.cells in
    let s : Groups = record { groups = groups_in old; room = c.self.inside.room; next = c.self.inside.next } in
    let there = passing_at p (get_or old c.in-Some.key None) c.in-Some.ensures.found in
    let updates = c.join.ensures.group there.0 there.1 in
    let found = found-joined old new cells c.self.inside.next c.self.invariant.0 c.in-Some.key there.0 there.1 updates.others c.args.unit
    c.args.binding c.args.request there.2 in
    (filed-in s c.args.unit c.args.binding c.args.request there.0 found (any_at p old c.in-Some.key there.0 there.1 there.2) there.2).groups (groups_in new)
    (groups-joined old new cells c.self.inside.next c.self.invariant.0 c.in-Some.key there.0 there.1 updates.others c.args.unit c.args.binding
    c.args.request there.2 c.self.inside.next updates.changed)
    ∙ ap (λ t. filed t c.args.unit c.args.binding c.args.request) c.self.view_is

pub returns-in-Some-clause-job : goal.returns-in-Some-clause-job
returns-in-Some-clause-job c =
    let p = is_collecting c.args.unit c.args.binding c.args.request.index in
    let old = c.self.inside.slots.slots in
    let s : Groups = record { groups = groups_in old; room = c.self.inside.room; next = c.self.inside.next } in
    let there = passing_at p (get_or old c.in-Some.key None) c.in-Some.ensures.found in
    let found = found-joined old old c.self.inside.cells c.self.inside.next c.self.invariant.0 c.in-Some.key there.0 there.1 (λ _ _. refl) c.args.unit
    c.args.binding c.args.request there.2 in
    c.join.ensures.job there.0 there.1
    ∙ (filed-in s c.args.unit c.args.binding c.args.request there.0 found (any_at p old c.in-Some.key there.0 there.1 there.2) there.2).job
    ∙ ap (λ t. job_made t c.args.unit c.args.binding c.args.request) c.self.view_is

pub insert_reserved-requires : goal.insert_reserved-requires
insert_reserved-requires c =
    let old = c.self.inside.slots.slots in
    let s : Groups = record { groups = groups_in old; room = c.self.inside.room; next = c.self.inside.next } in
    let none = none_unfinished old c.self.inside.cells c.self.inside.next c.args.unit c.args.binding c.args.request.index c.cell_of-place.result
    c.self.invariant.0 c.cell_of-place.ensures.cell c.in-None.ensures.absent in
    let may = may_begin s c.args.self.now c.args.unit c.args.binding c.args.request c.self.view_is
    (none_in (is_collecting c.args.unit c.args.binding c.args.request.index) old none) c.requires in
    let room : 0 < c.self.inside.room = may.0 in
    let fits = c.self.invariant.1 in
    omega (arith, room, fits)

pub overflow_sub-self : goal.overflow_sub-self
overflow_sub-self c =
    let old = c.self.inside.slots.slots in
    let s : Groups = record { groups = groups_in old; room = c.self.inside.room; next = c.self.inside.next } in
    let none = none_unfinished old c.self.inside.cells c.self.inside.next c.args.unit c.args.binding c.args.request.index c.cell_of-place.result
    c.self.invariant.0 c.cell_of-place.ensures.cell c.in-None.ensures.absent in
    let may = may_begin s c.args.self.now c.args.unit c.args.binding c.args.request c.self.view_is
    (none_in (is_collecting c.args.unit c.args.binding c.args.request.index) old none) c.requires in
    let room : 0 < c.self.inside.room = may.0 in
    omega (arith, room)

pub overflow_add-self : goal.overflow_add-self
overflow_add-self c =
    let old = c.self.inside.slots.slots in
    let s : Groups = record { groups = groups_in old; room = c.self.inside.room; next = c.self.inside.next } in
    let none = none_unfinished old c.self.inside.cells c.self.inside.next c.args.unit c.args.binding c.args.request.index c.cell_of-place.result
    c.self.invariant.0 c.cell_of-place.ensures.cell c.in-None.ensures.absent in
    let may = may_begin s c.args.self.now c.args.unit c.args.binding c.args.request c.self.view_is
    (none_in (is_collecting c.args.unit c.args.binding c.args.request.index) old none) c.requires in
    let next : c.self.inside.next + 1 < 2 ^ 64 = may.1 in
    omega (arith, next)

-- the group that begins
begun : (c : goal.After-self-in-None-1) → c.file-job.new.self ≡ with_request
    (new_group c.self.inside.next c.args.unit c.args.binding c.args.request.index) c.args.request
begun c = c.file-job.ensures.group ∙ ap (λ g. with_request g c.args.request) c.new-group.ensures

pub invariant_of-self-in-None : goal.invariant_of-self-in-None
invariant_of-self-in-None c =
    let cells = c.self.inside.cells in
    let updates = c.insert_reserved.ensures.updates in
    let g = with_request (new_group c.self.inside.next c.args.unit c.args.binding c.args.request.index) c.args.request in
    let place = c.cell_of-place.ensures.cell in
    let same_key = c.vacant_key-key.ensures.value ∙ sym c.insert_reserved.ensures.key in
    let len = c.insert_reserved.ensures.len in
    let capacity = c.insert_reserved.ensures.capacity in
    let old = c.self.inside.slots.slots in
    let s : Groups = record { groups = groups_in old; room = c.self.inside.room; next = c.self.inside.next } in
    let none = none_unfinished old c.self.inside.cells c.self.inside.next c.args.unit c.args.binding c.args.request.index c.cell_of-place.result
    c.self.invariant.0 c.cell_of-place.ensures.cell c.in-None.ensures.absent in
    let may = may_begin s c.args.self.now c.args.unit c.args.binding c.args.request c.self.view_is
    (none_in (is_collecting c.args.unit c.args.binding c.args.request.index) old none) c.requires in
    let room : 0 < c.self.inside.room = may.0 in
    let fits = c.self.invariant.1 in
    let kept =
    kept-begun c.self.inside.slots.slots c.insert_reserved.new.self.slots cells c.self.inside.next c.self.invariant.0 c.insert_reserved.result g
    c.insert_reserved.ensures.was_vacant (updates.changed ∙ ap Some (begun c)) updates.others refl c.next_cell.result none
    (λ j is.
    let lead = subst (λ o. IfSome o (λ k. (k ≡ c.vacant_key-key.result) ×
    ((i : ℕ) → MayHold (get_or cells c.cell_of-place.result None) i → (h : OpenGroup) → IsAt c.self.inside.slots.slots i h → h.last ≡ true))) is
    c.next_cell.ensures in
    (lead.0 ∙ same_key, λ k holds. lead.1 k (subst (λ n. MayHold (get_or cells n None) k) (sym place) holds))) in (
      subst (λ n. AreKept c.insert_reserved.new.self.slots (set cells n c.next_cell.result) (c.self.inside.next + 1)) (sym place) kept,
      omega (arith, len, capacity, room, fits),
    )

pub returns-in-None-clause-groups : goal.returns-in-None-clause-groups
returns-in-None-clause-groups c =
    let p = is_collecting c.args.unit c.args.binding c.args.request.index in
    let old = c.self.inside.slots.slots in
    let new = c.insert_reserved.new.self.slots in
    let s : Groups = record { groups = groups_in old; room = c.self.inside.room; next = c.self.inside.next } in
    let none = none_unfinished old c.self.inside.cells c.self.inside.next c.args.unit c.args.binding c.args.request.index c.cell_of-place.result
    c.self.invariant.0 c.cell_of-place.ensures.cell c.in-None.ensures.absent in
    let updates = c.insert_reserved.ensures.updates in
    let g = with_request (new_group c.self.inside.next c.args.unit c.args.binding c.args.request.index) c.args.request in
    (filed-new s c.args.unit c.args.binding c.args.request (none_in p old none)).groups (groups_in new)
    (groups-begun old new c.self.inside.cells c.self.inside.next c.self.invariant.0 c.insert_reserved.result g
    c.insert_reserved.ensures.was_vacant (updates.changed ∙ ap Some (begun c)) updates.others refl)
    ∙ ap (λ t. filed t c.args.unit c.args.binding c.args.request) c.self.view_is

pub returns-in-None-clause-job : goal.returns-in-None-clause-job
returns-in-None-clause-job c =
    let p = is_collecting c.args.unit c.args.binding c.args.request.index in
    let old = c.self.inside.slots.slots in
    let s : Groups = record { groups = groups_in old; room = c.self.inside.room; next = c.self.inside.next } in
    let none = none_unfinished old c.self.inside.cells c.self.inside.next c.args.unit c.args.binding c.args.request.index c.cell_of-place.result
    c.self.invariant.0 c.cell_of-place.ensures.cell c.in-None.ensures.absent in
    c.file-job.ensures.job ∙ ap (λ g. job_of (with_request g c.args.request)) c.new-group.ensures
    ∙ (filed-new s c.args.unit c.args.binding c.args.request (none_in p old none)).job
    ∙ ap (λ t. job_made t c.args.unit c.args.binding c.args.request) c.self.view_is
