use Rattle.std.proofs.Common.{◌<◌, ◌≡◌, None, length, map, is_some, arith, ap, sym, ◌∙◌}
use Rattle.std.proofs.lemmas.List.{length-map, get_or-map}
use Rattle.sva_itags.specs.Tags.{busy_vector}
use Rattle.sva_itags.proofs.VectorLemmas.{take_lt, take-more, take-all}
use Rattle.sva_itags.proofs.Exact.{busy_exactly}
use Rattle.sva_itags.proofs.itags.Itags.busy.Goals as goal

pub with_bit-busy-requires-clause-above : goal.with_bit-busy-requires-clause-above
with_bit-busy-requires-clause-above c =
    rw c.loop-tag.invariant (take_lt (map is_some c.deref-place-items.result.now) c.loop-tag.tag (rw length-map (omega arith)))

pub loop-tag-preserved : goal.loop-tag-preserved
loop-tag-preserved c =
    let items : length c.deref-place-items.result.now ≡ 32 = ap length c.deref-place-items.ensures.0 ∙ c.self.invariant.0 in
    let within : c.loop-tag.tag < length c.deref-place-items.result.now = omega (arith, items) in
    let more = take-more (map is_some c.deref-place-items.result.now) c.loop-tag.tag c.is_some.result (rw length-map within) (c.is_some.ensures
    ∙ sym (get_or-map is_some c.deref-place-items.result.now c.loop-tag.tag None c.is_some.result within)) in
    rw (c.with_bit-busy.ensures, c.loop-tag.invariant) (sym more)

pub returns-clause-vector : goal.returns-clause-vector
returns-clause-vector c =
    let all : c.loop-tag.tag ≡ length (map is_some c.deref-place-items.result.now) = rw length-map (omega arith) in
    let whole : c.loop-tag.busy ≡ busy_vector c.deref-place-items.result.now =
    c.loop-tag.invariant ∙ take-all (map is_some c.deref-place-items.result.now) c.loop-tag.tag all in
    whole ∙ ap busy_vector (c.deref-place-items.ensures.0 ∙ c.self.view_is)

pub returns-clause-exactly : goal.returns-clause-exactly
returns-clause-exactly c = λ t. rw (returns-clause-vector c) (busy_exactly c.args.self.now t)
