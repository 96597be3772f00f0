use Rattle.std.proofs.Common.{◌≡◌, ◌<◌, ◌≤◌, None, length, arith, sym, ◌∙◌, subst}
use Rattle.sva_itags.specs.Tags.{AreTags, completed}
use Rattle.sva_itags.proofs.Completions.{completed-step, completed-end, completed-tags, freed_below-lt, freed-step, freed-end}
use Rattle.sva_itags.proofs.itags.complete_places.Goals as goal

pub with_bit-freed-requires-clause-above : goal.with_bit-freed-requires-clause-above
with_bit-freed-requires-clause-above c =
    let within : c.loop-tag.tag ≤ length c.args.places.now = omega (arith, c.requires.0) in
    rw c.loop-tag.invariant.freed (freed_below-lt c.args.vector c.args.count c.loop-tag.tag c.args.places.now within)

pub loop-tag-preserved : goal.loop-tag-preserved
loop-tag-preserved c =
    let within : c.loop-tag.tag < length c.args.places.now = omega (arith, c.requires.0) in
    record {
      places = completed-step c.args.vector c.args.count c.loop-tag.tag c.args.places.now c.loop-tag.places None c.after_completion.result
          c.is_tag_named.result within c.loop-tag.invariant.places c.is_tag_named.ensures c.after_completion.ensures;
      freed =
          rw (c.with_bit-freed.ensures, c.is_freed.ensures, c.loop-tag.invariant.freed)
          (freed-step c.args.vector c.args.count c.loop-tag.tag c.args.places.now c.loop-tag.places None c.after_completion.result
          c.is_tag_named.result within c.loop-tag.invariant.places c.is_tag_named.ensures c.after_completion.ensures);
    }

pub returns-clause-freed : goal.returns-clause-freed
returns-clause-freed c =
    let all : c.loop-tag.tag ≡ length c.args.places.now = omega (arith, c.requires.0) in
    c.loop-tag.invariant.freed ∙ freed-end c.args.vector c.args.count c.loop-tag.tag c.args.places.now all

pub returns-clause-places : goal.returns-clause-places
returns-clause-places c =
    let all : c.loop-tag.tag ≡ length c.args.places.now = omega (arith, c.requires.0) in
    completed-end c.args.vector c.args.count c.loop-tag.tag c.args.places.now c.loop-tag.places all c.loop-tag.invariant.places

pub returns-clause-tags : goal.returns-clause-tags
returns-clause-tags c =
    let all : c.loop-tag.tag ≡ length c.args.places.now = omega (arith, c.requires.0) in
    let is_done : c.loop-tag.places ≡ completed c.args.vector c.args.count c.args.places.now =
    completed-end c.args.vector c.args.count c.loop-tag.tag c.args.places.now c.loop-tag.places all c.loop-tag.invariant.places in
    subst AreTags (sym is_done)
    (completed-tags c.args.vector c.args.count c.args.places.now (omega (arith, c.get.ensures.value, c.get.ensures.within))
    (omega (arith, c.get.ensures.value, c.get.ensures.within)) c.requires)
