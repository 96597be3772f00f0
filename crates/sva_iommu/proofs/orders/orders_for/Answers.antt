use Rattle.std.proofs.Common.{◌≡◌, ◌+◌, ◌*◌, ◌^◌, ◌<◌, ℕ, false, [], ◌∷◌, ◌++◌, ap, sym, ◌∙◌, arith, length}
use Rattle.sva_queue.specs.declared.descriptors.Descriptor.TheVariants.{Range, Wait}
use Rattle.std.proofs.lemmas.Nat.{pow_pos}
use Rattle.sva_model.specs.Range as model
use Rattle.sva_model.specs.Range.{pages_in}
use Rattle.sva_model.specs.Unmappings.{range_at}
use Rattle.sva_iommu.specs.Seen.{ranges_for}
use Rattle.sva_iommu.proofs.Ranges.{next_base, base_within, base_aligned}
use Rattle.sva_iommu.proofs.Submitted.{no_ranges, more_ranges, ranges_length}
use Rattle.sva_iommu.proofs.orders.orders_for.Goals as goal

abbrev range_of : (base order : ℕ) → model.Range
range_of base order = record { base = base; order = order }

pub loop-number-init : goal.loop-number-init
loop-number-init c =
    record {
      items = c.new-orders.ensures ∙ sym (no_ranges c.args.pasid c.args.page c.args.order);
      base = omega arith;
    }

pub new-range-requires-clause-low : goal.new-range-requires-clause-low
new-range-requires-clause-low c =
    let last = base_within c.args.page c.loop-number._number c.args.count (2 ^ c.args.order) c.loop-number-test.true in
    let some : 0 < 2 ^ c.args.order = pow_pos c.args.order in
    omega (arith, last, some, c.loop-number.invariant.base, c.requires.low)

pub new-range-requires-clause-aligned : goal.new-range-requires-clause-aligned
new-range-requires-clause-aligned c =
    rw c.loop-number.invariant.base (base_aligned c.args.page c.loop-number._number (2 ^ c.args.order) c.requires.aligned)

pub push-requires : goal.push-requires
push-requires c =
    let long = ap length c.loop-number.invariant.items ∙ ranges_length c.args.pasid c.args.page c.loop-number._number c.args.order in
    (omega arith, omega (arith, long))

pub loop-number-preserved : goal.loop-number-preserved
loop-number-preserved c =
    let range : c.new-range.result ≡ range_at c.args.page c.args.order c.loop-number._number =
    c.new-range.ensures ∙ ap (λ n. range_of n c.args.order) c.loop-number.invariant.base in
    record {
      items =
          c.push.ensures.items
          ∙ ap (λ ds. ds ++ Range c.args.pasid c.new-range.result ∷ []) c.loop-number.invariant.items
          ∙ ap (λ r. ranges_for c.args.pasid c.args.page c.loop-number._number c.args.order ++ Range c.args.pasid r ∷ []) range
          ∙ sym (more_ranges c.args.pasid c.args.page c.loop-number._number c.args.order);
      base =
          ap (λ n. n + c.pages-base.result) c.loop-number.invariant.base
          ∙ ap (λ n. c.args.page + c.loop-number._number * 2 ^ c.args.order + n) (c.pages-base.ensures.pages ∙ ap pages_in range)
          ∙ next_base c.args.page c.loop-number._number (2 ^ c.args.order);
    }

pub push-requires-2 : goal.push-requires-2
push-requires-2 c =
    let long = ap length c.loop-number.invariant.items ∙ ranges_length c.args.pasid c.args.page c.loop-number._number c.args.order in
    (omega arith, omega (arith, long))

pub returns : goal.returns
returns c =
    let whole : c.loop-number._number ≡ c.args.count = omega arith in
    c.push-2.ensures.items
    ∙ ap (λ ds. ds ++ Wait c.args.cookie false ∷ []) (c.loop-number.invariant.items ∙ ap (λ n. ranges_for c.args.pasid c.args.page n c.args.order) whole)
