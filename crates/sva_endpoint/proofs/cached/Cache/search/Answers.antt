use Rattle.std.proofs.Common.{◌≡◌, ◌+◌, ◌-◌, ◌/◌, ◌≤◌, length, sym, ◌∙◌, ap, refl, subst, arith}
use Rattle.std.specs.Prelude.{T}
use Rattle.std.specs.Option.{is_some}
use Rattle.std.specs.FinMap as finite
use Rattle.std.specs.FinMap.{find, is_sorted}
use Rattle.sva_endpoint.specs.Cache.{key_cmp, key_cmp_total, smaller_first}
use Rattle.sva_endpoint.proofs.Edits.{length_is, all_comparisons}
use Rattle.sva_endpoint.proofs.CachePlaces.{at_most_length, less_at, greater_at, equal_at}
use Rattle.sva_endpoint.proofs.Search.{halves, halvings_below, halvings_above, halvings_met, halvings_none, closed, found_at, not_found_at}
use Rattle.sva_endpoint.proofs.cached.Cache.search.Goals as goal

pub loop-low-init : goal.loop-low-init
loop-low-init c =
    let es = c.as_slice-entries.result.now in
    let long : length es ≤ 64 = subst (λ xs. length xs ≤ 64) (sym c.as_slice-entries.ensures.value) c.self.invariant.1 in
    let sorted : T (is_sorted key_cmp es) = subst (λ xs. T (is_sorted key_cmp xs)) (sym c.as_slice-entries.ensures.value) c.self.invariant.0 in
    record {
      from = omega arith;
      to = at_most_length key_cmp_total c.args.key.now es sorted;
      within = omega arith;
      left = 7;
      few = omega arith;
      halved = omega arith;
      spent = refl;
      exact = refl;
      begun = omega arith;
    }

pub loop-low-preserved-in-Less : goal.loop-low-preserved-in-Less
loop-low-preserved-in-Less c =
    let es = c.as_slice-entries.result.now in
    let low = c.loop-low.low in
    let high = c.loop-low.high in
    let sorted : T (is_sorted key_cmp es) = subst (λ xs. T (is_sorted key_cmp xs)) (sym c.as_slice-entries.ensures.value) c.self.invariant.0 in
    let long : length es ≤ 64 = subst (λ xs. length xs ≤ 64) (sym c.as_slice-entries.ensures.value) c.self.invariant.1 in
    let half = halves (high - low) c.loop-low.invariant.left (omega arith) c.loop-low.invariant.halved in
    let more = c.compare.ensures.counted in
    let before = less_at key_cmp_total c.args.key.now es (low + (high - low) / 2) c.index-entries-middle.result sorted (omega arith)
    (sym c.in-Less.ensures.order) in
    let one = halvings_below c.loop-low.invariant.left half.0 low high (smaller_first key_cmp c.args.key.now es) (is_some (find key_cmp c.args.key.now es))
    half.1 (omega arith) before in
    record {
      from = c.loop-low.invariant.from;
      to = before;
      within = omega arith;
      left = half.0;
      few = omega (arith, half.1);
      halved = omega (arith, half.2);
      spent = omega (arith, half.1, c.loop-low.invariant.spent);
      exact = omega (arith, more, one, c.loop-low.invariant.exact);
      begun = omega (arith, more, long, half.1, c.loop-low.invariant.spent);
    }

pub loop-low-preserved : goal.loop-low-preserved
loop-low-preserved c =
    let es = c.as_slice-entries.result.now in
    let low = c.loop-low.low in
    let high = c.loop-low.high in
    let sorted : T (is_sorted key_cmp es) = subst (λ xs. T (is_sorted key_cmp xs)) (sym c.as_slice-entries.ensures.value) c.self.invariant.0 in
    let long : length es ≤ 64 = subst (λ xs. length xs ≤ 64) (sym c.as_slice-entries.ensures.value) c.self.invariant.1 in
    let half = halves (high - low) c.loop-low.invariant.left (omega arith) c.loop-low.invariant.halved in
    let past = greater_at key_cmp_total c.args.key.now es (low + (high - low) / 2) c.index-entries-middle.result sorted (omega arith)
    (sym c.in-Greater.ensures.order) in
    let more = c.compare.ensures.counted in
    let one = halvings_above c.loop-low.invariant.left half.0 low high (smaller_first key_cmp c.args.key.now es) (is_some (find key_cmp c.args.key.now es))
    half.1 (omega arith) past in
    record {
      from = omega (arith, past);
      to = c.loop-low.invariant.to;
      within = c.loop-low.invariant.within;
      left = half.0;
      few = omega (arith, half.1);
      halved = omega (arith, half.2);
      spent = omega (arith, half.1, c.loop-low.invariant.spent);
      exact = omega (arith, more, one, c.loop-low.invariant.exact);
      begun = omega (arith, more, long, half.1, c.loop-low.invariant.spent);
    }

pub returns-in-Equal-clause-place : goal.returns-in-Equal-clause-place
returns-in-Equal-clause-place c =
    let es = c.as_slice-entries.result.now in
    let low = c.loop-low.low in
    let high = c.loop-low.high in
    let sorted : T (is_sorted key_cmp es) = subst (λ xs. T (is_sorted key_cmp xs)) (sym c.as_slice-entries.ensures.value) c.self.invariant.0 in
    let at = equal_at key_cmp_total c.args.key.now es (low + (high - low) / 2) c.index-entries-middle.result sorted (omega arith)
    (sym c.in-Equal.ensures.order) in
    let same = c.as_slice-entries.ensures.value in
    found_at c.self.inside.entries.items c.args.self.now c.self.invariant.0 c.self.view_is c.args.key.now _
    (ap (smaller_first key_cmp c.args.key.now) (sym same) ∙ at.0) (ap (λ xs. is_some (find key_cmp c.args.key.now xs)) (sym same) ∙ at.1)

pub returns-clause-place : goal.returns-clause-place
returns-clause-place c =
    let es = c.as_slice-entries.result.now in
    let end = closed (is_some (find key_cmp c.args.key.now es)) (smaller_first key_cmp c.args.key.now es) c.loop-low.low c.loop-low.high
    c.loop-low.invariant.from c.loop-low.invariant.to (omega arith) in
    let same = c.as_slice-entries.ensures.value in
    not_found_at c.self.inside.entries.items c.args.self.now c.self.invariant.0 c.self.view_is c.args.key.now _
    (ap (smaller_first key_cmp c.args.key.now) (sym same) ∙ end.0) (ap (λ xs. is_some (find key_cmp c.args.key.now xs)) (sym same) ∙ end.1)

pub returns-in-Equal-clause-counted : goal.returns-in-Equal-clause-counted
returns-in-Equal-clause-counted c =
    let es = c.as_slice-entries.result.now in
    let low = c.loop-low.low in
    let high = c.loop-low.high in
    let sorted : T (is_sorted key_cmp es) = subst (λ xs. T (is_sorted key_cmp xs)) (sym c.as_slice-entries.ensures.value) c.self.invariant.0 in
    let half = halves (high - low) c.loop-low.invariant.left (omega arith) c.loop-low.invariant.halved in
    let at = equal_at key_cmp_total c.args.key.now es (low + (high - low) / 2) c.index-entries-middle.result sorted (omega arith)
    (sym c.in-Equal.ensures.order) in
    let one = halvings_met c.loop-low.invariant.left half.0 low high (smaller_first key_cmp c.args.key.now es) (is_some (find key_cmp c.args.key.now es))
    half.1 (omega arith) at.0 at.1 in
    let made = all_comparisons c.self.inside.entries.items c.args.self.now c.self.invariant.0 c.self.view_is c.args.key.now es
    c.as_slice-entries.ensures.value in
    omega (arith, made, one, c.compare.ensures.counted, c.loop-low.invariant.exact)

pub returns-clause-counted : goal.returns-clause-counted
returns-clause-counted c =
    let es = c.as_slice-entries.result.now in
    let none = halvings_none c.loop-low.invariant.left c.loop-low.low c.loop-low.high (smaller_first key_cmp c.args.key.now es)
    (is_some (find key_cmp c.args.key.now es)) (omega arith) in
    let made = all_comparisons c.self.inside.entries.items c.args.self.now c.self.invariant.0 c.self.view_is c.args.key.now es
    c.as_slice-entries.ensures.value in
    omega (arith, made, none, c.loop-low.invariant.exact)

pub compare-requires : goal.compare-requires
compare-requires c =
    let half = halves (c.loop-low.high - c.loop-low.low) c.loop-low.invariant.left (omega arith) c.loop-low.invariant.halved in
    omega (arith, half.1, c.loop-low.invariant.spent, c.loop-low.invariant.few, c.requires)

pub returns-in-Equal-clause-few : goal.returns-in-Equal-clause-few
returns-in-Equal-clause-few c =
    let half = halves (c.loop-low.high - c.loop-low.low) c.loop-low.invariant.left (omega arith) c.loop-low.invariant.halved in
    omega (arith, half.1, c.loop-low.invariant.spent, c.compare.ensures.counted)

pub returns-clause-few : goal.returns-clause-few
returns-clause-few c = omega (arith, c.loop-low.invariant.spent)

pub returns-in-Equal-clause-reached : goal.returns-in-Equal-clause-reached
returns-in-Equal-clause-reached c = λ some. omega (arith, c.loop-low.invariant.spent, c.loop-low.invariant.few, c.compare.ensures.counted)

pub returns-clause-reached : goal.returns-clause-reached
returns-clause-reached c =
    let es = c.as_slice-entries.result.now in
    let count : finite.len c.args.self.now ≡ length es =
    length_is _ _ c.self.invariant.0 c.self.view_is ∙ ap (λ xs. length xs) (sym c.as_slice-entries.ensures.value) in
    λ some. omega (arith, some, count, c.loop-low.invariant.begun)
