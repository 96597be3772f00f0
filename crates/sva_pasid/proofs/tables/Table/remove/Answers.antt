use Rattle.std.proofs.Common.{◌≡◌, ◌<◌, ◌+◌, ℕ, List, Option, Some, sym, subst, ◌∙◌, ap, arith}
use Rattle.std.specs.Prelude.{option_and_then}
use Rattle.std.specs.List.{slice_index_or}
use Rattle.sva_pasid.specs.Places.{place_of, without, IsOwn}
use Rattle.sva_pasid.specs.Indexes.{IsIndexOf}
use Rattle.sva_pasid.specs.declared.places.TableEntry.{TableEntry}
use Rattle.sva_step.specs.declared.limits.TheConstants.{PASIDS}
use Rattle.sva_pasid.proofs.PlaceLemmas.{without-table, found-own}
use Rattle.sva_pasid.proofs.BearerLemmas.{bearers-without, bearer-counts}
use Rattle.sva_pasid.proofs.tables.Table.remove.Goals as goal

index-at : (b i : ℕ) (ps qs : List TableEntry) → qs ≡ ps → IsIndexOf b qs i → IsIndexOf b ps i
index-at b i ps qs same at = subst (λ (xs : List TableEntry). IsIndexOf b xs i) same at

found-at : (b i : ℕ) (ps qs : List TableEntry) (p : TableEntry) → qs ≡ ps → IsIndexOf b qs i → p ≡ slice_index_or ps i p → place_of b ps ≡ Some p
found-at b i ps qs p same at value = (index-at b i ps qs same at).found p ∙ ap (λ (x : TableEntry). Some x) (sym value)

pub bounds-self-inside-pasid : goal.bounds-self-inside-pasid
bounds-self-inside-pasid c =
    let ps = c.self.inside.places.items in
    let found = found-at c.args.binding c.in-Some.index ps c.as_slice.result.now c.remove-pasid.result c.as_slice.ensures.value c.in-Some.ensures.some
    c.remove-pasid.ensures.value in
    let own : IsOwn c.remove-pasid.result = found-own c.args.binding ps c.remove-pasid.result c.self.invariant.0.own found in
    omega (arith, own.to_last)

pub bounds-self-inside-pasid-2 : goal.bounds-self-inside-pasid-2
bounds-self-inside-pasid-2 c =
    let ps = c.self.inside.places.items in
    let found = found-at c.args.binding c.in-Some.index ps c.as_slice.result.now c.remove-pasid.result c.as_slice.ensures.value c.in-Some.ensures.some
    c.remove-pasid.ensures.value in
    let own : IsOwn c.remove-pasid.result = found-own c.args.binding ps c.remove-pasid.result c.self.invariant.0.own found in
    omega (arith, own.to_last)

pub lowered-requires : goal.lowered-requires
lowered-requires c =
    let ps = c.self.inside.places.items in
    let found = found-at c.args.binding c.in-Some.index ps c.as_slice.result.now c.remove-pasid.result c.as_slice.ensures.value c.in-Some.ensures.some
    c.remove-pasid.ensures.value in
    let own : IsOwn c.remove-pasid.result = found-own c.args.binding ps c.remove-pasid.result c.self.invariant.0.own found in
    let low : c.remove-pasid.result.pasid < PASIDS + 1 = omega (arith, own.to_last) in
    bearer-counts c.remove-pasid.result.pasid ps _ (c.self.invariant.1.each c.remove-pasid.result.pasid low)

pub invariant_of-self : goal.invariant_of-self
invariant_of-self c =
    let ps = c.self.inside.places.items in
    let bs = c.self.inside.bearers in
    let place = c.remove-pasid.result in
    let at = index-at c.args.binding c.in-Some.index ps c.as_slice.result.now c.as_slice.ensures.value c.in-Some.ensures.some in
    let found = found-at c.args.binding c.in-Some.index ps c.as_slice.result.now place c.as_slice.ensures.value c.in-Some.ensures.some
    c.remove-pasid.ensures.value in
    let left : c.remove-pasid.new.self.items ≡ without c.args.binding ps = c.remove-pasid.ensures.items ∙ at.removed in
    rw (left, c.lowered.ensures) (
      without-table c.args.binding ps c.self.invariant.0,
      bearers-without c.args.binding ps place bs c.self.invariant.0 c.self.invariant.1 found,
    )

pub returns-clause-stage : goal.returns-clause-stage
returns-clause-stage c =
    let ps = c.self.inside.places.items in
    let found = found-at c.args.binding c.in-Some.index ps c.as_slice.result.now c.remove-pasid.result c.as_slice.ensures.value c.in-Some.ensures.some
    c.remove-pasid.ensures.value in
    ap (λ (o : Option TableEntry). option_and_then (λ (p : TableEntry). p.stage) o)
    (sym found ∙ ap (λ (qs : List TableEntry). place_of c.args.binding qs) c.self.view_is)

pub returns-clause-places : goal.returns-clause-places
returns-clause-places c =
    let ps = c.self.inside.places.items in
    let at = index-at c.args.binding c.in-Some.index ps c.as_slice.result.now c.as_slice.ensures.value c.in-Some.ensures.some in
    c.remove-pasid.ensures.items ∙ at.removed ∙ ap (λ (qs : List TableEntry). without c.args.binding qs) c.self.view_is
