use Rattle.std.proofs.Common.{◌≡◌, List, None, sym, subst}
use Rattle.std.specs.Prelude.{IfSome}
use Rattle.sva_pasid.specs.Stages.{numbers_of}
use Rattle.sva_pasid.specs.Places.{place_of, Awaits, IsTable}
use Rattle.sva_pasid.specs.Bearers.{AreBearers}
use Rattle.sva_pasid.specs.declared.places.TableEntry.{TableEntry}
use Rattle.sva_pasid.specs.declared.stages.Stage.{Stage}
use Rattle.sva_pasid.proofs.PlaceLemmas.{changed, changed-keeps, with_stage-table, with_stage-absent, written-item, taken-awaits}
use Rattle.sva_pasid.proofs.BearerLemmas.{bearers-map}
use Rattle.sva_pasid.proofs.tables.Table.take.Goals as goal

pub returns-in_default-clause-places : goal.returns-in_default-clause-places
returns-in_default-clause-places c =
    let absent : place_of c.args.binding c.args.self.now ≡ None = rw (← c.self.view_is, ← c.as_slice.ensures.value) c.in_default.ensures.none in
    sym (with_stage-absent c.args.binding None c.args.self.now absent)

pub invariant_of-self : goal.invariant_of-self
invariant_of-self c =
    let ps = c.self.inside.places.items in
    let written = written-item c.args.binding c.in-Some.index ps c.as_slice.result.now c.index_mut.result.now None c.as_slice.ensures.value
    c.in-Some.ensures.some c.index_mut.ensures.value in
    rw c.take.ensures.after (subst (λ (qs : List TableEntry). IsTable qs × AreBearers qs c.self.inside.bearers) (sym written.0) (
      with_stage-table c.args.binding None ps c.self.invariant.0 (λ p h. tt),
      bearers-map (changed c.args.binding None) ps c.self.inside.bearers (changed-keeps c.args.binding None) c.self.invariant.1,
    ))

pub returns-clause-awaits : goal.returns-clause-awaits
returns-clause-awaits c =
    let ps = c.self.inside.places.items in
    let written = written-item c.args.binding c.in-Some.index ps c.as_slice.result.now c.index_mut.result.now None c.as_slice.ensures.value
    c.in-Some.ensures.some c.index_mut.ensures.value in
    rw c.take.ensures.after
    (subst (λ (qs : List TableEntry). IfSome c.take.result (λ (stage : Stage). ((numbers_of stage).binding ≡ c.args.binding)
    × Awaits (numbers_of stage) qs)) (sym written.0)
    (taken-awaits c.args.binding ps c.index_mut.result.now c.take.result c.self.invariant.0 written.1 c.take.ensures.value))
