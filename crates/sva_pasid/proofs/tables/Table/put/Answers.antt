use Rattle.std.proofs.Common.{List, Some, sym, subst}
use Rattle.sva_pasid.specs.Stages.{numbers_of}
use Rattle.sva_pasid.specs.Places.{Awaits, IsTable}
use Rattle.sva_pasid.specs.Bearers.{AreBearers}
use Rattle.sva_pasid.specs.declared.places.TableEntry.{TableEntry}
use Rattle.sva_pasid.proofs.PlaceLemmas.{changed, changed-keeps, with_stage-table, written-item, awaits-fits, FitsPlace}
use Rattle.sva_pasid.proofs.BearerLemmas.{bearers-map}
use Rattle.sva_pasid.proofs.tables.Table.put.Goals as goal

pub invariant_of-self : goal.invariant_of-self
invariant_of-self c =
    let ps = c.self.inside.places.items in
    let stage = c.args.stage in
    let written = written-item c.args.binding c.in-Some.index ps c.as_slice.result.now c.index_mut.result.now (Some stage) c.as_slice.ensures.value
    c.in-Some.ensures.some c.index_mut.ensures.value in
    let awaits : Awaits (numbers_of stage) ps = rw c.self.view_is c.requires.awaits in
    let fits : FitsPlace c.args.binding (Some stage) ps = rw c.requires.own at (awaits-fits stage ps awaits) in
    rw c.replace-empty.ensures.after (subst (λ (qs : List TableEntry). IsTable qs × AreBearers qs c.self.inside.bearers) (sym written.0) (
      with_stage-table c.args.binding (Some stage) ps c.self.invariant.0 fits,
      bearers-map (changed c.args.binding (Some stage)) ps c.self.inside.bearers (changed-keeps c.args.binding (Some stage)) c.self.invariant.1,
    ))
