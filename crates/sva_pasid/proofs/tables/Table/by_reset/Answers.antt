use Rattle.std.proofs.Common.{◌≡◌, ℕ, ◌++◌, List, length, take, drop, sym, ◌∙◌, ap, subst}
use Rattle.std.proofs.Math.Seq.{take-append_seam}
use Rattle.std.proofs.lemmas.List.{length-map}
use Rattle.sva_pasid.specs.Places.{reset_at, after_reset, IsTable}
use Rattle.sva_pasid.specs.Bearers.{AreBearers}
use Rattle.sva_pasid.specs.declared.places.TableEntry.{TableEntry}
use Rattle.sva_pasid.proofs.PlaceLemmas.{reset-table, reset-keeps}
use Rattle.sva_pasid.proofs.BearerLemmas.{bearers-map}
use Rattle.sva_pasid.proofs.tables.Table.by_reset.Goals as goal

pub invariant_of-self : goal.invariant_of-self
invariant_of-self c =
    let ps = c.self.inside.places.items in
    let rest = drop (length c.reset_each.new.places) ps in
    let count : c.self.inside.places.len ≡ length c.reset_each.new.places =
    sym (ap (λ (qs : List TableEntry). length qs) c.reset_each.ensures ∙ length-map c.as_mut_slice.result.now (reset_at c.args.endpoint)
    ∙ c.as_mut_slice.ensures.len) in
    let items : take c.self.inside.places.len (c.reset_each.new.places ++ rest) ≡ after_reset c.args.endpoint ps =
    ap (λ (n : ℕ). take n (c.reset_each.new.places ++ rest)) count ∙ take-append_seam c.reset_each.new.places rest ∙ c.reset_each.ensures
    ∙ ap (λ (qs : List TableEntry). after_reset c.args.endpoint qs) c.as_mut_slice.ensures.value in
    subst (λ (qs : List TableEntry). IsTable qs × AreBearers qs c.self.inside.bearers) (sym items) (
      reset-table c.args.endpoint ps c.self.invariant.0,
      bearers-map (reset_at c.args.endpoint) ps c.self.inside.bearers (reset-keeps c.args.endpoint)
          c.self.invariant.1,
    )
