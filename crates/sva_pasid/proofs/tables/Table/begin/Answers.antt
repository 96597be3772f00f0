use Rattle.std.proofs.Common.{◌≡◌, ℕ, [], ◌∷◌, ◌++◌, Some, None, sym, ◌∙◌, arith}
use Rattle.std.specs.Prelude.{IsSome}
use Rattle.std.proofs.lemmas.Bool.{false≢true}
use Rattle.sva_pasid.specs.Places.{place_of, lowest, begun, IsLowest}
use Rattle.sva_pasid.specs.declared.places.TableEntry.{TableEntry}
use Rattle.sva_pasid.proofs.PlaceLemmas.{begun-table}
use Rattle.sva_pasid.proofs.ShareLemmas.{is_lowest, lowest_alike}
use Rattle.sva_pasid.proofs.BearerLemmas.{lowest-is, bearers-begun}
use Rattle.sva_pasid.proofs.tables.Table.begin.Goals as goal

pub unreachable-requires : goal.unreachable-requires
unreachable-requires c =
    let ps = c.self.inside.places.items in
    let none : lowest c.args.space ps ≡ None = sym (lowest-is c.args.space ps c.self.inside.bearers c.self.invariant.0 c.self.invariant.1)
    ∙ sym c.lowest_in.ensures ∙ c.in_default.is in
    let some : IsSome (lowest c.args.space ps) = rw c.self.view_is c.requires.free in
    let none_is : IsSome {T = ℕ} None = rw none at some in
    absurd (false≢true none_is)

pub bounds-self-inside-pasid : goal.bounds-self-inside-pasid
bounds-self-inside-pasid c =
    let ps = c.self.inside.places.items in
    let chosen : lowest c.args.space ps ≡ Some c.in-Some.pasid =
    sym (lowest-is c.args.space ps c.self.inside.bearers c.self.invariant.0 c.self.invariant.1) ∙ sym c.lowest_in.ensures ∙ c.in-Some.is in
    let least : IsLowest c.args.space ps c.in-Some.pasid = is_lowest c.args.space ps c.in-Some.pasid c.self.invariant.0 chosen in
    omega (arith, least.to_last)

pub bounds-self-inside-pasid-2 : goal.bounds-self-inside-pasid-2
bounds-self-inside-pasid-2 c =
    let ps = c.self.inside.places.items in
    let chosen : lowest c.args.space ps ≡ Some c.in-Some.pasid =
    sym (lowest-is c.args.space ps c.self.inside.bearers c.self.invariant.0 c.self.invariant.1) ∙ sym c.lowest_in.ensures ∙ c.in-Some.is in
    let least : IsLowest c.args.space ps c.in-Some.pasid = is_lowest c.args.space ps c.in-Some.pasid c.self.invariant.0 chosen in
    omega (arith, least.to_last)

pub invariant_of-self-2 : goal.invariant_of-self-2
invariant_of-self-2 c =
    let ps = c.self.inside.places.items in
    let bs = c.self.inside.bearers in
    let chosen : lowest c.args.space ps ≡ Some c.in-Some.pasid = sym (lowest-is c.args.space ps bs c.self.invariant.0 c.self.invariant.1)
    ∙ sym c.lowest_in.ensures ∙ c.in-Some.is in
    let least : IsLowest c.args.space ps c.in-Some.pasid = is_lowest c.args.space ps c.in-Some.pasid c.self.invariant.0 chosen in
    let alike = lowest_alike c.args.endpoint c.args.space c.args.binding c.in-Some.pasid ps c.self.invariant.0 chosen in
    let fresh : place_of c.args.binding ps ≡ None = rw c.self.view_is c.requires.fresh in
    let place : TableEntry = begun c.args.endpoint c.args.space c.args.binding c.in-Some.pasid in
    let items : c.push_reserved.new.self.items ≡ ps ++ place ∷ [] = cc in
    rw (items, c.raised.ensures) (
      begun-table c.args.endpoint c.args.space c.args.binding c.in-Some.pasid ps c.self.invariant.0 fresh least.from_one least.to_last alike,
      bearers-begun c.args.endpoint c.args.space c.args.binding c.in-Some.pasid ps bs c.self.invariant.1 least.to_last alike,
    )

pub returns-clause-pasid : goal.returns-clause-pasid
returns-clause-pasid c =
    let ps = c.self.inside.places.items in
    rw⁻¹ c.self.view_is (sym (lowest-is c.args.space ps c.self.inside.bearers c.self.invariant.0 c.self.invariant.1) ∙ sym c.lowest_in.ensures ∙ c.in-Some.is)
