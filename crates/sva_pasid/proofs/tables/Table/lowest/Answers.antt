use Rattle.std.proofs.Common.{◌≡◌, List, ◌∙◌, subst}
use Rattle.std.specs.Prelude.{IfSome, IfNone}
use Rattle.sva_pasid.specs.Places.{lowest, IsLowest, IsOutOfPasids}
use Rattle.sva_pasid.specs.declared.places.TableEntry.{TableEntry}
use Rattle.sva_pasid.proofs.BearerLemmas.{lowest-is}
use Rattle.sva_pasid.proofs.ShareLemmas.{lowest-some, lowest-none}
use Rattle.sva_pasid.proofs.tables.Table.lowest.Goals as goal

pub returns-clause-value : goal.returns-clause-value
returns-clause-value c =
    rw⁻¹ c.self.view_is (c.lowest_in.ensures ∙ lowest-is c.args.space c.self.inside.places.items c.self.inside.bearers c.self.invariant.0 c.self.invariant.1)

pub returns-clause-some : goal.returns-clause-some
returns-clause-some c =
    let ps = c.self.inside.places.items in
    let value : c.lowest_in.result ≡ lowest c.args.space ps =
    c.lowest_in.ensures ∙ lowest-is c.args.space ps c.self.inside.bearers c.self.invariant.0 c.self.invariant.1 in
    subst (λ (qs : List TableEntry). IfSome c.lowest_in.result (λ pasid. IsLowest c.args.space qs pasid)) c.self.view_is
    (lowest-some c.args.space ps c.lowest_in.result c.self.invariant.0 value)

pub returns-clause-none : goal.returns-clause-none
returns-clause-none c =
    let ps = c.self.inside.places.items in
    let value : c.lowest_in.result ≡ lowest c.args.space ps =
    c.lowest_in.ensures ∙ lowest-is c.args.space ps c.self.inside.bearers c.self.invariant.0 c.self.invariant.1 in
    subst (λ (qs : List TableEntry). IfNone c.lowest_in.result (IsOutOfPasids c.args.space qs)) c.self.view_is
    (lowest-none c.args.space ps c.lowest_in.result value)
