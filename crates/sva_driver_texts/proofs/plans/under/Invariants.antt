use Rattle.std.proofs.Common.{◌≡◌, ◌++◌, drop}
use Rattle.sva_driver_texts.specs.Plans.{under}
use Rattle.sva_driver_texts.proofs.plans.under.Given as goal

-- the pages so far, with those under the PASIDs that are left
abbrev pub invariant-loop-pasid : goal.invariant-loop-pasid
invariant-loop-pasid l = l.list.items ++ under (drop l.pasid-index l.pasids) l.pages ≡ under l.pasids l.pages
