use Rattle.std.proofs.Common.{◌≡◌, ◌++◌, take}
use Rattle.sva_driver_texts.specs.Plans.{under_one}
use Rattle.sva_driver_texts.proofs.plans.add_under.Given as goal

abbrev pub invariant-loop-page : goal.invariant-loop-page
invariant-loop-page l = l.list.items ≡ l.initial.list.items ++ under_one (take l.page-index l.pages) l.pasid
