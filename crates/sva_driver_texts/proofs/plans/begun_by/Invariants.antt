use Rattle.std.proofs.Common.{◌≡◌, ◌++◌, drop}
use Rattle.sva_driver_texts.specs.Plans.{begun_by}
use Rattle.sva_driver_texts.proofs.plans.begun_by.Given as goal

-- the page requests so far, with those of the pages that are left
abbrev pub invariant-loop-page : goal.invariant-loop-page
invariant-loop-page l = l.list.items ++ begun_by (drop l.page-index l.pages) ≡ begun_by l.pages
