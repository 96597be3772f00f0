use Rattle.std.proofs.Common.{sym, ap, true, []}
use Rattle.std.specs.Prelude.{Option, None, List}
use Rattle.sva_model.specs.Wire.{BusyWire}
use Rattle.sva_labels.proofs.Lists.{tabulate_one}
use Rattle.sva_iommu.specs.Seen.{UnitSeen}
use Rattle.sva_iommu.proofs.units.RemappingUnit.new.Goals as goal

abbrev with_busy : List (Option BusyWire) → UnitSeen
with_busy busy = record { unit = record { is_open = true; queue = []; busy = busy; front = 0; waits_end = 0 }; page_queue = [] }

pub returns : goal.returns
returns c = rw (c.new.ensures, c.new-2.ensures) (ap with_busy (sym (tabulate_one 32 None)))
