-- The counts of what is kept.
use Rattle.std.specs.Prelude.{count_by, ℕ, List}
use Rattle.sva_model.specs.Wire.{Wire}
use Rattle.sva_labels.specs.Finding.{is_free}
use Rattle.sva_address_spaces.specs.Steps.{is_mapped_place, is_withheld_place}
use Rattle.sva_reports.specs.Report.{counts_text}

-- how many frames are free, mapped and withheld, as a text
abbrev pub counts_at : Wire → List ℕ
counts_at wire = counts_text (record {
  free = count_by is_free wire.places;
  mapped = count_by is_mapped_place wire.places;
  withheld = count_by is_withheld_place wire.places;
})
