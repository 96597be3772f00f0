-- What is said of one thing.
use Rattle.std.specs.Prelude.{Bool, true, false, if◌then◌else◌, List, [], ◌++◌, ℕ, codes}
use Rattle.sva_model.specs.Wire.{BusyWire, PlaceWire, StageWire, TranslationWire}
use Rattle.sva_model.specs.Wire.BusyWire.{Fresh, Counting}
use Rattle.sva_model.specs.Wire.PlaceWire.{FreeWire, MappedWire, WithheldWire}
use Rattle.sva_model.specs.Wire.StageWire.{LiveWire, StoppingWire, DrainingWire, InvalidatingWire, QuietWire, LostWire}
use Rattle.sva_lines.specs.Pieces.{field, word_if}

-- how far an unbinding is
abbrev pub stage_text : StageWire → List ℕ
stage_text LiveWire = codes " live"
stage_text (StoppingWire marked) = if marked then codes " marked" else codes " stopping"
stage_text (DrainingWire cookie) = field (codes " draining wait ") cookie
stage_text (InvalidatingWire cookie) = field (codes " invalidating wait ") cookie
stage_text QuietWire = codes " quiet"
stage_text LostWire = codes " lost"

-- how many completions came of how many, once one came
abbrev pub busy_text : BusyWire → List ℕ
busy_text Fresh = []
busy_text (Counting count arrived) = field (codes ", ") arrived ++ field (codes " of ") count

-- ` pasid 1 page 16 frame 0 w`
abbrev pub translation_text : TranslationWire → List ℕ
translation_text translation =
    field (codes " pasid ") translation.pasid ++ field (codes " page ") translation.page ++ field (codes " frame ") translation.frame
    ++ word_if translation.write (codes " w")

-- is the frame free? mapped? withheld?
abbrev pub is_free : PlaceWire → Bool
is_free FreeWire = true
is_free _ = false

abbrev pub is_mapped : PlaceWire → Bool
is_mapped MappedWire = true
is_mapped _ = false

abbrev pub is_withheld : PlaceWire → Bool
is_withheld (WithheldWire targets) = true
is_withheld _ = false
