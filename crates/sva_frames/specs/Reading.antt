-- What a reader is told of a frame.
use Rattle.sva_frames.specs.declared.reading.Held.{Held}
use Rattle.sva_frames.specs.declared.reading.Held.TheVariants.{Free as HeldFree, Mapped as HeldMapped, Withheld as HeldWithheld}
use Rattle.sva_frames.specs.Frames.{Holding, Free, Mapped, Withheld}

-- the holding of the frame
abbrev pub holding_of : Held → Holding
holding_of HeldFree = Free
holding_of HeldMapped = Mapped
holding_of (HeldWithheld targets) = Withheld targets
