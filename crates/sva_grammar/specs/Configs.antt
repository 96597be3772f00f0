-- The test of a config.
use Rattle.std.specs.Prelude.{◌^◌, ◌&&◌, nat_le, Bool}
use Rattle.sva_step.specs.declared.limits.Config.{Config}

-- is each count of the config within its limits, and does it begin to number at 2^63 or below?
abbrev pub is_fit : Config → Bool
is_fit config =
    nat_le 1 config.endpoints
    && nat_le config.endpoints 8
    && nat_le 1 config.frames
    && nat_le config.frames 4096
    && nat_le 1 config.workers
    && nat_le config.workers 4
    && nat_le config.first (2 ^ 63)
