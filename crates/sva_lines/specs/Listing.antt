-- The listing of what a world keeps: a line for each thing, and none for what is free, off or empty.
use Rattle.std.specs.Prelude.{ℕ, List, ◌++◌, flat_map}
use Rattle.sva_model.specs.Wire.{Wire}
use Rattle.sva_lines.specs.Devices.{endpoint_lines}
use Rattle.sva_lines.specs.Memory.{binding_line, frame_lines, frames_line, space_lines}
use Rattle.sva_lines.specs.Messages.{message_line}
use Rattle.sva_lines.specs.Pieces.{rows}
use Rattle.sva_lines.specs.Units.{hand_lines, job_line, unit_lines}

-- spaces, frames that are withheld, and bindings
abbrev pub memory_lines : Wire → List ℕ
memory_lines wire = flat_map space_lines wire.spaces ++ rows frame_lines 0 wire.places ++ flat_map binding_line wire.bindings

-- endpoints, then their units
abbrev pub port_lines : Wire → List ℕ
port_lines wire = rows endpoint_lines 0 wire.parts ++ rows unit_lines 0 wire.parts

-- jobs, and what workers have in hand
abbrev pub work_lines : Wire → List ℕ
work_lines wire = flat_map job_line wire.jobs ++ rows hand_lines 0 wire.hands

-- the messages in flight
abbrev pub message_lines : Wire → List ℕ
message_lines wire = flat_map (message_line wire) wire.in_flight

abbrev pub listing_of : Wire → List ℕ
listing_of wire = memory_lines wire ++ port_lines wire ++ work_lines wire ++ message_lines wire ++ frames_line wire.places
