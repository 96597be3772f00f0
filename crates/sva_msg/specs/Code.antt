-- The response codes of PCI Express Base 5.0, section 10.4.2.
use Rattle.std.specs.Prelude.{ℕ}
use Rattle.sva_msg.specs.declared.messages.Code.{Code}
use Rattle.sva_msg.specs.declared.messages.Code.TheVariants.{Success, InvalidRequest, ResponseFailure}

-- the four bits of the Response Code field
abbrev pub bits_of : Code → ℕ
bits_of Success = 0
bits_of InvalidRequest = 1
bits_of ResponseFailure = 15
