-- The messages as they are sent: labels alone, and no names.
use Rattle.std.specs.Prelude.{ℕ, Bool}
use Rattle.sva_model.specs.Range.{RangeCode}

-- what an Invalidate Request names of a PASID (PCI Express Base 5.0, section 10.3.1): a range of pages by its code, or
-- all pages
pub data Scope : Type 0 where
  Coded : (code : RangeCode) → Scope
  Everything : Scope

-- the response code of a Page Request Group Response (section 10.4.2): 0000b, 0001b, 1111b
pub data Code : Type 0 where
  SuccessCode : Code
  InvalidCode : Code
  FailureCode : Code

-- the eleven kinds, each with its fields
pub data Message : Type 0 where
  StartMessage : (pasid : ℕ) → Message
  StopMessage : (pasid : ℕ) → Message
  ResetMessage : Message
  CompletionMessage : (tag frame : ℕ) (read write : Bool) → Message
  InvalidateMessage : (itag pasid : ℕ) (scope : Scope) → Message
  ResponseMessage : (pasid index : ℕ) (code : Code) → Message
  RequestMessage : (tag pasid page : ℕ) → Message
  InvalidatedMessage : (vector count_field : ℕ) → Message
  PageRequestMessage : (pasid index page : ℕ) (read write last : Bool) → Message
  MarkerMessage : (pasid : ℕ) → Message
  ResetDoneMessage : Message
