-- The numbers that tokens have.
use Rattle.std.specs.Prelude.{ℕ}

-- the numbers of a lease, as the bind's answer has them
pub record LeaseNumbers : Type 0 where
  pub binding : ℕ
  pub pasid : ℕ

-- the numbers of a ticket: the endpoint of the step, slot and frame of its answer
pub record TicketNumbers : Type 0 where
  pub endpoint : ℕ
  pub slot : ℕ
  pub frame : ℕ
