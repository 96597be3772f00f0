-- A unit's queue, as it is kept, has no more than 64 descriptors; and the numbers after its greatest cookies are in order.
use Rattle.std.proofs.Common.{sym, subst, ℕ, zero, suc, ◌+◌, ◌≤◌, arith}
use Rattle.std.specs.Prelude.{length}
use Rattle.sva_model.specs.State.{Endpoint}
use Rattle.sva_model.specs.States.{is_queued}
use Rattle.sva_model.specs.Labels.{queue_length}
use Rattle.sva_model.specs.Wire.{end_number, unit_wire, descriptor}
use Rattle.sva_refinement.proofs.LookedLists.{length_seen}

pub queue_short : (first : ℕ) (p : Endpoint) → queue_length p ≤ 64 → length (unit_wire first p).queue ≤ 64
queue_short first p h = subst (λ n. n ≤ 64) (sym (length_seen (λ k. descriptor first p (p.order k)) p.orders (λ k. is_queued (p.order_state k)))) h

-- the numbers after the last of so many
pub ends_rise : (first a b : ℕ) → a ≤ b → end_number first a ≤ end_number first b
ends_rise first zero b h = omega arith
ends_rise first (suc a) zero h = absurd (omega (arith, h))
ends_rise first (suc a) (suc b) h = omega (arith, h)

pub end_within : (first a b : ℕ) → a ≤ b → end_number first a ≤ first + b
end_within first zero b h = omega arith
end_within first (suc a) b h = omega (arith, h)
