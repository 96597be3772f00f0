-- For who puts a memory together with the units: what the memory decides of an unmapping by labels, and what moves that
-- others make leave of it.
use Rattle.std.proofs.Common.{◌≡◌, ℕ, ◌+◌, ◌*◌, ◌^◌, Bool, true, false, List, [], ◌∷◌, ◌++◌, refl, ap, arith, if◌then◌else◌}
use Rattle.std.specs.Prelude.{Err, IsOk, None}
use Rattle.sva_step.specs.declared.refusals.Refusal.{Refusal}
use Rattle.sva_step.specs.declared.steps.Step.TheVariants as step
use Rattle.sva_model.specs.Refusals.{Cause}
use Rattle.sva_model.specs.Wire.{Wire}
use Rattle.sva_labels.specs.Causes.{causes_of, queue_full, numbers_spent, waits_needed}
use Rattle.sva_labels.specs.Moves.{Move, moved, targets_of, settled_cookie}
use Rattle.sva_labels.specs.Outcomes as outcomes
use Rattle.sva_labels.specs.Host.{checked}
use Rattle.sva_address_spaces.specs.Seen.{address_spaces_of}
use Rattle.sva_address_spaces.specs.Pieces.{verdict}
use Rattle.sva_address_spaces.specs.Unmapping.{unmap_causes_of, range_causes_of, unmapped, settled}

-- The memory's causes stand first, and then those of the units.

pub unmap_split : (w : Wire) (n q count : ℕ) → causes_of w (step.Unmap n q count) ≡ unmap_causes_of (address_spaces_of w) n q count
    ++ queue_full w n (count + 1) ∷ numbers_spent w.next_cookie (waits_needed w n) ∷ []
unmap_split w n q count = refl

pub range_split : (w : Wire) (n q order : ℕ) → causes_of w (step.UnmapRange n q order) ≡ range_causes_of (address_spaces_of w) n q order ++ queue_full w n 2
    ∷ numbers_spent w.next_cookie (waits_needed w n) ∷ []
range_split w n q order = refl

-- where the first refuse, all do
pub first_refuse : (cs ds : List Cause) (r : outcomes.Result) (e : Refusal) → verdict cs ≡ Err e → checked (cs ++ ds) r ≡ record { reply = Err e; moves = [] }
first_refuse [] ds r e is = absurd (cc)
first_refuse (cause ∷ cs) ds r e is = go cause.0 is (first_refuse cs ds r e)
  where
    go : (b : Bool) → (if b then Err cause.1 else verdict cs) ≡ Err e
        → (verdict cs ≡ Err e → checked (cs ++ ds) r ≡ record { reply = Err e; moves = [] })
        → (if b then record { reply = Err cause.1; moves = [] } else checked (cs ++ ds) r) ≡ record { reply = Err e; moves = [] }
    go true is rest =
        let same : cause.1 ≡ e = cc in
        ap (λ (x : Refusal). record { reply = Err x; moves = [] }) same
    go false is rest = rest is

-- where they don't, the others decide
pub first_pass : (cs ds : List Cause) (r : outcomes.Result) → IsOk (verdict cs) → checked (cs ++ ds) r ≡ checked ds r
first_pass [] ds r is = refl
first_pass (cause ∷ cs) ds r is = go cause.0 is (first_pass cs ds r)
  where
    go : (b : Bool) → IsOk (if b then Err cause.1 else verdict cs) → (IsOk (verdict cs) → checked (cs ++ ds) r ≡ checked ds r)
        → (if b then record { reply = Err cause.1; moves = [] } else checked (cs ++ ds) r) ≡ checked ds r
    go true is rest = absurd (cc)
    go false is rest = rest is

-- What moves leave of the memory.

pub unmap_leaves : (w : Wire) (n q count : ℕ) → address_spaces_of (moved w (Move.Unmap n q count 0)) ≡ unmapped (address_spaces_of w) n q count (targets_of w n)
unmap_leaves w n q count = ap (λ k. unmapped (address_spaces_of w) n q k (targets_of w n)) (once count)
  where
    once : (k : ℕ) → k * 2 ^ 0 ≡ k
    once k = omega arith

pub range_leaves : (w : Wire) (n q order : ℕ) → address_spaces_of (moved w (Move.Unmap n q 1 order))
    ≡ unmapped (address_spaces_of w) n q (2 ^ order) (targets_of w n)
range_leaves w n q order = ap (λ k. unmapped (address_spaces_of w) n q k (targets_of w n)) (one (2 ^ order))
  where
    one : (k : ℕ) → 1 * k ≡ k
    one k = omega arith

pub pass_leaves : (w : Wire) (e cookie : ℕ) → address_spaces_of (moved w (Move.Pass e cookie)) ≡ settled (address_spaces_of w) e (settled_cookie cookie)
pass_leaves w e cookie = refl

pub reopen_leaves : (w : Wire) (e n : ℕ) → address_spaces_of (moved w (Move.Reopen e n)) ≡ settled (address_spaces_of w) e (λ target. None)
reopen_leaves w e n = refl
