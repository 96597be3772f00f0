-- What refuses that a page is taken out of its space.
use Rattle.std.proofs.Common.{◌≡◌, ◌∙◌, ap, arith, refl, ℕ, ◌+◌, Bool, true, false}
use Rattle.std.specs.Prelude.{◌&&◌, ◌||◌, if◌then◌else◌, nat_lt, not}
use Rattle.sva_step.specs.Limits
use Rattle.sva_step.specs.declared.steps.Step.TheVariants as step
use Rattle.sva_model.specs.Words.{all_below}
use Rattle.sva_model.specs.Wire.{Wire}
use Rattle.sva_labels.specs.Causes.{lacks, queue_full, waits_needed}
use Rattle.sva_labels.specs.Finding.{is_mapped, is_space, pages_in}
use Rattle.sva_explain.specs.Accepted.{is_accepted}

pub unmap_accepted : (wire : Wire) (space page : ℕ)
    → is_accepted wire (step.Unmap space page 1)
    ≡ ((is_space wire space && (not (nat_lt Limits.page_numbers (page + 1)) && is_mapped (pages_in wire space) page))
    && (not (queue_full wire space 2).0 && not (lacks wire.next_cookie (waits_needed wire space))))
unfolding all_below
unmap_accepted wire space page =
    let first : page + 0 ≡ page = omega arith in
    go (is_space wire space) (nat_lt Limits.page_numbers (page + 1)) (is_mapped (pages_in wire space) (page + 0)) (queue_full wire space 2).0
    (lacks wire.next_cookie (waits_needed wire space))
    ∙ ap (λ p. (is_space wire space && (not (nat_lt Limits.page_numbers (page + 1)) && is_mapped (pages_in wire space) p))
    && (not (queue_full wire space 2).0 && not (lacks wire.next_cookie (waits_needed wire space)))) first
  where
    go : (a b c d e : Bool)
        → not (not a || (false || (b || (not (if c then true else false) || (d || (e || false))))))
        ≡ ((a && (not b && c)) && (not d && not e))
    go false b c d e = refl
    go true true c d e = refl
    go true false false d e = refl
    go true false true true e = refl
    go true false true false true = refl
    go true false true false false = refl
