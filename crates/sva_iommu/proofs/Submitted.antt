-- What an unmapping submits: how long it is, and its one wait.
use Rattle.std.proofs.Common.{◌≡◌, ℕ, zero, suc, ◌+◌, ◌*◌, ◌^◌, ◌<◌, ◌≤◌, false, [], ◌∷◌, ◌++◌, map, length, refl, ap, sym, subst, ◌∙◌, arith, length-append}
use Rattle.std.specs.Prelude.{All}
use Rattle.std.proofs.lemmas.List.{map-append}
use Rattle.std.proofs.lemmas.List.Elements.{All-append, All-replicate}
use Rattle.sva_queue.specs.declared.descriptors.Descriptor.TheVariants.{Range, Wait}
use Rattle.sva_queue.specs.Cookies.{AreRising, HasNumber, number_after}
use Rattle.sva_queue.proofs.Cookies.{rising-append, number_after-append}
use Rattle.sva_model.specs.Words.{tabulate}
use Rattle.sva_model.specs.Range as model
use Rattle.sva_model.specs.Unmappings.{range_at}
use Rattle.sva_model.specs.Wire.Descriptor.{RangeDescriptor, WaitDescriptor}
use Rattle.sva_labels.specs.Moves.{descriptors_for}
use Rattle.sva_labels.proofs.Lists.{tabulate_length}
use Rattle.sva_iommu.specs.Seen.{descriptor_seen, ranges_for, orders_for}

-- ranges by their number
pub no_ranges : (t q order : ℕ) → ranges_for t q 0 order ≡ []
unfolding tabulate
no_ranges t q order = refl

pub more_ranges : (t q n order : ℕ) → ranges_for t q (n + 1) order ≡ ranges_for t q n order ++ Range t (range_at q order n) ∷ []
unfolding tabulate
more_ranges t q n order = let next : n + 1 ≡ suc n = omega arith in ap (λ k. ranges_for t q k order) next

pub ranges_length : (t q n order : ℕ) → length (ranges_for t q n order) ≡ n
ranges_length t q n order = tabulate_length n (λ j. Range t (range_at q order j))

pub orders_length : (t q count order cookie : ℕ) → length (orders_for t q count order cookie) ≡ count + 1
orders_length t q count order cookie =
    length-append (tabulate count (λ j. Range t (range_at q order j))) (Wait cookie false ∷ [])
    ∙ ap (λ n. n + 1) (tabulate_length count (λ j. Range t (range_at q order j)))

-- ranges have no cookie
ranges_number : (t n : ℕ) (f : ℕ → model.Range) → All HasNumber (tabulate n (λ j. Range t (f j)))
unfolding tabulate
ranges_number t zero f = λ k d l. absurd (omega arith)
ranges_number t (suc n) f =
    All-append HasNumber (tabulate n (λ j. Range t (f j))) (Range t (f n) ∷ []) (ranges_number t n f) (All-replicate HasNumber 1 (Range t (f n)) tt)

ranges_after : (t n first : ℕ) (f : ℕ → model.Range) → number_after first (tabulate n (λ j. Range t (f j))) ≡ first
unfolding tabulate
ranges_after t zero first f = refl
ranges_after t (suc n) first f = number_after-append (tabulate n (λ j. Range t (f j))) (Range t (f n) ∷ []) first ∙ ranges_after t n first f

ranges_rise : (t n first : ℕ) (f : ℕ → model.Range) → AreRising first (tabulate n (λ j. Range t (f j)))
unfolding tabulate
ranges_rise t zero first f = tt
ranges_rise t (suc n) first f = rising-append (tabulate n (λ j. Range t (f j))) (Range t (f n) ∷ []) first (ranges_rise t n first f) tt

pub orders_number : (t q count order cookie : ℕ) → cookie < 2 ^ 63 → All HasNumber (orders_for t q count order cookie)
orders_number t q count order cookie l =
    All-append HasNumber (tabulate count (λ j. Range t (range_at q order j))) (Wait cookie false ∷ []) (ranges_number t count (range_at q order))
    (All-replicate HasNumber 1 (Wait cookie false) l)

pub orders_rise : (t q count order cookie first : ℕ) → first ≤ cookie → AreRising first (orders_for t q count order cookie)
orders_rise t q count order cookie first l =
    let ranges = tabulate count (λ j. Range t (range_at q order j)) in
    rising-append ranges (Wait cookie false ∷ []) first (ranges_rise t count first (range_at q order))
    (subst (λ n. AreRising n (Wait cookie false ∷ [])) (sym (ranges_after t count first (range_at q order))) (l, tt))

pub orders_after : (t q count order cookie first : ℕ) → number_after first (orders_for t q count order cookie) ≡ suc cookie
orders_after t q count order cookie first =
    number_after-append (tabulate count (λ j. Range t (range_at q order j))) (Wait cookie false ∷ []) first ∙ omega arith

-- how they are seen
ranges_seen : (t n : ℕ) (f : ℕ → model.Range) → map descriptor_seen (tabulate n (λ j. Range t (f j))) ≡ tabulate n (λ j. RangeDescriptor t (f j))
unfolding tabulate
ranges_seen t zero f = refl
ranges_seen t (suc n) f =
    map-append descriptor_seen (tabulate n (λ j. Range t (f j))) (Range t (f n) ∷ [])
    ∙ ap (λ ds. ds ++ RangeDescriptor t (f n) ∷ []) (ranges_seen t n f)

pub orders_seen : (t q count order cookie : ℕ) → map descriptor_seen (orders_for t q count order cookie) ≡ descriptors_for t q count order cookie
orders_seen t q count order cookie =
    map-append descriptor_seen (tabulate count (λ j. Range t (range_at q order j))) (Wait cookie false ∷ [])
    ∙ ap (λ ds. ds ++ descriptor_seen (Wait cookie false) ∷ []) (ranges_seen t count (range_at q order))

-- one range begins at the first page
pub one_range : (t q order cookie : ℕ) → RangeDescriptor t (record { base = q; order = order }) ∷ WaitDescriptor cookie false ∷ []
    ≡ descriptors_for t q 1 order cookie
unfolding tabulate
one_range t q order cookie =
    let first : q ≡ q + 0 * 2 ^ order = omega arith in
    ap (λ n. RangeDescriptor t (record { base = n; order = order }) ∷ WaitDescriptor cookie false ∷ []) first
