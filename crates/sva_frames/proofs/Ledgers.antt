use Rattle.std.proofs.Common.{◌≡◌, ◌≢◌, ℕ, ◌+◌, ◌*◌, ◌^◌, ◌<◌, ◌≤◌, Bool, true, false, cond, List, Option, Some, None, [], ◌∷◌, length, get_or, set}
use Rattle.std.proofs.Common.{slice_get, refl, sym, ap, ◌∙◌, ◌⊎◌, ⊎_elim, arith, zero, suc, count_by, replicate}
use Rattle.std.specs.List.{position, position_or_len}
use Rattle.std.specs.Option.{IfNone, IfSome}
use Rattle.std.proofs.lemmas.Bool.{cases_eq}
use Rattle.std.proofs.lemmas.Bool.Decides.{nat_tests}
use Rattle.std.proofs.lemmas.List.{length-set, length-replicate}
use Rattle.std.proofs.lemmas.List.Sums.{sum_by-set, sum_by-cons, count_by-le-length, position_or_len_is}
use Rattle.std.proofs.lemmas.Option.{same_Some, slice_get_within, slice_get-get_or}
use Rattle.sva_frames.specs.declared.ledger.Stage.{Stage}
use Rattle.sva_frames.specs.declared.ledger.Stage.TheVariants.{Free}
use Rattle.sva_frames.specs.declared.pool.Counts.{Counts}
use Rattle.sva_frames.specs.Numbers.{has}
use Rattle.sva_frames.specs.Stages.{IsLedger, is_free_stage, is_mapped_stage, is_withheld_stage}
use Rattle.sva_frames.proofs.Pools.{slice_get-set_same, slice_get-set_other}

-- what stands at a place is counted
pub counted_at : (p : Stage → Bool) (ss : List Stage) (n : ℕ) (d : Stage) → n < length ss → cond (p (get_or ss n d)) 1 0 ≤ count_by p ss
counted_at p [] n d within = absurd (omega arith)
counted_at p (s ∷ ss) zero d within = omega (arith, sum_by-cons (λ (x : Stage). cond (p x) 1 0) s ss)
counted_at p (s ∷ ss) (suc n) d within = omega (arith, sum_by-cons (λ (x : Stage). cond (p x) 1 0) s ss, counted_at p ss n d (omega arith))

pub count_moved :
    (p : Stage → Bool) (ss : List Stage) (n : ℕ) (old new : Stage) (was now : Bool) (count moved : ℕ) → n < length ss → count ≡ count_by p ss →
    old ≡ get_or ss n old → was ≡ p old → now ≡ p new → moved + cond was 1 0 ≡ count + cond now 1 0 → moved ≡ count_by p (set ss n new)
count_moved p ss n old new was now count moved within so_far read before after step =
    let sums = sum_by-set (λ (x : Stage). cond (p x) 1 0) ss n new old within in
    let old_is : ◌≡◌ {A = ℕ} (cond was 1 0) (cond (p (get_or ss n old)) 1 0) = ap (λ (b : Bool). let one : ℕ = 1 in cond b one 0) before
    ∙ ap (λ (x : Stage). cond (p x) 1 0) read in
    let new_is : ◌≡◌ {A = ℕ} (cond now 1 0) (cond (p new) 1 0) = ap (λ (b : Bool). let one : ℕ = 1 in cond b one 0) after in
    omega (arith, sums, so_far, step, old_is, new_is)

-- a count that is to be one more still fits: there are fewer than 2 ^ 32 frames
pub count_fits :
    (p : Stage → Bool) (ss : List Stage) (n : ℕ) (old new : Stage) (was now : Bool) (count : ℕ) → n < length ss → length ss < 2 ^ 32 →
    count ≡ count_by p ss → old ≡ get_or ss n old → was ≡ p old → now ≡ p new → count + cond now 1 0 < 2 ^ 32 + cond was 1 0
count_fits p ss n old new was now count within few so_far read before after =
    let sums = sum_by-set (λ (x : Stage). cond (p x) 1 0) ss n new old within in
    let old_is : ◌≡◌ {A = ℕ} (cond was 1 0) (cond (p (get_or ss n old)) 1 0) = ap (λ (b : Bool). let one : ℕ = 1 in cond b one 0) before
    ∙ ap (λ (x : Stage). cond (p x) 1 0) read in
    let new_is : ◌≡◌ {A = ℕ} (cond now 1 0) (cond (p new) 1 0) = ap (λ (b : Bool). let one : ℕ = 1 in cond b one 0) after in
    omega (arith, sums, so_far, old_is, new_is, few, count_by-le-length p (set ss n new), length-set ss n new)

pub ledger_set :
    (ss : List Stage) (words words' : List ℕ) (counts counts' : Counts) (n : ℕ) (new : Stage) → IsLedger ss words counts → n < length ss →
    length words' ≡ length words → has words' n ≡ cond (is_free_stage new) 1 0 → ((m : ℕ) → m ≢ n → has words' m ≡ has words m) →
    counts'.free ≡ count_by is_free_stage (set ss n new) → counts'.mapped ≡ count_by is_mapped_stage (set ss n new) →
    counts'.withheld ≡ count_by is_withheld_stage (set ss n new) → IsLedger (set ss n new) words' counts'
ledger_set ss words words' counts counts' n new is within room here others free mapped withheld = record {
  few = simp length-set is.few;
  enough = omega (arith, is.enough, room, length-set ss n new);
  marked = λ m s there. ⊎_elim
      (λ (at : m ≡ n). ap (has words') at ∙ here
      ∙ ap (λ (t : Stage). cond (is_free_stage t) 1 0)
      (same_Some new s (sym (slice_get-set_same ss n new within) ∙ ap (slice_get (set ss n new)) (sym at) ∙ there)))
      (λ (other : m ≢ n). others m other ∙ is.marked m s (sym (slice_get-set_other ss n m new other) ∙ there))
      (cases_eq m n);
  beyond = λ m past.
      let out : length ss ≤ m = omega (arith, past, length-set ss n new) in
      others m (λ (at : m ≡ n). absurd (omega arith)) ∙ is.beyond m out;
  free = free;
  mapped = mapped;
  withheld = withheld;
}

bit_free : (b : Bool) → ◌≡◌ {A = ℕ} (cond b 1 0) 1 → b ≡ true
bit_free true is = refl
bit_free false is = absurd (omega arith)

bit_taken : (b : Bool) → ◌≡◌ {A = ℕ} (cond b 1 0) 0 → b ≡ false
bit_taken true is = absurd (omega arith)
bit_taken false is = refl

pub first_free_is :
    (ss : List Stage) (words : List ℕ) (counts : Counts) (o : Option ℕ) → IsLedger ss words counts → IfNone o ((n : ℕ) → has words n ≡ 0) →
    IfSome o (λ m. (has words m ≡ 1) × ((n : ℕ) → n < m → has words n ≡ 0)) → o ≡ position is_free_stage ss
first_free_is ss words counts None is none some =
    let first : position_or_len is_free_stage ss ≡ length ss =
    position_or_len_is is_free_stage ss (length ss) Free (omega arith)
    (λ k below. bit_taken (is_free_stage (get_or ss k Free)) (sym (is.marked k (get_or ss k Free) (slice_get-get_or ss k Free below)) ∙ none k))
    (λ (less : length ss < length ss). absurd (omega arith)) in
    rw first (grind (arith, nat_tests))
first_free_is ss words counts (Some m) is none some =
    let within : m < length ss =
    ⊎_elim (λ (yes : m < length ss). yes) (λ (no : length ss ≤ m). absurd (omega (arith, some.0, is.beyond m no))) (cases_below m (length ss)) in
    let first : position_or_len is_free_stage ss ≡ m =
    position_or_len_is is_free_stage ss m Free (omega arith)
    (λ k below. bit_taken (is_free_stage (get_or ss k Free)) (sym (is.marked k (get_or ss k Free) (slice_get-get_or ss k Free (omega arith)))
    ∙ some.1 k below))
    (λ (less : m < length ss). bit_free (is_free_stage (get_or ss m Free)) (sym (is.marked m (get_or ss m Free) (slice_get-get_or ss m Free less))
    ∙ some.0)) in
    rw first (grind (arith, nat_tests))
  where
    cases_below : (a b : ℕ) → (a < b) ⊎ (b ≤ a)
    cases_below a b = grind arith

-- ---- a ledger as it is opened

pub get-replicate : {A : Type 0} (k n : ℕ) (x y : A) → slice_get (replicate k x) n ≡ Some y → y ≡ x
get-replicate zero n x y here = absurd (cc)
get-replicate (suc k) zero x y here = sym (same_Some x y here)
get-replicate (suc k) (suc n) x y here = get-replicate k n x y here

count-all : (p : Stage → Bool) (k : ℕ) (s : Stage) → p s ≡ true → count_by p (replicate k s) ≡ k
count-all p zero s passes = refl
count-all p (suc k) s passes =
    let one : ◌≡◌ {A = ℕ} (cond (p s) 1 0) 1 = ap (λ (b : Bool). let one : ℕ = 1 in cond b one 0) passes in
    omega (arith, sum_by-cons (λ (x : Stage). cond (p x) 1 0) s (replicate k s), one, count-all p k s passes)

count-none : (p : Stage → Bool) (k : ℕ) (s : Stage) → p s ≡ false → count_by p (replicate k s) ≡ 0
count-none p zero s fails = refl
count-none p (suc k) s fails =
    let none : ◌≡◌ {A = ℕ} (cond (p s) 1 0) 0 = ap (λ (b : Bool). let one : ℕ = 1 in cond b one 0) fails in
    omega (arith, sum_by-cons (λ (x : Stage). cond (p x) 1 0) s (replicate k s), none, count-none p k s fails)

pub ledger_opened : (frames : ℕ) (words : List ℕ) → frames < 2 ^ 32 → frames ≤ 64 * length words → ((n : ℕ) → n < frames → has words n ≡ 1)
    → ((n : ℕ) → frames ≤ n → has words n ≡ 0) → IsLedger (replicate frames Free) words (record { free = frames; mapped = 0; withheld = 0 })
ledger_opened frames words few room below above = record {
  few = simp length-replicate few;
  enough = omega (arith, room, length-replicate frames Free);
  marked = λ n s here.
      let within : n < frames = omega (arith, slice_get_within (replicate frames Free) n s here, length-replicate frames Free) in
      below n within ∙ sym (ap (λ (t : Stage). let one : ℕ = 1 in cond (is_free_stage t) one 0) (get-replicate frames n Free s here));
  beyond = λ n past. above n (omega (arith, past, length-replicate frames Free));
  free = sym (count-all is_free_stage frames Free refl);
  mapped = sym (count-none is_mapped_stage frames Free refl);
  withheld = sym (count-none is_withheld_stage frames Free refl);
}
