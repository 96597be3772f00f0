-- What an endpoint has answered stays answered.
use Rattle.std.proofs.Common.{◌≡◌, refl, ℕ, suc, ◌+◌, ◌≤◌, Bool, true, false, arith}
use Rattle.std.specs.Prelude.{Option, Some, None, ◌&&◌, ◌||◌, nat_lt}
use Rattle.std.proofs.lemmas.Bool.Decides.{nat_tests}
use Rattle.sva_model.specs.Words.{all_below}
use Rattle.sva_model.specs.State.{Owed, Mappings, Endpoint}
use Rattle.sva_model.specs.State.Owed.{Nothing, Ranges, Pasid, NextReset}
use Rattle.sva_model.specs.State.OrderState.{Void}
use Rattle.sva_model.specs.States.{is_done, answered}
use Rattle.sva_model.specs.Unmappings.{submitted, submitted_if}
use Rattle.sva_model.specs.Acts.{act_alone, LocalAct}
use Rattle.sva_laws.proofs.Legal.{LegalLocalAct}
use Rattle.sva_laws.proofs.Bounds.{Bounds}
use Rattle.sva_laws.proofs.Orders.{SentOnly}
use Rattle.sva_labels.proofs.Words.{all_below-true, all_below-intro}

all_below-more : (n : ℕ) (p q : ℕ → Bool) → ((j : ℕ) → p j ≡ true → q j ≡ true) → all_below n p ≡ true → all_below n q ≡ true
all_below-more n p q f h = all_below-intro n q (λ j l. f j (all_below-true n p h j l))

pub or_more : (a b c d : Bool) → (a ≡ true → c ≡ true) → (b ≡ true → d ≡ true) → (a || b) ≡ true → (c || d) ≡ true
or_more a b c d f g h = grind arith

pub and_more : (a b c d : Bool) → (a ≡ true → c ≡ true) → (b ≡ true → d ≡ true) → (a && b) ≡ true → (c && d) ≡ true
and_more a b c d f g h = grind arith

pub less_more : (a b c : ℕ) → b ≤ c → nat_lt a b ≡ true → nat_lt a c ≡ true
less_more a b c l h = grind (arith, nat_tests)

-- what is answered by orders that are done stays so, where these stay done and resets are counted up
answered_more : (p q : Endpoint) → ((k : ℕ) → is_done (p.order_state k) ≡ true → is_done (q.order_state k) ≡ true) → p.resets ≤ q.resets → (v : Owed)
    → answered p v ≡ true → answered q v ≡ true
answered_more p q f l Nothing h = refl
answered_more p q f l (Ranges first count resets) h =
    or_more (all_below (suc count) (λ j. is_done (p.order_state (first + j)))) (nat_lt resets p.resets)
    (all_below (suc count) (λ j. is_done (q.order_state (first + j)))) (nat_lt resets q.resets)
    (all_below-more (suc count) (λ j. is_done (p.order_state (first + j))) (λ j. is_done (q.order_state (first + j))) (λ j. f (first + j)))
    (less_more resets p.resets q.resets l) h
answered_more p q f l (Pasid k w resets c0) h =
    or_more (is_done (p.order_state k) && is_done (p.order_state w)) (nat_lt resets p.resets)
    (is_done (q.order_state k) && is_done (q.order_state w)) (nat_lt resets q.resets)
    (and_more (is_done (p.order_state k)) (is_done (p.order_state w)) (is_done (q.order_state k)) (is_done (q.order_state w)) (f k) (f w))
    (less_more resets p.resets q.resets l) h
answered_more p q f l (NextReset resets) h = less_more resets p.resets q.resets l h

done_stays : (ms : Mappings) (g n : ℕ) (p : Endpoint) (o : LocalAct) → LegalLocalAct ms g p o → SentOnly p → (k : ℕ) → (p.orders ≤ k → p.order_state k ≡ Void)
    → is_done (p.order_state k) ≡ true → is_done ((act_alone p n o).order_state k) ≡ true
done_stays ms g n p o l sent k bo h = grind (arith, nat_tests)

resets_grow : (ms : Mappings) (g n : ℕ) (p : Endpoint) (o : LocalAct) → LegalLocalAct ms g p o → p.resets ≤ (act_alone p n o).resets
resets_grow ms g n p o l = grind (arith, nat_tests)

pub answered_own : (ms : Mappings) (g n : ℕ) (p : Endpoint) (o : LocalAct) → LegalLocalAct ms g p o → SentOnly p → Bounds g p → (v : Owed) → answered p v ≡ true
    → answered (act_alone p n o) v ≡ true
answered_own ms g n p o l sent bo v h =
    answered_more p (act_alone p n o) (λ k. done_stays ms g n p o l sent k (bo.order_state k)) (resets_grow ms g n p o l) v h

submitted_done : (g b q count order cookie k : ℕ) (p : Endpoint) → Bounds g p → is_done (p.order_state k) ≡ true
    → is_done ((submitted p b q count order cookie).order_state k) ≡ true
submitted_done g b q count order cookie k p bo h = grind (arith, nat_tests, bo.order_state k)

pub answered_submitted : (g : ℕ) (s : Bool) (p : Endpoint) (o : Option ℕ) (q count order cookie : ℕ) → Bounds g p → (v : Owed) → answered p v ≡ true
    → answered (submitted_if s p o q count order cookie) v ≡ true
answered_submitted g true p (Some b) q count order cookie bo v h =
    answered_more p (submitted p b q count order cookie) (λ k. submitted_done g b q count order cookie k p bo) (omega arith) v h
answered_submitted g true p None q count order cookie bo v h = h
answered_submitted g false p o q count order cookie bo v h = h
