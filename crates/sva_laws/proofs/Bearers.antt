-- Who bears a PASID: the bindings that are unreleased and bear it are as many as endpoints at which one does.
use Rattle.std.proofs.Common.{◌≡◌, ◌≢◌, ◌⊎◌, inl, inr, refl, ap, sym, subst, ◌∙◌, ℕ, zero, suc, ◌<◌, ◌≤◌, Bool, true, false, arith}
use Rattle.std.specs.Prelude.{Some, ◌&&◌, not, ◌==◌, nat_le, if◌then◌else◌, List, [], ◌∷◌, Ok}
use Rattle.std.proofs.lemmas.Bool.Decides.{nat_tests}
use Rattle.std.proofs.lemmas.Bool.{and_from, eq-eqb, eqb-true}
use Rattle.sva_step.specs.declared.answers.Answer.{Answer}
use Rattle.sva_step.specs.declared.answers.Answer.TheVariants as answer
use Rattle.sva_step.specs.declared.limits.Config.{Config}
use Rattle.sva_step.specs.declared.refusals.Refusal.TheVariants as refusal
use Rattle.sva_step.specs.declared.steps.Step.{Step}
use Rattle.sva_step.specs.declared.steps.Step.TheVariants as step
use Rattle.sva_model.specs.Words.{put, count_below, lowest, is_some, the}
use Rattle.sva_model.specs.State.{PasidRule, World}
use Rattle.sva_model.specs.States.{is_unreleased}
use Rattle.sva_model.specs.Labels
use Rattle.sva_model.specs.Outcomes.{says, bearer_answer}
use Rattle.sva_model.specs.Steps.{Reply, checked, reply, world_after}
use Rattle.sva_laws.specs.Bearers.{Bears, bears, bearers, IsBorneSo, TellsBearer}
use Rattle.sva_labels.proofs.Words.{put-same, put-other, some_the, lowest_below, any_below-false, any_below-true}
use Rattle.sva_labels.proofs.Counting.{count_off}
use Rattle.sva_labels.proofs.Tests.{first_holds, second_holds}
use Rattle.sva_laws.proofs.Invariant.{Invariant}
use Rattle.sva_laws.proofs.Passed.{unreleased_made, unreleased_bound}
use Rattle.sva_laws.proofs.Runs.{always}

-- what passes of one table passes in another, each at a place of its own
count_into : (k n : ℕ) (q p : ℕ → Bool) (f : ℕ → ℕ) → ((i : ℕ) → i < k → q i ≡ true → f i < n)
    → ((i : ℕ) → i < k → q i ≡ true → p (f i) ≡ true)
    → ((i j : ℕ) → i < k → j < k → q i ≡ true → q j ≡ true → f i ≡ f j → i ≡ j)
    → count_below k q ≤ count_below n p
unfolding count_below
count_into zero n q p f b h d = omega arith
count_into (suc k) n q p f b h d =
    go (q k) refl
    (count_into k n q p f (λ i m. b i (omega arith)) (λ i m. h i (omega arith)) (λ i j m o. d i j (omega arith) (omega arith)))
    (λ t. count_into k n q (put p (f k) false) f (λ i m. b i (omega arith))
    (λ i m u. put-other p (f k) false (f i) (apart t i m u) ∙ h i (omega arith) u)
    (λ i j m o. d i j (omega arith) (omega arith)))
  where
    l : k < suc k
    l = omega arith

    apart : q k ≡ true → (i : ℕ) → i < k → q i ≡ true → f i ≢ f k
    apart t i m u z = let same = d i k (omega arith) l u t z in absurd (omega arith)

    go : (t : Bool) → q k ≡ t → count_below k q ≤ count_below n p → (q k ≡ true → count_below k q ≤ count_below n (put p (f k) false))
        → (if t then suc (count_below k q) else count_below k q) ≤ count_below n p
    go false e rest less = rest
    go true e rest less =
        let off : count_below n p ≡ suc (count_below n (put p (f k) false)) =
        count_off n p (put p (f k) false) (f k) (b k l e) (h k l e) (put-same p (f k) false) (λ x ne. sym (put-other p (f k) false x ne))
        in
        omega (arith, off, less e)

-- A binding that bears a PASID.

its_endpoint : (w : World) (t e b : ℕ) → Invariant w → Bears w t e b → w.endpoint_of b ≡ e
its_endpoint w t e b i x = i.one_endpoint e b (unreleased_bound (w.part e) b x.unreleased)

there : (w : World) (t e b : ℕ) → Invariant w → Bears w t e b → e < w.config.endpoints
there w t e b i x = (i.parts e).there b (unreleased_bound (w.part e) b x.unreleased)

found_by : (w : World) (t e b : ℕ) → Invariant w → Bears w t e b → (w.part e).at_pasid t ≡ Some b
found_by w t e b i x = subst (λ z. (w.part e).at_pasid z ≡ Some b) x.its_pasid ((i.parts e).labels.bears_pasid b x.unreleased)

finds : (w : World) (t e b : ℕ) → Invariant w → (w.part e).at_pasid t ≡ Some b → Bears w t e b
finds w t e b i h = let x = (i.parts e).labels.pasid_bears t b h in record { unreleased = x.1; its_pasid = x.0 }

bears_is : (w : World) (t b : ℕ) → bears w t b ≡ true → Bears w t (w.endpoint_of b) b
bears_is w t b h =
    let p = w.part (w.endpoint_of b) in
    record {
      unreleased = first_holds (is_unreleased (p.stage b)) (p.pasid b == t) h;
      its_pasid = eqb-true (p.pasid b) t (second_holds (is_unreleased (p.stage b)) (p.pasid b == t) h);
    }

is_bearing : (w : World) (t e b : ℕ) → Invariant w → Bears w t e b → bears w t b ≡ true
is_bearing w t e b i x =
    let own = its_endpoint w t e b i x in
    and_from (is_unreleased ((w.part (w.endpoint_of b)).stage b)) ((w.part (w.endpoint_of b)).pasid b == t)
    (ap (λ z. is_unreleased ((w.part z).stage b)) own ∙ x.unreleased)
    (eq-eqb ((w.part (w.endpoint_of b)).pasid b) t (ap (λ z. (w.part z).pasid b) own ∙ x.its_pasid))

same_bearer : (a b : ℕ) → Some a ≡ Some b → a ≡ b
same_bearer a b h = cc

-- as many bindings bear it as endpoints have one that does
counted : (w : World) (t : ℕ) → Invariant w → Labels.bindings_under w t ≡ bearers w t
counted w t i =
    let forth : Labels.bindings_under w t ≤ bearers w t =
    count_into w.config.endpoints w.bindings (λ e. Labels.is_borne_at (w.part e) t) (bears w t) (λ e. the ((w.part e).at_pasid t))
    (λ e l h. made e (at e h)) (λ e l h. is_bearing w t e (the ((w.part e).at_pasid t)) i (at e h))
    (λ e d l m h k same.
    sym (its_endpoint w t e (the ((w.part e).at_pasid t)) i (at e h)) ∙ ap w.endpoint_of same
    ∙ its_endpoint w t d (the ((w.part d).at_pasid t)) i (at d k))
    in
    let back : bearers w t ≤ Labels.bindings_under w t =
    count_into w.bindings w.config.endpoints (bears w t) (λ e. Labels.is_borne_at (w.part e) t) w.endpoint_of
    (λ b l h. there w t (w.endpoint_of b) b i (bears_is w t b h))
    (λ b l h. ap is_some (found_by w t (w.endpoint_of b) b i (bears_is w t b h)))
    (λ b d l m h k same.
    same_bearer b d
    (sym (found_by w t (w.endpoint_of b) b i (bears_is w t b h)) ∙ ap (λ z. (w.part z).at_pasid t) same
    ∙ found_by w t (w.endpoint_of d) d i (bears_is w t d k)))
    in
    omega (arith, forth, back)
  where
    at : (e : ℕ) → Labels.is_borne_at (w.part e) t ≡ true → Bears w t e (the ((w.part e).at_pasid t))
    at e h = finds w t e (the ((w.part e).at_pasid t)) i (some_the ((w.part e).at_pasid t) h)

    made : (e : ℕ) → Bears w t e (the ((w.part e).at_pasid t)) → the ((w.part e).at_pasid t) < w.bindings
    made e x = unreleased_made w.bindings (w.part e) (the ((w.part e).at_pasid t)) (i.parts e).bounds.stage x.unreleased

-- What is said of a PASID, by whether it is one and whether it is borne.

abbrev said_by : World → ℕ → (fits borne : Bool) → Reply
said_by w t fits borne = (checked ((not fits, refusal.BadPasid) ∷ []) (says (bearer_answer w t borne) [])).reply

outside : (t : ℕ) → (nat_le 1 t && nat_le t 32) ≡ false → (t ≡ 0) ⊎ (32 < t)
outside t h = grind (arith, nat_tests)

inside : (t : ℕ) → (nat_le 1 t && nat_le t 32) ≡ true → (t ≡ 0) ⊎ (32 < t) → ⊥
inside t h k = grind (arith, nat_tests)

abbrev said : Answer → Reply
said a = Ok a

same_space : (a b c d : ℕ) → said (answer.Bearer a b) ≡ said (answer.Bearer c d) → a ≡ c
same_space a b c d h = cc

same_count : (a b c d : ℕ) → said (answer.Bearer a b) ≡ said (answer.Bearer c d) → b ≡ d
same_count a b c d h = cc

borne_so : (w : World) (t s k : ℕ) → Invariant w → Labels.is_borne w t ≡ true → Labels.number w (Labels.space_under w t) ≡ s
    → Labels.bindings_under w t ≡ k → IsBorneSo w t s k
borne_so w t s k i h number count =
    record {
      space = Labels.space_under w t;
      numbered = number;
      counted = sym count ∙ counted w t i;
      endpoint = e;
      binding = b;
      first = first;
      first_space = refl;
      lowest = λ d o l x. absurd (cc (sym (low.2 d l) ∙ ap is_some (found_by w t d o i x)));
      every_space = λ r d o x. (i.shared r).same_space d e o b x.unreleased first.unreleased (x.its_pasid ∙ sym first.its_pasid);
    }
  where
    some : (e : ℕ) × (e < w.config.endpoints) × (Labels.is_borne_at (w.part e) t ≡ true)
    some = any_below-true w.config.endpoints (λ d. Labels.is_borne_at (w.part d) t) h

    e : ℕ
    e = lowest w.config.endpoints (λ d. Labels.is_borne_at (w.part d) t)

    low : (e < w.config.endpoints) × (Labels.is_borne_at (w.part e) t ≡ true) × ((d : ℕ) → d < e → Labels.is_borne_at (w.part d) t ≡ false)
    low = lowest_below w.config.endpoints (λ d. Labels.is_borne_at (w.part d) t) some.0 some.1 some.2

    b : ℕ
    b = the ((w.part e).at_pasid t)

    first : Bears w t e b
    first = finds w t e b i (some_the ((w.part e).at_pasid t) low.1)

tells_by : (w : World) (t : ℕ) → Invariant w → (fits borne : Bool) → (nat_le 1 t && nat_le t 32) ≡ fits → Labels.is_borne w t ≡ borne
    → TellsBearer w t (said_by w t fits borne)
tells_by w t i false borne f b =
    record {
      borne = λ s k h. absurd (cc (h));
      free = λ h. absurd (cc (h));
      refused = ((λ h. outside t f), (λ h. refl));
      one_of_three = inl refl;
    }
tells_by w t i true false f b =
    record {
      borne = λ s k h. absurd (cc (h));
      free = λ h e d x. absurd (cc (sym (any_below-false w.config.endpoints (λ z. Labels.is_borne_at (w.part z) t) b e (there w t e d i x))
          ∙ ap is_some (found_by w t e d i x)));
      refused = ((λ h. absurd (cc (h))), (λ h. absurd (inside t f h)));
      one_of_three = inr (inl refl);
    }
tells_by w t i true true f b =
    let number = Labels.number w (Labels.space_under w t) in
    let count = Labels.bindings_under w t in
    record {
      borne = λ s k h. borne_so w t s k i b (same_space number count s k h) (same_count number count s k h);
      free = λ h. absurd (cc (h));
      refused = ((λ h. absurd (cc (h))), (λ h. absurd (inside t f h)));
      one_of_three = inr (inr (number, count, refl));
    }

pub always_tells_bearer : (rule : PasidRule) (config : Config) (steps : List Step) (t : ℕ)
    → TellsBearer (world_after rule config steps) t (reply (world_after rule config steps) (step.Bearer t))
always_tells_bearer rule config steps t =
    let w = world_after rule config steps in
    tells_by w t (always rule config steps) (nat_le 1 t && nat_le t 32) (Labels.is_borne w t) refl refl
