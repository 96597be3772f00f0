-- What an unmapping answers is where its frames are after it: it answers by whether some endpoint has something to wait for,
-- and that is whether some endpoint hasn't answered yet for what the step itself writes down. And a mapping answers a frame
-- that was free, and is at the page after it.
use Rattle.sva_model.specs.State.{PasidRule}
use Rattle.std.proofs.Common.{◌≡◌, ◌≢◌, ◌⊎◌, inl, inr, refl, ap, sym, subst, ◌∙◌, ℕ, zero, suc, ◌+◌, ◌*◌, ◌^◌, ◌<◌, Bool, true, false, arith, length-append}
use Rattle.std.specs.Prelude.{◌↔◌, Option, Some, None, ◌&&◌, ◌||◌, not, ◌==◌, nat_lt, if◌then◌else◌, List, [], ◌∷◌, ◌++◌, length, slice_get, Ok, Err}
use Rattle.std.proofs.lemmas.Bool.Decides.{nat_tests}
use Rattle.std.proofs.lemmas.Bool.{not-false}
use Rattle.sva_step.specs.declared.answers.Answer.{Answer}
use Rattle.sva_step.specs.declared.answers.Answer.TheVariants.{Frame, FreeFrames, WithheldFrames, RangeFree, RangeWithheld}
use Rattle.sva_step.specs.declared.limits.Config.{Config}
use Rattle.sva_step.specs.declared.steps.Step.{Step}
use Rattle.sva_step.specs.declared.steps.Step.TheVariants as step
use Rattle.sva_model.specs.Words.{any_below, all_below, tabulate, put, is_some, the, unless}
use Rattle.sva_model.specs.State.{Owed, OrderState, Endpoint, World, Stage}
use Rattle.sva_model.specs.State.Owed.{Ranges, Pasid}
use Rattle.sva_model.specs.State.MappingState.{Present, Gone}
use Rattle.sva_model.specs.State.Stage.{Unbound, Live, Stopping, Draining, Invalidating, Quiet, Lost, Released}
use Rattle.sva_model.specs.State.OrderState.{Done}
use Rattle.sva_model.specs.States.{Place, is_open, is_before_invalidating, is_done, answered, place, place_at, place_by, place_of_gone, is_free}
use Rattle.sva_model.specs.States.{is_free_place}
use Rattle.sva_model.specs.States.Place.{Free, Withheld}
use Rattle.sva_model.specs.Unmappings.{bound, submits_at, owed_by, owed_by_unit, owed_by_stage, waits, waits_at, waits_by_stage, submitted}
use Rattle.sva_model.specs.Unmappings.{submitted_if, cookie_of, part_after_unmap, gone_if, in_range, without_pages}
use Rattle.sva_model.specs.Acts.{act}
use Rattle.sva_model.specs.Acts.Act.{Map, Unmap}
use Rattle.sva_model.specs.Labels
use Rattle.sva_model.specs.Refusals.{Cause, refusals}
use Rattle.sva_model.specs.Outcomes.{Outcome, outcome, frames_at, unmap_answer, mapped_in, unmap_range_answer}
use Rattle.sva_model.specs.Steps.{checked, decide, reply, after_acts, world_after}
use Rattle.sva_model.specs.Claims.{IsAt, IsWithheld}
use Rattle.sva_laws.specs.Laws.{IsTold, IsToldOfRange}
use Rattle.sva_labels.proofs.Words.{put-same, lowest_passes, some_the, all_below-true, all_below-false}
use Rattle.sva_laws.proofs.Orders.{Orders}
use Rattle.sva_laws.proofs.Invariant.{Invariant}
use Rattle.sva_laws.proofs.Passed.{Passed}
use Rattle.sva_laws.proofs.Runs.{always}
use Rattle.sva_laws.proofs.Lookback.{after_one}
use Rattle.sva_laws.proofs.Withheld.{config_kept, is_withheld, place_withheld}
use Rattle.sva_labels.proofs.Tests.{first_holds, not_below_itself, second_holds}

-- What is accepted has passed every test; it answers and does what its outcome says.

answer_is : (o : Outcome) (a : Answer) → (checked [] o).reply ≡ Ok a → o.answer ≡ a
answer_is o a h = cc

pub accepted : (cs : List Cause) (o : Outcome) (a : Answer) → (checked cs o).reply ≡ Ok a → Passed cs × (o.answer ≡ a) × ((checked cs o).acts ≡ o.acts)
accepted [] o a h = (tt, answer_is o a h, refl)
accepted (c ∷ cs) o a h = go (λ k. accepted cs o a k) c.0 refl h
  where
    go : ((checked cs o).reply ≡ Ok a → Passed cs × (o.answer ≡ a) × ((checked cs o).acts ≡ o.acts)) → (b : Bool) → c.0 ≡ b
        → (if b then record { reply = Err c.1; acts = [] } else checked cs o).reply ≡ Ok a → ((c.0 ≡ false) × Passed cs) × (o.answer ≡ a)
        × ((if b then record { reply = Err c.1; acts = [] } else checked cs o).acts ≡ o.acts)
    go rest true e h = absurd (cc)
    go rest false e h = let x = rest h in ((e, x.0), x.1, x.2)

-- The frames, by page.

table_length : (n : ℕ) (f : ℕ → ℕ) → length (tabulate n f) ≡ n
unfolding tabulate
table_length zero f = refl
table_length (suc n) f =
    let rest : length (tabulate n f) ≡ n = table_length n f in
    length-append (tabulate n f) (f n ∷ []) ∙ omega arith

in_front_or_last : (xs : List ℕ) (y k x : ℕ) → slice_get (xs ++ y ∷ []) k ≡ Some x → (slice_get xs k ≡ Some x) ⊎ ((k ≡ length xs) × (y ≡ x))
in_front_or_last [] y zero x h = inr (refl, cc)
in_front_or_last [] y (suc k) x h = absurd (cc)
in_front_or_last (z ∷ xs) y zero x h = inl h
in_front_or_last (z ∷ xs) y (suc k) x h = elim (in_front_or_last xs y k x h) [ inl e ↦ inl e | inr e ↦ inr (ap suc e.0, e.1) ]

table_at : (n : ℕ) (f : ℕ → ℕ) (k x : ℕ) → slice_get (tabulate n f) k ≡ Some x → (k < n) × (f k ≡ x)
unfolding tabulate
table_at zero f k x h = absurd (cc)
table_at (suc n) f k x h = go (λ e. table_at n f k x e) (in_front_or_last (tabulate n f) (f n) k x h)
  where
    go : (slice_get (tabulate n f) k ≡ Some x → (k < n) × (f k ≡ x)) → (slice_get (tabulate n f) k ≡ Some x)
        ⊎ ((k ≡ length (tabulate n f)) × (f n ≡ x)) → (k < suc n) × (f k ≡ x)
    go rest (inl e) = let r = rest e in (omega (arith, r.0), r.1)
    go rest (inr e) = let same : k ≡ n = e.0 ∙ table_length n f in (omega arith, ap f same ∙ e.1)

-- An endpoint has answered right after the step exactly where it had nothing to wait for.

unit_silent : (p : Endpoint) (b q count order cookie : ℕ) (o : Bool)
    → answered (submitted_if (o && true) p (Some b) q count order cookie) (owed_by_unit p count o) ≡ false
unit_silent p b q count order cookie true = pages (first_queued)
  where
    first_queued : is_done ((submitted p b q count order cookie).order_state (p.orders + 0)) ≡ false
    first_queued = grind (arith, nat_tests)

    pages : is_done ((submitted p b q count order cookie).order_state (p.orders + 0)) ≡ false
        → answered (submitted p b q count order cookie) (Ranges p.orders count p.resets) ≡ false
    pages h =
        let none : all_below (suc count) (λ j. is_done ((submitted p b q count order cookie).order_state (p.orders + j))) ≡ false =
        all_below-false (suc count) (λ j. is_done ((submitted p b q count order cookie).order_state (p.orders + j))) 0 (omega arith) h in
        neither (all_below (suc count) (λ j. is_done ((submitted p b q count order cookie).order_state (p.orders + j)))) p.resets none
      where
        neither : (a : Bool) (r : ℕ) → a ≡ false → (a || nat_lt r r) ≡ false
        neither a r h = grind (arith, nat_tests)
unit_silent p b q count order cookie false = not_below_itself p.resets

-- of a binding that invalidates only the wait is looked at, and the invalidation ahead of it is done where the wait is
pasid_told : (a c : OrderState) (r : ℕ) → (c ≡ Done → a ≡ Done) → ((is_done a && is_done c) || nat_lt r r) ≡ not (not (is_done c))
pasid_told a c r h = grind (arith, nat_tests)

stage_told : (p : Endpoint) (b q count order cookie : ℕ) → Orders p → (s : Stage) → p.stage b ≡ s
    → answered (submitted_if (is_open p.phase && is_before_invalidating s) p (Some b) q count order cookie) (owed_by_stage p count s)
    ≡ not (waits_by_stage p s)
stage_told p b q count order cookie or Live st = unit_silent p b q count order cookie (is_open p.phase)
stage_told p b q count order cookie or (Stopping marked) st = unit_silent p b q count order cookie (is_open p.phase)
stage_told p b q count order cookie or (Draining wait) st = unit_silent p b q count order cookie (is_open p.phase)
stage_told p b q count order cookie or (Invalidating k w) st = go (is_open p.phase)
  where
    go : (o : Bool) → answered (submitted_if (o && false) p (Some b) q count order cookie) (Pasid k w p.resets (not (is_open p.phase)))
        ≡ not (not (is_done (p.order_state w)))
    go true = pasid_told (p.order_state k) (p.order_state w) p.resets (or.invalidation_done b k w st)
    go false = pasid_told (p.order_state k) (p.order_state w) p.resets (or.invalidation_done b k w st)
stage_told p b q count order cookie or Unbound st = refl
stage_told p b q count order cookie or Quiet st = refl
stage_told p b q count order cookie or Lost st = refl
stage_told p b q count order cookie or Released st = refl

endpoint_told : (w : World) (s q count order e : ℕ) → Invariant w
    → answered (part_after_unmap w s q count order e) (owed_by (w.part e) count (bound w e s)) ≡ not (waits w s e)
endpoint_told w s q count order e i = go (bound w e s)
  where
    go : (o : Option ℕ) → answered (submitted_if (submits_at (w.part e) o) (w.part e) o q count order (cookie_of w s e)) (owed_by (w.part e) count o)
        ≡ not (waits_at (w.part e) o)
    go None = refl
    go (Some b) = stage_told (w.part e) b q count order (cookie_of w s e) (i.parts e).orders ((w.part e).stage b) refl

none_waits : (n : ℕ) (p r : ℕ → Bool) → ((e : ℕ) → p e ≡ not (r e)) → all_below n p ≡ not (any_below n r)
unfolding all_below any_below
none_waits zero p r h = refl
none_waits (suc n) p r h = more (p n) (r n) (all_below n p) (any_below n r) (h n) (none_waits n p r h)
  where
    more : (a b x y : Bool) → a ≡ not b → x ≡ not y → (if a then x else false) ≡ not (if b then true else y)
    more a b x y h k = grind arith

-- The place of a frame after the pages are unmapped.

goes : (w : World) (s q n r m : ℕ) (owed : ℕ → Owed) → in_range q n r ≡ true → w.mappings.state m ≡ Present → w.mappings.space m ≡ s
    → w.mappings.page m ≡ r → gone_if (w.mappings.space m == s && in_range q n (w.mappings.page m)) owed (w.mappings.state m) ≡ Gone owed
goes w s q n r m owed l st sp pg = grind (arith, nat_tests)

place_told : (w : World) (s q count order r f : ℕ) → Invariant w → in_range q (count * 2 ^ order) r ≡ true → IsAt w f s r
    → place (act w (Unmap s q count order)) f ≡ place_of_gone (not (any_below w.config.endpoints (waits w s)))
place_told w s q count order r f i l is =
    let at = i.mapped.at_present s r is.mapping is.maps in
    let la : w.mappings.latest f ≡ Some is.mapping = subst (λ z. w.mappings.latest z ≡ Some is.mapping) is.leads (i.mapped.latest is.mapping at.0) in
    ap (place_at (act w (Unmap s q count order))) la
    ∙ ap (place_by (act w (Unmap s q count order)))
    (goes w s q (count * 2 ^ order) r is.mapping (λ e. owed_by (w.part e) count (bound w e s)) l at.0 at.1 at.2)
    ∙ ap place_of_gone
    (none_waits w.config.endpoints (λ e. answered (part_after_unmap w s q count order e) (owed_by (w.part e) count (bound w e s))) (waits w s)
    (λ e. endpoint_told w s q count order e i))

-- no page of what is taken out is mapped then
none_there : (w : World) (s q n r : ℕ) (owed : ℕ → Owed) → in_range q n r ≡ true → (without_pages w.mappings s (in_range q n) owed).at s r ≡ None
none_there w s q n r owed l =
    ap (λ row. row r) (put-same w.mappings.at s (λ x. unless (λ m. in_range q n x) (w.mappings.at s x))) ∙ none (w.mappings.at s r)
  where
    none : (o : Option ℕ) → unless (λ m. in_range q n r) o ≡ None
    none None = refl
    none (Some m) = taken (in_range q n r) l
      where
        taken : (b : Bool) → b ≡ true → (if b then None else Some m) ≡ None
        taken true h = refl
        taken false h = absurd (cc)

-- The answer by whether some endpoint waits: one of two, of which the first is free.

abbrev answer_by : Bool → (one other : Answer) → Answer
answer_by true one other = other
answer_by false one other = one

said_one : (t : Bool) (one other a : Answer) → answer_by t one other ≡ a → (a ≡ one) ⊎ (a ≡ other)
said_one true one other a h = inr (sym h)
said_one false one other a h = inl (sym h)

said_free : (t : Bool) (one other a : Answer) (x : Place) → one ≢ other → answer_by t one other ≡ a → x ≡ place_of_gone (not t) → (a ≡ one) ↔ (x ≡ Free)
said_free true one other a x ne h e = (λ y. absurd (ne (sym y ∙ sym h)), λ y. absurd (cc))
said_free false one other a x ne h e = (λ y. e, λ y. sym h)

said_withheld : (t : Bool) (one other a : Answer) (x : Place) → one ≢ other → answer_by t one other ≡ a → x ≡ place_of_gone (not t)
    → (a ≡ other) ↔ (x ≡ Withheld)
said_withheld true one other a x ne h e = (λ y. e, λ y. sym h)
said_withheld false one other a x ne h e = (λ y. absurd (ne (h ∙ y)), λ y. absurd (cc))

by_frames : (t : Bool) (frames : List ℕ) → answer_by t (FreeFrames frames) (WithheldFrames frames) ≡ unmap_answer t frames
by_frames true frames = refl
by_frames false frames = refl

by_range : (t : Bool) (n : ℕ) → answer_by t (RangeFree n) (RangeWithheld n) ≡ unmap_range_answer t n
by_range true n = refl
by_range false n = refl

two_answers : (frames : List ℕ) → FreeFrames frames ≢ WithheldFrames frames
two_answers frames h = absurd (cc)

two_range_answers : (n : ℕ) → RangeFree n ≢ RangeWithheld n
two_range_answers n h = absurd (cc)

-- what is withheld by its place is so by the look back
by_look_back : (rule : PasidRule) (c : Config) (steps : List Step) (f : ℕ) (said : Type 0) → said ↔ (place (world_after rule c steps) f ≡ Withheld)
    → said ↔ IsWithheld rule c steps f
by_look_back rule c steps f said x = ((λ y. is_withheld rule c steps f (x.0 y)), (λ y. x.1 (place_withheld rule c steps f y)))

number_back : (w : World) (n : ℕ) → Labels.is_number w w.spaces n ≡ true → Labels.number w (Labels.name w n) ≡ n
number_back w n h = grind (arith, nat_tests)

piece_inside : (q n k : ℕ) → k < n → in_range q n (q + k) ≡ true
piece_inside q n k l = grind (arith, nat_tests)

pub told : (rule : PasidRule) (c : Config) (steps : List Step) (n q count : ℕ) (a : Answer) → reply (world_after rule c steps) (step.Unmap n q count)
    ≡ Ok a → IsTold rule c steps n q count a
told rule c steps n q count a h =
    record {
      space = s;
      numbered = number_back w n (first_holds (Labels.is_number w w.spaces n) (w.is_live s) is_space);
      frames = fs;
      one_a_page = table_length count (λ j. w.mappings.frame (the (w.mappings.at s (q + j))));
      was_there = λ k f e. there k f (page_of k f e);
      said = said_one some_wait (FreeFrames fs) (WithheldFrames fs) a answer_is;
      free = λ k f e. said_free some_wait (FreeFrames fs) (WithheldFrames fs) a (place v f) (two_answers fs) answer_is (after k f (page_of k f e));
      withheld = λ k f e. by_look_back rule c (steps ++ step.Unmap n q count ∷ []) f (a ≡ WithheldFrames fs)
          (said_withheld some_wait (FreeFrames fs) (WithheldFrames fs) a (place v f) (two_answers fs) answer_is (after k f (page_of k f e)));
    }
  where
    w : World
    w = world_after rule c steps

    v : World
    v = world_after rule c (steps ++ step.Unmap n q count ∷ [])

    s : ℕ
    s = Labels.name w n

    some_wait : Bool
    some_wait = any_below w.config.endpoints (waits w s)

    fs : List ℕ
    fs = frames_at w s q count

    accepts : Passed (refusals w (step.Unmap n q count)) × ((outcome w (step.Unmap n q count)).answer ≡ a)
        × ((decide w (step.Unmap n q count)).acts ≡ (outcome w (step.Unmap n q count)).acts)
    accepts = accepted (refusals w (step.Unmap n q count)) (outcome w (step.Unmap n q count)) a h

    answer_is : answer_by some_wait (FreeFrames fs) (WithheldFrames fs) ≡ a
    answer_is = by_frames some_wait fs ∙ accepts.1

    is_space : Labels.is_space w n ≡ true
    is_space = not-false (Labels.is_space w n) accepts.0.0

    page_of : (k f : ℕ) → slice_get fs k ≡ Some f → (k < count) × (w.mappings.frame (the (w.mappings.at s (q + k))) ≡ f)
    page_of k f e = table_at count (λ j. w.mappings.frame (the (w.mappings.at s (q + j)))) k f e

    there : (k f : ℕ) → (k < count) × (w.mappings.frame (the (w.mappings.at s (q + k))) ≡ f) → IsAt w f s (q + k)
    there k f x =
        record {
          live = second_holds (Labels.is_number w w.spaces n) (w.is_live s) is_space;
          mapping = the (w.mappings.at s (q + k));
          maps = some_the (w.mappings.at s (q + k))
              (all_below-true count (λ j. Labels.is_mapped w s (q + j))
              (not-false (all_below count (λ j. Labels.is_mapped w s (q + j))) accepts.0.1.1.1.0) k x.0);
          leads = x.1;
        }

    next_is : v ≡ act w (Unmap s q count 0)
    next_is = after_one rule c steps (step.Unmap n q count) ∙ ap (after_acts w) accepts.2

    inside : (k : ℕ) → k < count → in_range q (count * 2 ^ 0) (q + k) ≡ true
    inside k l = piece_inside q (count * 2 ^ 0) k (omega (arith, l))

    after : (k f : ℕ) → (k < count) × (w.mappings.frame (the (w.mappings.at s (q + k))) ≡ f) → place v f ≡ place_of_gone (not some_wait)
    after k f x = ap (λ z. place z f) next_is ∙ place_told w s q count 0 (q + k) f (always rule c steps) (inside k x.0) (there k f x)

-- Of an unmapping of a range: how many pages of it were mapped.
pub told_of_range : (rule : PasidRule) (c : Config) (steps : List Step) (n q order : ℕ) (a : Answer)
    → reply (world_after rule c steps) (step.UnmapRange n q order) ≡ Ok a → IsToldOfRange rule c steps n q order a
told_of_range rule c steps n q order a h =
    record {
      space = s;
      numbered = number_back w n (first_holds (Labels.is_number w w.spaces n) (w.is_live s) is_space);
      frames = taken;
      counted = refl;
      said = said_one some_wait (RangeFree taken) (RangeWithheld taken) a answer_is;
      free = λ k f l is. said_free some_wait (RangeFree taken) (RangeWithheld taken) a (place v f) (two_range_answers taken) answer_is (after k f l is);
      withheld = λ k f l is. by_look_back rule c (steps ++ step.UnmapRange n q order ∷ []) f (a ≡ RangeWithheld taken)
          (said_withheld some_wait (RangeFree taken) (RangeWithheld taken) a (place v f) (two_range_answers taken) answer_is (after k f l is));
      gone = λ k l. ap (λ z. Labels.is_mapped z s (q + k)) next_is
          ∙ ap is_some (none_there w s q (1 * 2 ^ order) (q + k) (λ e. owed_by (w.part e) 1 (bound w e s)) (inside k l));
    }
  where
    w : World
    w = world_after rule c steps

    v : World
    v = world_after rule c (steps ++ step.UnmapRange n q order ∷ [])

    s : ℕ
    s = Labels.name w n

    some_wait : Bool
    some_wait = any_below w.config.endpoints (waits w s)

    taken : ℕ
    taken = mapped_in w s q order

    accepts : Passed (refusals w (step.UnmapRange n q order)) × ((outcome w (step.UnmapRange n q order)).answer ≡ a)
        × ((decide w (step.UnmapRange n q order)).acts ≡ (outcome w (step.UnmapRange n q order)).acts)
    accepts = accepted (refusals w (step.UnmapRange n q order)) (outcome w (step.UnmapRange n q order)) a h

    answer_is : answer_by some_wait (RangeFree taken) (RangeWithheld taken) ≡ a
    answer_is = by_range some_wait taken ∙ accepts.1

    is_space : Labels.is_space w n ≡ true
    is_space = not-false (Labels.is_space w n) accepts.0.0

    next_is : v ≡ act w (Unmap s q 1 order)
    next_is = after_one rule c steps (step.UnmapRange n q order) ∙ ap (after_acts w) accepts.2

    inside : (k : ℕ) → k < 2 ^ order → in_range q (1 * 2 ^ order) (q + k) ≡ true
    inside k l = piece_inside q (1 * 2 ^ order) k (omega (arith, l))

    after : (k f : ℕ) → k < 2 ^ order → IsAt w f s (q + k) → place v f ≡ place_of_gone (not some_wait)
    after k f l is = ap (λ z. place z f) next_is ∙ place_told w s q 1 order (q + k) f (always rule c steps) (inside k l) is

-- A mapping.

free_place : (x : Place) → is_free_place x ≡ true → x ≡ Free
free_place x h = grind arith

at_the_page : (w : World) (s q f : ℕ) (x : Bool) → w.is_live s ≡ true → IsAt (act w (Map s q f x)) f s q
at_the_page w s q f x live =
    record {
      live = live;
      mapping = w.mappings.made;
      maps = ap (λ row. row q) (put-same w.mappings.at s (put (w.mappings.at s) q (Some w.mappings.made)))
          ∙ put-same (w.mappings.at s) q (Some w.mappings.made);
      leads = put-same w.mappings.frame w.mappings.made f;
    }

pub given : (rule : PasidRule) (c : Config) (steps : List Step) (n q : ℕ) (x : Bool) (a : Answer) → reply (world_after rule c steps) (step.Map n q x)
    ≡ Ok a → (s f : ℕ) × (Labels.number (world_after rule c steps) s ≡ n) × (a ≡ Frame f) × (f < c.frames)
    × (place (world_after rule c steps) f ≡ Free) × IsAt (world_after rule c (steps ++ step.Map n q x ∷ [])) f s q
given rule c steps n q x a h =
    let w = world_after rule c steps in
    let s = Labels.name w n in
    let f = Labels.lowest_frame w in
    let yes = accepted (refusals w (step.Map n q x)) (outcome w (step.Map n q x)) a h in
    let is_space = not-false (Labels.is_space w n) yes.0.0 in
    let low = lowest_passes w.config.frames (is_free w) yes.0.1.1.1.1.0 in
    let next_is = after_one rule c steps (step.Map n q x) ∙ ap (after_acts w) yes.2 in (
      s,
      f,
      number_back w n (first_holds (Labels.is_number w w.spaces n) (w.is_live s) is_space),
      sym yes.1,
      subst (λ k. f < k.frames) (config_kept rule c steps) low.0,
      free_place (place w f) low.1,
      subst (λ v. IsAt v f s q) (sym next_is) (at_the_page w s q f x (second_holds (Labels.is_number w w.spaces n) (w.is_live s) is_space)),
    )
