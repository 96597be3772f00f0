-- The steps of spaces and frames by labels: they refuse what the steps by names refuse, and answer and move what these do.
use Rattle.std.proofs.Common.{◌≡◌, refl, ap, ap₂, sym, ◌∙◌, ℕ, ◌+◌, ◌≤◌, ◌^◌, Bool, true, false}
use Rattle.std.specs.Prelude.{◌%◌, ◌&&◌, Option, Some, None, not, ◌==◌, nat_lt, nat_le, List, [], ◌∷◌}
use Rattle.std.proofs.lemmas.Bool.{not-false}
use Rattle.sva_step.specs.declared.answers.Answer.TheVariants as answer
use Rattle.sva_step.specs.declared.refusals.Refusal.TheVariants as refusal
use Rattle.sva_step.specs.declared.steps.Step.TheVariants as step
use Rattle.sva_model.specs.Words.{all_below, any_below, count_below}
use Rattle.sva_model.specs.State.{Owed, MappingState, World}
use Rattle.sva_model.specs.State.MappingState.{Unmade, Present, Gone}
use Rattle.sva_model.specs.States.{answered, place, place_at, place_by, place_of_gone}
use Rattle.sva_model.specs.Unmappings as unmappings
use Rattle.sva_model.specs.Refusals.{Cause, refusals, page_range, unmap_refusals, unmap_range_refusals}
use Rattle.sva_model.specs.Outcomes.{frames_at, mapped_in, unmap_answer, unmap_range_answer, look_answer as look_said}
use Rattle.sva_model.specs.Labels
use Rattle.sva_model.specs.Wire.{number, pages_wire, place_wire_by, withheld_wire, wire}
use Rattle.sva_model.specs.Wire.PlaceWire.{FreeWire}
use Rattle.sva_laws.specs.Waits.{HasFront}
use Rattle.sva_labels.proofs.Counting.{count_same}
use Rattle.sva_laws.proofs.Invariant.{Invariant}
use Rattle.sva_labels.proofs.Tests.{added_back, is_less}
use Rattle.sva_labels.proofs.Lists.{tabulate_at, all_same}
use Rattle.sva_refinement.proofs.PlacesByNumber.{gone_seen, seen_by, seen_at, place_seen, places_length}
use Rattle.sva_refinement.proofs.SpacesByNumber.{space_is, spaces_length}
use Rattle.sva_labels.specs.Finding.{pages_in, is_bound, is_mapped, frames_of}
use Rattle.sva_labels.specs.Moves.{Move}
use Rattle.sva_labels.specs.Causes.{causes_of, lacks, no_such_space, map_causes, unmap_causes, unmap_range_causes}
use Rattle.sva_labels.specs.Outcomes.{says, by_one, waits, look_answer}
use Rattle.sva_refinement.proofs.Alike.{IsAlike, alike_same, alike_more, SaysAlike}
use Rattle.sva_refinement.proofs.LookedSpaces.{space_there, pages_there, mapped_there, pages_count, frames_there, lowest_there}
use Rattle.sva_refinement.proofs.LookedBindings.{bound_there}
use Rattle.sva_refinement.proofs.LookedUnits.{needed_there, full_there, waits_there}
use Rattle.sva_refinement.proofs.Lookups.{any_same}

pub space_says : (w : World) → SaysAlike w step.Space
space_says w =
    record {
      alike = alike_same (causes_of (wire w) step.Space) (refusals w step.Space)
          (ap (λ n. (nat_le 64 n, refusal.TooManySpaces) ∷ (Labels.lacks w w.spaces 1, refusal.NumbersSpent) ∷ []) (spaces_length w));
      result = λ k. refl;
    }

-- a space that isn't there is refused first
pub in_space :
    (w : World) (n : ℕ) (cs ds : List Cause) → (Labels.is_space w n ≡ true → IsAlike cs ds)
    → IsAlike (no_such_space (wire w) n ∷ cs) ((not (Labels.is_space w n), refusal.NoSuchSpace) ∷ ds)
in_space w n cs ds h =
    alike_more (no_such_space (wire w) n) (not (Labels.is_space w n), refusal.NoSuchSpace) cs ds
    (ap (λ b. (not b, refusal.NoSuchSpace)) (space_there w n))
    (λ e. h (sym (space_there w n) ∙ not-false _ e))

map_alike : (w : World) (n q : ℕ) (x : Bool) → Invariant w → IsAlike (causes_of (wire w) (step.Map n q x)) (refusals w (step.Map n q x))
map_alike w n q x i =
    in_space w n (map_causes (wire w).places (pages_in (wire w) n) q)
    (page_range q 1 ∷ (Labels.is_mapped w (Labels.name w n) q, refusal.Mapped) ∷ (
      nat_le 1024
          (Labels.pages_of w (Labels.name w n)),
      refusal.SpaceFull,
    ) ∷ (Labels.lowest_frame w == w.config.frames, refusal.NoFrame) ∷ [])
    (λ e. alike_same (map_causes (wire w).places (pages_in (wire w) n) q)
    (page_range q 1 ∷ (Labels.is_mapped w (Labels.name w n) q, refusal.Mapped) ∷ (
      nat_le 1024
          (Labels.pages_of w (Labels.name w n)),
      refusal.SpaceFull,
    ) ∷ (Labels.lowest_frame w == w.config.frames, refusal.NoFrame) ∷ [])
    (ap (λ pages. map_causes (wire w).places pages q) (pages_there w n e)
    ∙ (λ k. page_range q 1 ∷ (mapped_there w (Labels.name w n) q i.mapped k, refusal.Mapped) ∷ (
      nat_le 1024
          (pages_count w (Labels.name w n) k),
      refusal.SpaceFull,
    ) ∷ (lowest_there w k == places_length w k, refusal.NoFrame) ∷ [])))

-- the number of a space that is there is that of its name
pub space_number : (w : World) (n : ℕ) → Labels.is_space w n ≡ true → number w.config.first (Labels.name w n) ≡ n
space_number w n e = added_back w.config.first n (space_is w n e).from

pub map_says : (w : World) (n q : ℕ) (x : Bool) → Invariant w → SaysAlike w (step.Map n q x)
map_says w n q x i =
    record {
      alike = map_alike w n q x i;
      result = λ k.
          ap (λ f. by_one (answer.Frame f) (Move.Map n q f x)) (lowest_there w)
          ∙ ap (λ m. by_one (answer.Frame (Labels.lowest_frame w)) (Move.Map m q (Labels.lowest_frame w) x))
          (sym (space_number w n (not-false (Labels.is_space w n) k.0)));
    }

look_seen : (w : World) (f : ℕ) → look_answer (place_wire_by w f (place w f)) ≡ look_said (place w f)
look_seen w f = ap look_answer (place_seen w w.mappings f) ∙ go (w.mappings.latest f)
  where
    by_answers :
        (b : Bool) (owed : ℕ → Owed)
        → look_answer (gone_seen b (withheld_wire w.config.first w.config.endpoints w.part (Gone owed))) ≡ look_said (place_of_gone b)
    by_answers true owed = refl
    by_answers false owed = refl

    by_state : (s : MappingState) → look_answer (seen_by w s) ≡ look_said (place_by w s)
    by_state Unmade = refl
    by_state Present = refl
    by_state (Gone owed) = by_answers (all_below w.config.endpoints (λ x. answered (w.part x) (owed x))) owed

    go : (o : Option ℕ) → look_answer (seen_at w w.mappings.state o) ≡ look_said (place_at w o)
    go None = refl
    go (Some m) = by_state (w.mappings.state m)

pub look_says : (w : World) (f : ℕ) → SaysAlike w (step.Look f)
look_says w f =
    record {
      alike = alike_same (causes_of (wire w) (step.Look f)) (refusals w (step.Look f)) (ap (λ n. (not (nat_lt f n), refusal.NoFrame) ∷ []) (places_length w));
      result = λ k. ap (λ a. says a [])
          (ap look_answer (tabulate_at w.config.frames (λ x. place_wire_by w x (place w x)) f FreeWire (is_less f w.config.frames k.0)) ∙ look_seen w f);
    }

pub drop_says : (w : World) (n : ℕ) → Invariant w → SaysAlike w (step.DropSpace n)
drop_says w n i =
    record {
      alike = in_space w n ((is_bound (wire w) n, refusal.StillBound) ∷ []) ((Labels.is_bound w (Labels.name w n), refusal.StillBound) ∷ [])
          (λ e. alike_same ((is_bound (wire w) n, refusal.StillBound) ∷ []) ((Labels.is_bound w (Labels.name w n), refusal.StillBound) ∷ [])
          (ap (λ b. (b, refusal.StillBound) ∷ []) (bound_there w n i (space_number w n e))));
      result = λ k. ap (λ m. by_one answer.Gone (Move.DropSpace m)) (sym (space_number w n (not-false (Labels.is_space w n) k.0)));
    }

unmap_alike : (w : World) (n q count : ℕ) → Invariant w → IsAlike (causes_of (wire w) (step.Unmap n q count)) (refusals w (step.Unmap n q count))
unmap_alike w n q count i =
    in_space w n (unmap_causes (wire w) n (pages_in (wire w) n) q count) (unmap_refusals w (Labels.name w n) q count)
    (λ e. alike_same (unmap_causes (wire w) n (pages_in (wire w) n) q count) (unmap_refusals w (Labels.name w n) q count)
    (ap₂ (λ m pages. unmap_causes (wire w) m pages q count) (sym (space_number w n e)) (pages_there w n e)
    ∙ (λ k.
    (not (nat_le 1 count && nat_le count 48), refusal.BadCount)
    ∷ page_range q count
    ∷ (
      not (all_same count (λ j. is_mapped (pages_wire w.mappings (Labels.name w n)) (q + j)) (λ j. Labels.is_mapped w (Labels.name w n) (q + j))
          (λ j l. mapped_there w (Labels.name w n) (q + j) i.mapped) k),
      refusal.NotMapped,
    )
    ∷ (full_there w (Labels.name w n) (count + 1) i k, refusal.QueueFull)
    ∷ (lacks (wire w).next_cookie (needed_there w (Labels.name w n) i k), refusal.NumbersSpent)
    ∷ [])))

pub unmap_says :
    (w : World) (n q count : ℕ) → Invariant w → ((e : ℕ) → HasFront w.cookies (w.part e)) → w.config.endpoints ≤ 8
    → SaysAlike w (step.Unmap n q count)
unmap_says w n q count i f most =
    record {
      alike = unmap_alike w n q count i;
      result = λ k.
          let e : Labels.is_space w n ≡ true = not-false (Labels.is_space w n) k.0 in
          let num = space_number w n e in
          ap₂ (λ b fs. by_one (unmap_answer b fs) (Move.Unmap n q count 0)) (ap (waits (wire w)) (sym num) ∙ waits_there w (Labels.name w n) i f most)
          (ap (λ pages. frames_of pages q count) (pages_there w n e) ∙ frames_there w (Labels.name w n) q count i.mapped (not-false _ k.1.1.1.0))
          ∙ ap (λ m. by_one (unmap_answer (any_below w.config.endpoints (unmappings.waits w (Labels.name w n))) (frames_at w (Labels.name w n) q count))
          (Move.Unmap m q count 0)) (sym num);
    }

range_alike : (w : World) (n q order : ℕ) → Invariant w → IsAlike (causes_of (wire w) (step.UnmapRange n q order)) (refusals w (step.UnmapRange n q order))
range_alike w n q order i =
    in_space w n (unmap_range_causes (wire w) n (pages_in (wire w) n) q order) (unmap_range_refusals w (Labels.name w n) q order)
    (λ e. alike_same (unmap_range_causes (wire w) n (pages_in (wire w) n) q order) (unmap_range_refusals w (Labels.name w n) q order)
    (ap₂ (λ m pages. unmap_range_causes (wire w) m pages q order) (sym (space_number w n e)) (pages_there w n e)
    ∙ (λ k.
    (nat_lt 9 order, refusal.BadOrder)
    ∷ page_range q (2 ^ order)
    ∷ (not (q % 2 ^ order == 0), refusal.NotAligned)
    ∷ (
      not (any_same (2 ^ order) (λ j. is_mapped (pages_wire w.mappings (Labels.name w n)) (q + j))
          (λ j. Labels.is_mapped w (Labels.name w n) (q + j)) (λ j l. mapped_there w (Labels.name w n) (q + j) i.mapped) k),
      refusal.NothingMapped,
    )
    ∷ (full_there w (Labels.name w n) 2 i k, refusal.QueueFull)
    ∷ (lacks (wire w).next_cookie (needed_there w (Labels.name w n) i k), refusal.NumbersSpent)
    ∷ [])))

pub range_says :
    (w : World) (n q order : ℕ) → Invariant w → ((e : ℕ) → HasFront w.cookies (w.part e)) → w.config.endpoints ≤ 8
    → SaysAlike w (step.UnmapRange n q order)
range_says w n q order i f most =
    record {
      alike = range_alike w n q order i;
      result = λ k.
          let e : Labels.is_space w n ≡ true = not-false (Labels.is_space w n) k.0 in
          let num = space_number w n e in
          ap₂ (λ b c. by_one (unmap_range_answer b c) (Move.Unmap n q 1 order)) (ap (waits (wire w)) (sym num) ∙ waits_there w (Labels.name w n) i f most)
          (ap (λ pages. count_below (2 ^ order) (λ j. is_mapped pages (q + j))) (pages_there w n e)
          ∙ count_same (2 ^ order) (λ j. is_mapped (pages_wire w.mappings (Labels.name w n)) (q + j))
          (λ j. Labels.is_mapped w (Labels.name w n) (q + j)) (λ j l. mapped_there w (Labels.name w n) (q + j) i.mapped))
          ∙ ap (λ m. by_one
          (unmap_range_answer (any_below w.config.endpoints (unmappings.waits w (Labels.name w n))) (mapped_in w (Labels.name w n) q order))
          (Move.Unmap m q 1 order)) (sym num);
    }
