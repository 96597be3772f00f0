-- What is found at a space and a page is exactly the mapping that is present there; the latest mapping of a frame is exactly the
-- last that led to it.
use Rattle.std.proofs.Common.{◌≡◌, ◌≢◌, ◌⊎◌, inl, inr, ap, sym, subst, ◌∙◌, ℕ, ◌<◌, ◌≤◌, Bool, arith}
use Rattle.std.specs.Prelude.{Option, Some, List, [], ◌∷◌}
use Rattle.sva_step.specs.declared.limits.Config.{Config}
use Rattle.sva_step.specs.declared.steps.Step.{Step}
use Rattle.sva_model.specs.Words.{put}
use Rattle.sva_model.specs.State.{PasidRule, Mappings, World, opened}
use Rattle.sva_model.specs.Acts.{Act, act}
use Rattle.sva_model.specs.Acts.Act.{NewSpace, DropSpace, Map, Unmap, NewBinding, NewJob, Hold, LetGo, AtEndpoint}
use Rattle.sva_model.specs.Steps.{decide, next, run, after_acts, world_after}
use Rattle.sva_laws.specs.LabelLaws.{FindsMappings}
use Rattle.sva_labels.proofs.Words.{put-same, put-other, ℕ_cases}
use Rattle.sva_laws.proofs.Invariant.{Invariant}
use Rattle.sva_laws.proofs.Runs.{always}

-- each mapping is no later than the latest one of its frame
abbrev pub HasLatest : Mappings → Type 0
HasLatest ms = (k : ℕ) → k < ms.made → (z : ℕ) × (ms.latest (ms.frame k) ≡ Some z) × (k ≤ z)

mapped_latest : (w : World) (s q f : ℕ) (x : Bool) → HasLatest w.mappings → HasLatest (act w (Map s q f x)).mappings
mapped_latest w s q f x h k lt = go (ℕ_cases k made)
  where
    made : ℕ
    made = w.mappings.made

    now : ℕ → Option ℕ
    now = put w.mappings.latest f (Some made)

    here : (g : ℕ) → g ≡ f → now g ≡ Some made
    here g e = ap now e ∙ put-same w.mappings.latest f (Some made)

    by : (g : ℕ) → (z : ℕ) × (w.mappings.latest g ≡ Some z) × (k ≤ z) → (g ≡ f) ⊎ (g ≢ f) → (z : ℕ) × (now g ≡ Some z) × (k ≤ z)
    by g old (inl e) = (made, here g e, omega (arith, lt))
    by g old (inr ne) = (old.0, put-other w.mappings.latest f (Some made) g ne ∙ old.1, old.2)

    go : (k ≡ made) ⊎ (k ≢ made) → (z : ℕ) × (now (put w.mappings.frame made f k) ≡ Some z) × (k ≤ z)
    go (inl e) = (made, here (put w.mappings.frame made f k) (ap (put w.mappings.frame made f) e ∙ put-same w.mappings.frame made f), omega (arith, e))
    go (inr ne) =
        let g = w.mappings.frame k in
        subst (λ y. (z : ℕ) × (now y ≡ Some z) × (k ≤ z)) (sym (put-other w.mappings.frame made f k ne)) (by g (h k (omega (arith, lt, ne))) (ℕ_cases g f))

act_latest : (w : World) (a : Act) → HasLatest w.mappings → HasLatest (act w a).mappings
act_latest w NewSpace h = h
act_latest w (DropSpace s) h = h
act_latest w (Map s q f x) h = mapped_latest w s q f x h
act_latest w (Unmap s q count order) h = h
act_latest w (NewBinding e) h = h
act_latest w (NewJob e g) h = h
act_latest w (Hold x j) h = h
act_latest w (LetGo x) h = h
act_latest w (AtEndpoint e o) h = h

acts_latest : (acts : List Act) (w : World) → HasLatest w.mappings → HasLatest (after_acts w acts).mappings
acts_latest [] w h = h
acts_latest (a ∷ acts) w h = acts_latest acts (act w a) (act_latest w a h)

run_latest : (ss : List Step) (w : World) → HasLatest w.mappings → HasLatest (run w ss).mappings
run_latest [] w h = h
run_latest (s ∷ ss) w h = run_latest ss (next w s) (acts_latest (decide w s).acts w h)

some_is : (j k : ℕ) → Some j ≡ Some k → j ≡ k
some_is j k h = cc

finds : (w : World) → Invariant w → HasLatest w.mappings → FindsMappings w.mappings
finds w i h =
    record {
      at = λ s q m. (
        (λ e. let x = i.mapped.at_present s q m e in (x.0, x.1, x.2)),
        (λ x. sym (ap (λ z. w.mappings.at z q) x.1) ∙ ap (λ z. w.mappings.at (w.mappings.space m) z) (sym x.2) ∙ i.mapped.present_at m x.0),
      );
      latest = λ f m. (
        (λ e. let x = i.mapped.named f m e in (x.1, x.0, λ k lt g. last f m k e g (h k lt))),
        (λ x. whole f m x.1 x.2 (h m x.0)),
      );
    }
  where
    last : (f m k : ℕ) → w.mappings.latest f ≡ Some m → w.mappings.frame k ≡ f → (z : ℕ) × (w.mappings.latest (w.mappings.frame k) ≡ Some z) × (k ≤ z) → k ≤ m
    last f m k e g x = subst (λ y. k ≤ y) (some_is x.0 m (sym x.1 ∙ ap w.mappings.latest g ∙ e)) x.2

    whole : (f m : ℕ) → w.mappings.frame m ≡ f → ((k : ℕ) → k < w.mappings.made → w.mappings.frame k ≡ f → k ≤ m) → (z : ℕ)
        × (w.mappings.latest (w.mappings.frame m) ≡ Some z) × (m ≤ z) → w.mappings.latest f ≡ Some m
    whole f m g most x =
        let there : w.mappings.latest f ≡ Some x.0 = sym (ap w.mappings.latest g) ∙ x.1 in
        let n = i.mapped.named f x.0 there in
        let le : x.0 ≤ m = most x.0 n.1 n.0 in
        let same : x.0 ≡ m = omega (arith, le, x.2) in
        there ∙ ap (λ z. Some z) same

pub always_finds : (rule : PasidRule) (config : Config) (steps : List Step) → FindsMappings (world_after rule config steps).mappings
always_finds rule config steps =
    finds (world_after rule config steps) (always rule config steps) (run_latest steps (opened rule config) (λ k lt. absurd (omega (arith, lt))))
