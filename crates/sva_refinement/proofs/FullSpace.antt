-- The world of a full space is reached: by a Space, and a map of each page.
use Rattle.std.proofs.Common.{◌≡◌, ℕ, zero, suc, ◌+◌, ◌<◌, ◌≤◌, ◌^◌, ◌⊎◌, inl, inr, refl, ap, ◌∙◌, arith, Bool, true, false}
use Rattle.std.specs.Prelude.{Option, Some, None, [], ◌∷◌, if◌then◌else◌, ◌&&◌, nat_lt, nat_le, not, ◌==◌}
use Rattle.std.proofs.lemmas.Bool.Decides.{nat_tests}
use Rattle.sva_step.specs.declared.refusals.Refusal.{Refusal}
use Rattle.sva_step.specs.declared.refusals.Refusal.TheVariants as refusal
use Rattle.sva_step.specs.declared.steps.Step.TheVariants as step
use Rattle.sva_model.specs.State.PasidRule.{PerSpace}
use Rattle.sva_model.specs.Words.{put, lowest, count_below}
use Rattle.sva_model.specs.State.{MappingState, opened}
use Rattle.sva_model.specs.State.MappingState.{Unmade, Present}
use Rattle.sva_model.specs.States.{is_free}
use Rattle.sva_model.specs.Acts.{Act, act}
use Rattle.sva_model.specs.Labels
use Rattle.sva_model.specs.Outcomes.{Outcome, outcome}
use Rattle.sva_model.specs.Steps.{checked, decide, next, run, after_acts}
use Rattle.sva_labels.proofs.Words.{lowest_below}
use Rattle.sva_labels.proofs.Counting.{count_most}
use Rattle.sva_labels.proofs.Steps.{run_append}
use Rattle.sva_model.specs.Runs.{config}
use Rattle.sva_refinement.specs.RunsOfFullSpaces.{mapped_space, maps_of, FullSpaceReached}

lowest_is : (n k : ℕ) (p : ℕ → Bool) → k < n → ((j : ℕ) → j < k → p j ≡ false) → p k ≡ true → lowest n p ≡ k
lowest_is n k p l f t = go (lowest n p) (lowest_below n p k l t)
  where
    go : (z : ℕ) → (z < n) × (p z ≡ true) × ((i : ℕ) → i < z → p i ≡ false) → z ≡ k
    go z x = elim (three z k) [ inl e ↦ e | inr (inl lt) ↦ absurd (let a = f z lt in let b = x.1 in cc) | inr (inr gt) ↦ absurd (let a = x.2 k gt in cc) ]
      where
        three : (z k : ℕ) → (z ≡ k) ⊎ (z < k) ⊎ (k < z)
        three z k = grind arith

-- where no cause holds, the acts are those of the outcome
unrefused : (a b c d e : Bool) (r s t u v : Refusal) (o : Outcome) → a ≡ false → b ≡ false → c ≡ false → d ≡ false → e ≡ false
    → (checked ((a, r) ∷ (b, s) ∷ (c, t) ∷ (d, u) ∷ (e, v) ∷ []) o).acts ≡ o.acts
unrefused false false false false false r s t u v o ha hb hc hd he = refl
unrefused a b c d e r s t u v o ha hb hc hd he = grind arith

named_by : (first : ℕ) → Labels.name (mapped_space 0 1 first) first ≡ 0
named_by first = omega arith

is_there : (first z : ℕ) → z ≡ 0 → not ((nat_le first first && nat_lt z 1) && (z == 0)) ≡ false
is_there first z e = grind (arith, nat_tests)

in_page_range : (n : ℕ) → n < 1024 → nat_lt (2 ^ 36) (n + 1) ≡ false
in_page_range n l = grind (arith, nat_tests)

is_unmapped : (n frames first z : ℕ) → Labels.is_mapped (mapped_space n frames first) z n ≡ false
is_unmapped n frames first z = grind (arith, nat_tests)

has_room : (k n : ℕ) → k ≤ n → n < 1024 → nat_le 1024 k ≡ false
has_room k n l m = grind (arith, nat_tests)

free_from : (n frames first f : ℕ) → n ≤ f → is_free (mapped_space n frames first) f ≡ true
free_from n frames first f l = grind (arith, nat_tests)

mapped_below : (n frames first f : ℕ) → f < n → is_free (mapped_space n frames first) f ≡ false
mapped_below n frames first f l = grind (arith, nat_tests)

lowest_free : (n frames first : ℕ) → n < frames → Labels.lowest_frame (mapped_space n frames first) ≡ n
lowest_free n frames first l =
    lowest_is frames n (is_free (mapped_space n frames first)) l (λ j lt. mapped_below n frames first j lt) (free_from n frames first n (omega arith))

has_frame : (z n frames : ℕ) → z ≡ n → n < frames → (z == frames) ≡ false
has_frame z n frames e l = grind (arith, nat_tests)

space_column : (n m : ℕ) → put {A = ℕ} (λ k. 0) n 0 m ≡ zero
space_column n m = grind (arith, nat_tests)

page_column : (n m : ℕ) → put (λ k. if nat_lt k n then k else 0) n n m ≡ (if nat_lt m (suc n) then m else 0)
page_column n m = grind (arith, nat_tests)

write_column : (n m : ℕ) → put (λ (k : ℕ). false) n false m ≡ false
write_column n m = grind (arith, nat_tests)

state_column : (n m : ℕ) → put (λ k. if nat_lt k n then Present else Unmade) n Present m ≡ (if nat_lt m (suc n) then Present else Unmade)
state_column n m = grind (arith, nat_tests)

latest_column : (n f : ℕ) → put (λ k. if nat_lt k n then Some k else None) n (Some n) f ≡ (if nat_lt f (suc n) then Some f else None)
latest_column n f = grind (arith, nat_tests)

abbrev pages_at : (pages space page : ℕ) → Option ℕ
pages_at n s q = if s == 0 && nat_lt q n then Some q else None

at_column : (n s q : ℕ) → put (pages_at n) 0 (put (pages_at n 0) n (Some n)) s q ≡ pages_at (suc n) s q
at_column n s q = grind (arith, nat_tests)

mapped : (n frames first : ℕ) → act (mapped_space n frames first) (Act.Map 0 n n false) ≡ mapped_space (suc n) frames first
mapped n frames first =
    ap (λ ms. record (opened PerSpace (config 1 frames 1 first)) { spaces = 1; is_live = λ s. s == 0; mappings = ms }) columns
  where
    columns : (act (mapped_space n frames first) (Act.Map 0 n n false)).mappings ≡ (mapped_space (suc n) frames first).mappings
    columns =
        λ i.
        record {
          made = suc n;
          space = λ m. space_column n m i;
          page = λ m. page_column n m i;
          frame = λ m. page_column n m i;
          write = λ m. write_column n m i;
          state = λ m. state_column n m i;
          at = λ s q. at_column n s q i;
          latest = λ f. latest_column n f i;
        }

map_next : (n frames first : ℕ) → n < 1024 → n < frames → next (mapped_space n frames first) (step.Map first n false) ≡ mapped_space (suc n) frames first
map_next n frames first l f =
    let w = mapped_space n frames first in
    let z : Labels.name w first ≡ 0 = named_by first in
    let k : Labels.lowest_frame w ≡ n = lowest_free n frames first f in
    let acts : (decide w (step.Map first n false)).acts ≡ Act.Map (Labels.name w first) n (Labels.lowest_frame w) false ∷ [] =
    unrefused _ _ _ _ _ _ _ _ _ _ _ (is_there first (Labels.name w first) z) (in_page_range n l) (is_unmapped n frames first (Labels.name w first))
    (has_room (Labels.pages_of w (Labels.name w first)) n (count_most n _) l) (has_frame (Labels.lowest_frame w) n frames k f) in
    ap (after_acts w) acts ∙ ap (λ s. act w (Act.Map s n (Labels.lowest_frame w) false)) z ∙ ap (λ x. act w (Act.Map 0 n x false)) k ∙ mapped n frames first

maps_run : (n frames first : ℕ) → n ≤ 1024 → n ≤ frames → run (mapped_space 0 frames first) (maps_of n first) ≡ mapped_space n frames first
unfolding maps_of
maps_run zero frames first l f = refl
maps_run (suc n) frames first l f =
    run_append (maps_of n first) (step.Map first n false ∷ []) (mapped_space 0 frames first)
    ∙ ap (λ w. next w (step.Map first n false)) (maps_run n frames first (omega arith) (omega arith))
    ∙ map_next n frames first (omega arith) (omega arith)

live_column : (s : ℕ) → put (λ (k : ℕ). false) 0 true s ≡ (s == 0)
live_column s = grind (arith, nat_tests)

none_column : (s q : ℕ) → None ≡ pages_at 0 s q
none_column s q = grind (arith, nat_tests)

enough : (first : ℕ) → first < 2 ^ 63 → nat_lt (2 ^ 63) (first + 0 + 1) ≡ false
enough first l = grind (arith, nat_tests)

first_unrefused : (b : Bool) (r s : Refusal) (o : Outcome) → b ≡ false → (checked ((false, r) ∷ (b, s) ∷ []) o).acts ≡ o.acts
first_unrefused false r s o h = refl
first_unrefused true r s o h = absurd (cc)

no_state : (m : ℕ) → MappingState.Unmade ≡ (if nat_lt m 0 then Present else Unmade)
no_state m = grind (arith, nat_tests)

no_page : (m : ℕ) → zero ≡ (if nat_lt m 0 then m else 0)
no_page m = grind (arith, nat_tests)

no_latest : (f : ℕ) → None ≡ (if nat_lt f 0 then Some f else None)
no_latest f = grind (arith, nat_tests)

made : (frames first : ℕ) → act (opened PerSpace (config 1 frames 1 first)) Act.NewSpace ≡ mapped_space 0 frames first
made frames first =
    λ i.
    record (opened PerSpace (config 1 frames 1 first)) {
      spaces = 1;
      is_live = λ s. live_column s i;
      mappings =
          record {
            made = 0;
            space = λ m. 0;
            page = λ m. no_page m i;
            frame = λ m. no_page m i;
            write = λ m. false;
            state = λ m. no_state m i;
            at = λ s q. none_column s q i;
            latest = λ f. no_latest f i;
          };
    }

space_next : (frames first : ℕ) → first < 2 ^ 63 → next (opened PerSpace (config 1 frames 1 first)) step.Space ≡ mapped_space 0 frames first
unfolding count_below
space_next frames first l =
    let acts : (decide (opened PerSpace (config 1 frames 1 first)) step.Space).acts ≡ Act.NewSpace ∷ [] =
    first_unrefused _ refusal.TooManySpaces refusal.NumbersSpent (outcome (opened PerSpace (config 1 frames 1 first)) step.Space) (enough first l) in
    ap (after_acts (opened PerSpace (config 1 frames 1 first))) acts ∙ made frames first

pub reached : FullSpaceReached
reached frames first f l =
    ap (λ w. run w (maps_of 1024 first)) (space_next frames first l) ∙ maps_run 1024 frames first (omega arith) f
