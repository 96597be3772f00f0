-- The stages of bindings, each in its place.
use Rattle.std.proofs.Common.{◌≡◌, refl, sym, subst, ℕ, Bool, true, false}
use Rattle.std.specs.Prelude.{cond, ◌==◌, not, Option, Some, None, option_map, IsSome, List, [], ◌∷◌, ◌++◌, slice_index_or}
use Rattle.std.proofs.lemmas.List.Elements.{All-nil, All-push, All-map, All-filter}
use Rattle.sva_pasid.specs.Stages.{reset_of}
use Rattle.sva_pasid.specs.Places.{is_of, with_stage, without, begun, reset_at, after_reset}
use Rattle.sva_pasid.specs.declared.places.TableEntry.{TableEntry}
use Rattle.sva_pasid.specs.declared.stages.Stage.{Stage}
use Rattle.sva_host_state.specs.Inner.{AreStaged}

abbrev IsStaged : TableEntry → Type 0
IsStaged place = IsSome place.stage

pub none_staged : (places : List TableEntry) → places ≡ [] → AreStaged places
none_staged places is = subst AreStaged (sym is) (All-nil IsStaged)

pub begun_staged : (places after : List TableEntry) (e n b t : ℕ) → after ≡ places ++ begun e n b t ∷ [] → AreStaged places → AreStaged after
begun_staged places after e n b t is staged = subst AreStaged (sym is) (All-push IsStaged places (begun e n b t) staged refl)

pub left_staged : (places : List TableEntry) (b : ℕ) → AreStaged places → AreStaged (without b places)
left_staged places b staged = All-filter (λ (place : TableEntry). not (is_of b place)) IsStaged places staged

-- a stage that is put into its place, whatever stood there
pub put_staged : (places : List TableEntry) (b : ℕ) (stage : Stage) → AreStaged places → AreStaged (with_stage b (Some stage) places)
put_staged places b stage staged =
    All-map IsStaged (λ (place : TableEntry). cond (is_of b place) (record place { stage = Some stage }) place) places
    (λ k d l. go (is_of b (slice_index_or places k d)) (slice_index_or places k d) (staged k d l))
  where
    go : (here : Bool) (place : TableEntry) → IsStaged place → IsStaged (cond here (record place { stage = Some stage }) place)
    go true place is = refl
    go false place is = is

-- what a reset of an endpoint leaves
pub reset_staged : (places : List TableEntry) (e : ℕ) → AreStaged places → AreStaged (after_reset e places)
reset_staged places e staged = All-map IsStaged (reset_at e) places
    (λ k d l. go ((slice_index_or places k d).endpoint == e) (slice_index_or places k d) (staged k d l))
  where
    kept : (stage : Option Stage) → IsSome stage → IsSome (option_map reset_of stage)
    kept None is = is
    kept (Some stage) is = refl

    go : (here : Bool) (place : TableEntry) → IsStaged place → IsStaged (cond here (record place { stage = option_map reset_of place.stage }) place)
    go true place is = kept place.stage is
    go false place is = is

-- a binding that began, and was taken back
pub back_staged : (places after left : List TableEntry) (e n b t : ℕ) → after ≡ places ++ begun e n b t ∷ [] → left ≡ without b after → AreStaged places
    → AreStaged left
back_staged places after left e n b t begins back staged = subst AreStaged (sym back) (left_staged after b (begun_staged places after e n b t begins staged))
