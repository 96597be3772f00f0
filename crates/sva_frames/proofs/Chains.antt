use Rattle.std.proofs.Common.{◌≡◌, ◌≢◌, ℕ, List, Option, Some, None, set, slice_get, sym, ap, subst, ◌∙◌, ⊎_elim, zero, suc}
use Rattle.std.proofs.lemmas.Bool.{cases_eq}
use Rattle.std.proofs.lemmas.List.{set_comm}
use Rattle.std.proofs.lemmas.Option.{same_Some, slice_get_within}
use Rattle.sva_frames.specs.declared.waits.Target.{Target}
use Rattle.sva_frames.specs.declared.lane.Cell.{Cell}
use Rattle.sva_frames.specs.Chains.{Chain, NoneWaits, unlinked}
use Rattle.sva_frames.proofs.Pools.{slice_get-set_same, slice_get-set_other}

-- a change of a cell that is in no chain of a target, and is in none after it
pub none_waits-set :
    (t : Target) (cells : List Cell) (n : ℕ) (old new : Cell) → slice_get cells n ≡ Some old → new.target ≢ Some t → NoneWaits t cells →
    NoneWaits t (set cells n new)
none_waits-set t cells n old new here other none m cell there =
    ⊎_elim
    (λ (same : m ≡ n). λ is. other
    (ap (λ (x : Cell). x.target)
    (same_Some new cell (sym (slice_get-set_same cells n new (slice_get_within cells n old here)) ∙ ap (slice_get (set cells n new)) (sym same)
    ∙ there)) ∙ is))
    (λ (apart : m ≢ n). none m cell (sym (slice_get-set_other cells n m new apart) ∙ there))
    (cases_eq m n)

pub chain-set :
    (t : Target) (k : ℕ) (cells : List Cell) (first : Option ℕ) (n : ℕ) (old new : Cell) → slice_get cells n ≡ Some old → old.target ≢ Some t →
    new.target ≢ Some t → Chain t k cells first → Chain t k (set cells n new) first
chain-set t zero cells None n old new here was is chain = none_waits-set t cells n old new here is chain
chain-set t zero cells (Some m) n old new here was is chain = absurd chain
chain-set t (suc k) cells None n old new here was is chain = absurd chain
chain-set t (suc k) cells (Some m) n old new here was is chain =
    let apart : m ≢ n = λ same. was (ap (λ (x : Cell). x.target) (same_Some old chain.0 (sym here ∙ ap (slice_get cells) (sym same) ∙ chain.1))
    ∙ chain.2) in (
      chain.0,
      slice_get-set_other cells n m new apart ∙ chain.1,
      chain.2,
      subst (λ cs. Chain t k cs chain.0.next) (set_comm cells m n unlinked new apart)
          (chain-set t k (set cells m unlinked) chain.0.next n old new (slice_get-set_other cells m n unlinked (λ same. apart (sym same)) ∙ here) was
          is chain.3),
    )
