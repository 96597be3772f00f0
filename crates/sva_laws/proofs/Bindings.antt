-- A binding's life at its endpoint is a line: its Start in flight, on, told to stop, its Stop Marker in flight, over.
use Rattle.std.proofs.Common.{◌≡◌, ◌≢◌, ℕ, ◌<◌, Bool, true, false, arith}
use Rattle.std.specs.Prelude.{Some, not}
use Rattle.std.proofs.lemmas.Bool.Decides.{nat_tests}
use Rattle.sva_model.specs.State.{Mappings, Endpoint, Stage}
use Rattle.sva_model.specs.State.Stage.{Live, Stopping, Invalidating}
use Rattle.sva_model.specs.State.PasidState.{Off, On, Ending}
use Rattle.sva_model.specs.State.Subject.{StartOf, StopOf, MarkerOf}
use Rattle.sva_model.specs.Acts.{act_alone, LocalAct}
use Rattle.sva_laws.proofs.Legal.{LegalLocalAct}
use Rattle.sva_laws.proofs.Resets.{Resets}
use Rattle.sva_model.specs.States.{is_unreleased, is_before_invalidating}

-- Live, or Stopping with no marker noted
abbrev pub is_unmarked : Stage → Bool
is_unmarked Live = true
is_unmarked (Stopping m) = not m
is_unmarked _ = false

-- What one stage says.
pub unmarked_unreleased : (s : Stage) → is_unmarked s ≡ true → is_unreleased s ≡ true
unmarked_unreleased s h = grind arith

pub before_unreleased : (s : Stage) → is_before_invalidating s ≡ true → is_unreleased s ≡ true
before_unreleased s h = grind arith

pub unmarked_not_invalidating : (s : Stage) (k w : ℕ) → is_unmarked s ≡ true → s ≢ Invalidating k w
unmarked_not_invalidating s k w h e = grind arith

pub record Bindings (p : Endpoint) : Type 0 where
  pub start_once : (c d b : ℕ) → p.message c ≡ Some (StartOf b) → p.message d ≡ Some (StartOf b) → c ≡ d
  pub start_off : (c b : ℕ) → p.message c ≡ Some (StartOf b) → p.pasid_state b ≡ Off
  pub start_stage : (c b : ℕ) → p.message c ≡ Some (StartOf b) → is_unmarked (p.stage b) ≡ true
  pub on_stage : (b : ℕ) → p.pasid_state b ≡ On → is_unmarked (p.stage b) ≡ true
  pub stop_once : (c d b : ℕ) → p.message c ≡ Some (StopOf b) → p.message d ≡ Some (StopOf b) → c ≡ d
  pub stop_stage : (c b : ℕ) → p.message c ≡ Some (StopOf b) → p.stage b ≡ Stopping false
  pub stop_early : (c b : ℕ) → p.message c ≡ Some (StopOf b) → p.pasid_state b ≢ Ending
  pub stop_order : (c d b : ℕ) → p.message c ≡ Some (StopOf b) → p.message d ≡ Some (StartOf b) → d < c
  pub ending_stage : (b : ℕ) → p.pasid_state b ≡ Ending → p.stage b ≡ Stopping false
  pub marker_once : (c d b : ℕ) → p.message c ≡ Some (MarkerOf b) → p.message d ≡ Some (MarkerOf b) → c ≡ d
  pub marker_stage : (c b : ℕ) → p.message c ≡ Some (MarkerOf b) → p.stage b ≡ Stopping false
  pub marker_off : (c b : ℕ) → p.message c ≡ Some (MarkerOf b) → p.pasid_state b ≡ Off
  pub marker_start : (c d b : ℕ) → p.message c ≡ Some (MarkerOf b) → p.message d ≢ Some (StartOf b)
  pub marker_stop : (c d b : ℕ) → p.message c ≡ Some (MarkerOf b) → p.message d ≢ Some (StopOf b)

pub every : (ms : Mappings) (g n : ℕ) (p : Endpoint) (o : LocalAct) → LegalLocalAct ms g p o → Resets n p → Bindings p → Bindings (act_alone p n o)
every ms g n p o l re bi =
    record {
      start_once = λ c d b h i. grind (arith, nat_tests, bi.start_once c d b, bi.start_stage c b, bi.start_stage d b, re.unsent c, re.unsent d);
      start_off = λ c b h. grind (arith, nat_tests, bi.start_off c b, bi.start_stage c b, bi.start_once c, bi.on_stage b, bi.ending_stage b, re.unsent c);
      start_stage = λ c b h. grind (arith, nat_tests, bi.start_stage c b, bi.marker_start, re.older, re.up, re.unsent c);
      on_stage = λ b h. grind (arith, nat_tests, bi.on_stage b, bi.start_stage, bi.marker_off, re.off, re.up);
      stop_once = λ c d b h i. grind (arith, nat_tests, bi.stop_once c d b, bi.stop_stage c b, bi.stop_stage d b, re.unsent c, re.unsent d);
      stop_stage = λ c b h. grind (arith, nat_tests, bi.stop_stage c b, bi.marker_stop, re.older, re.up, re.unsent c);
      stop_early = λ c b h. grind (arith, nat_tests, bi.stop_early c b, bi.stop_stage c b, bi.stop_once c, bi.ending_stage b, re.unsent c);
      stop_order = λ c d b h i. grind (arith, nat_tests, bi.stop_order c d b, bi.stop_stage c b, re.unsent c, re.unsent d);
      ending_stage = λ b h. grind (arith, nat_tests, bi.ending_stage b, bi.stop_stage, bi.marker_off, re.off, re.up);
      marker_once = λ c d b h i. grind (arith, nat_tests, bi.marker_once c d b, bi.marker_off c b, bi.marker_off d b, re.unsent c, re.unsent d);
      marker_stage = λ c b h. grind (arith, nat_tests, bi.marker_stage c b, bi.marker_once c, bi.ending_stage b, re.older, re.up, re.unsent c);
      marker_off = λ c b h. grind (arith, nat_tests, bi.marker_off c b, bi.marker_start c, bi.marker_stop c, re.unsent c);
      marker_start = λ c d b h i. grind (arith, nat_tests, bi.marker_start c d b, bi.marker_stage c b, bi.start_off d b, re.unsent c, re.unsent d);
      marker_stop = λ c d b h i. grind (arith, nat_tests, bi.marker_stop c d b, bi.marker_stage c b, bi.stop_early d b, re.unsent c, re.unsent d);
    }
