-- What a host keeps is as the calls of the parts need it.
use Rattle.std.proofs.Common.{◌∙◌, ◌≡◌, ap, sym, subst, ℕ, ◌+◌, ◌<◌, ◌≤◌, arith}
use Rattle.std.specs.Prelude.{slice_get, length, List}
use Rattle.sva_step.specs.declared.limits.Config.{Config}
use Rattle.sva_step.specs.declared.steps.Step.{Step}
use Rattle.sva_model.specs.State.{World}
use Rattle.sva_model.specs.State.PasidRule.{PerSpace}
use Rattle.sva_model.specs.Steps.{world_after}
use Rattle.sva_model.specs.Claims.{Fits}
use Rattle.sva_model.specs.Wire.{flight_wire, wire}
use Rattle.sva_laws.proofs.Withheld.{config_kept, rule_kept}
use Rattle.sva_laws.proofs.Runs.{always}
use Rattle.sva_laws.proofs.Invariant.{Invariant}
use Rattle.sva_laws.proofs.Fronts.{AllFronts, always_fronts}
use Rattle.sva_labels.proofs.Lists.{tabulate_length}
use Rattle.sva_labels.specs.Sound.{AreTables, IsSound}
use Rattle.sva_refinement.proofs.Bound.{binding_seen}
use Rattle.sva_refinement.proofs.EndpointViews.{endpoints_seen, device_seen, unit_seen}
use Rattle.sva_refinement.proofs.EndpointFaults.{outstanding_seen}
use Rattle.sva_refinement.proofs.SoundCache.{cache_rising}
use Rattle.sva_refinement.proofs.SoundTables.{cache_short}
use Rattle.sva_refinement.proofs.SoundLists.{seen_get, seen_rises}
use Rattle.sva_refinement.proofs.SoundNumbers.{HasNumbers, always_numbers}
use Rattle.sva_refinement.proofs.SoundQueues.{queue_short, ends_rise, end_within}
use Rattle.sva_laws.proofs.Places.{always_short, always_cached}
use Rattle.sva_laws.proofs.Debts.{AllDebts, always_debts}
use Rattle.sva_refinement.proofs.SoundWaits.{awaited_stands, invalidating_stands}
use Rattle.sva_laws.proofs.Carried.{always_carried}
use Rattle.sva_laws.proofs.Limits.{always_outstanding}
use Rattle.sva_laws.proofs.OnTheWay.{always_on_the_way}
use Rattle.sva_refinement.proofs.HostGroupsFiled.{always_filings}
use Rattle.sva_laws.proofs.Filed.{always_filed}
use Rattle.sva_refinement.proofs.SoundFlights.{flying_at, flight_near, flight_suited, waiting_found, filing_placed}
use Rattle.sva_refinement.proofs.SoundSizes.{always_sized}
use Rattle.sva_refinement.proofs.SoundJobs.{queued_job, held_job, open_at_home, closed_where_dropped, none_of_waiting}
use Rattle.sva_refinement.proofs.SoundPasids.{kept_at, pasid_low, pasids_shared, endpoint_low, one_each}

-- a number is in the order of its name
below_end : (first x n y : ℕ) → x < n → y ≡ first + x → y < first + n
below_end first x n y l e = omega (arith, l, e)

in_order : (first x y a b : ℕ) → x < y → a ≡ first + x → b ≡ first + y → a < b
in_order first x y a b l h i = omega (arith, l, h, i)

pub always_sound : (config : Config) (steps : List Step) → Fits config → IsSound (wire (world_after PerSpace config steps))
always_sound config steps fits =
    record {
      spaces_end = numbers.spaces_end;
      bindings_end = numbers.bindings_end;
      messages_end = numbers.messages_end;
      cookies_end = numbers.cookies_end;
      space_low = λ k s h. let x = seen_get _ _ _ k s h in below_end w.config.first x.of w.spaces s.number x.below (ap (λ z. z.number) x.seen);
      binding_low = λ k b h. let x =
          seen_get _ _ (binding_seen w) k b h in below_end w.config.first x.of w.bindings b.binding x.below (ap (λ z. z.binding) x.seen);
      message_low = λ k f h. let x =
          seen_get _ _ (flight_wire w) k f h in below_end w.config.first x.of w.messages f.number x.below (ap (λ z. z.number) x.seen);
      spaces_rise =
          λ j k s t l h i.
          let x = seen_get _ _ _ j s h in
          let y = seen_get _ _ _ k t i in
          in_order w.config.first x.of y.of s.number t.number (seen_rises _ _ _ j k s t l x y) (ap (λ z. z.number) x.seen) (ap (λ z. z.number) y.seen);
      bindings_rise =
          λ j k b d l h i.
          let x = seen_get _ _ (binding_seen w) j b h in
          let y = seen_get _ _ (binding_seen w) k d i in
          in_order w.config.first x.of y.of b.binding d.binding (seen_rises _ _ _ j k b d l x y) (ap (λ z. z.binding) x.seen) (ap (λ z. z.binding) y.seen);
      messages_rise =
          λ j k f g l h i.
          let x = seen_get _ _ (flight_wire w) j f h in
          let y = seen_get _ _ (flight_wire w) k g i in
          in_order w.config.first x.of y.of f.number g.number (seen_rises _ _ _ j k f g l x y) (ap (λ z. z.number) x.seen) (ap (λ z. z.number) y.seen);
      few_parts = subst (λ n. n ≤ 8) (sym (endpoints_seen w)) few_endpoints;
      few_hands = subst (λ n. n ≤ 4) (sym (tabulate_length w.config.workers _))
          (subst (λ c. c.workers ≤ 4) (sym (config_kept PerSpace config steps)) fits.most_workers);
      waits_given = λ e l. subst (λ u. u.waits_end ≤ (wire w).next_cookie) (sym (unit_seen w e (there e l)))
          (end_within w.config.first (w.part e).waits_end w.cookies (fronts e).given);
      front_low = λ e l. subst (λ u. u.front ≤ u.waits_end) (sym (unit_seen w e (there e l)))
          (ends_rise w.config.first (w.part e).front (w.part e).waits_end (fronts e).front_low);
      queue_fits = λ e l. subst (λ u. length u.queue ≤ 64) (sym (unit_seen w e (there e l)))
          (queue_short w.config.first (w.part e) (always_short PerSpace config steps e));
      pasid_low = λ k b h. pasid_low w invariant k b (kept_at w k b h);
      pasids_shared = λ j k b d h i. pasids_shared w invariant (rule_kept PerSpace config steps) j k b d (kept_at w j b h) (kept_at w k d i);
      endpoint_low = λ k b h. endpoint_low w invariant k b (kept_at w k b h);
      awaited_queued = λ e f c x l o h t. awaited_stands w fronts debts few_endpoints e f c x (there e l) o h t;
      invalidating_queued = λ k c b h st o d. invalidating_stands w invariant fronts k c b (kept_at w k b h) st o d;
      flight_endpoint = λ k f h. flight_near w invariant k f (flying_at w k f h);
      flight_suits = λ k f h. flight_suited w invariant (always_carried PerSpace config steps) (always_outstanding PerSpace config steps) k f
          (flying_at w k f h);
      waiting_borne = λ e k r l h. waiting_found w invariant e k r (there e l) h;
      filing_fits =
          λ e k r b l h f.
          filing_placed w invariant (always_on_the_way PerSpace config steps) (always_filings PerSpace config steps)
          (always_filed PerSpace config steps) (always_outstanding PerSpace config steps)
          e k r b (there e l) h f;
      filing_anew = λ e k r b l h f. none_of_waiting w invariant e k r b (there e l) h f;
      groups_at_home = λ k e b h ne. open_at_home w invariant (always_filings PerSpace config steps) k e b (kept_at w k b h) ne;
      jobs_queued =
          λ k job h.
          queued_job w invariant (always_filings PerSpace config steps) (always_filed PerSpace config steps) (always_sized PerSpace config steps) k job h;
      jobs_held =
          λ x job h.
          held_job w invariant (always_filings PerSpace config steps) (always_filed PerSpace config steps) (always_sized PerSpace config steps) x job h;
      dropped_closed = λ x job h r. closed_where_dropped w invariant (always_filings PerSpace config steps) x job h r;
      tables =
          λ e l.
          subst AreTables (sym (device_seen w e (there e l)))
          (record {
            pasids = tabulate_length 32 _;
            tags = tabulate_length 32 _;
            slots = tabulate_length 16 _;
            taken = tabulate_length 32 _;
            groups = tabulate_length 32 _;
          });
      busy_size = λ e l. ap (λ u. length u.busy) (unit_seen w e (there e l)) ∙ tabulate_length 32 _;
      few_outstanding = λ e l. subst (λ n. n ≤ 32) (sym (outstanding_seen w e invariant (there e l))) (always_outstanding PerSpace config steps e);
      cache_fits = λ e l. subst (λ d. length d.cache ≤ 64) (sym (device_seen w e (there e l)))
          (cache_short w.mappings (w.part e) (always_cached PerSpace config steps e));
      cache_rises =
          λ e j k x y l o h m.
          cache_rising w.mappings w.config.endpoints w.bindings w.messages e (w.part e) (invariant.parts e) j k x y o
          (sym (ap (λ d. slice_get d.cache j) (device_seen w e (there e l))) ∙ h)
          (sym (ap (λ d. slice_get d.cache k) (device_seen w e (there e l))) ∙ m);
      one_each = λ j k b d h i. one_each w invariant j k b d (kept_at w j b h) (kept_at w k d i);
    }
  where
    w : World
    w = world_after PerSpace config steps

    numbers : HasNumbers (world_after PerSpace config steps)
    numbers = always_numbers PerSpace config steps fits

    invariant : Invariant (world_after PerSpace config steps)
    invariant = always PerSpace config steps

    fronts : AllFronts (world_after PerSpace config steps)
    fronts = always_fronts PerSpace config steps

    debts : AllDebts (world_after PerSpace config steps)
    debts = always_debts PerSpace config steps

    there : (e : ℕ) → e < length (wire (world_after PerSpace config steps)).parts → e < (world_after PerSpace config steps).config.endpoints
    there e l = subst (λ n. e < n) (endpoints_seen (world_after PerSpace config steps)) l

    few_endpoints : w.config.endpoints ≤ 8
    few_endpoints = subst (λ c. c.endpoints ≤ 8) (sym (config_kept PerSpace config steps)) fits.most_endpoints
