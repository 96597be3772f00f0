-- The steps serve and take by labels: they refuse what the steps by names refuse, and answer and move what these do.
use Rattle.std.proofs.Common.{◌≡◌, refl, ap, ap₂, sym, ◌∙◌, ℕ, ◌<◌, Bool, true, false}
use Rattle.std.specs.Prelude as prelude
use Rattle.std.specs.Prelude.{Option, Some, None, option_map, not, ◌==◌, nat_lt, List, [], ◌∷◌, ◌++◌, map, length}
use Rattle.std.proofs.lemmas.List.{length-map}
use Rattle.std.proofs.lemmas.Bool.{not-false, not-true}
use Rattle.sva_step.specs.declared.answers.Answer.TheVariants as answer
use Rattle.sva_step.specs.declared.refusals.Refusal.TheVariants as refusal
use Rattle.sva_step.specs.declared.steps.Step.TheVariants as step
use Rattle.sva_model.specs.Words.{is_some, lowest, any_below}
use Rattle.sva_model.specs.State.{World}
use Rattle.sva_model.specs.State.PageRequestState.{Arrived}
use Rattle.sva_model.specs.State.Phase.{Open}
use Rattle.sva_model.specs.Acts.{Act, LocalAct, act, act_alone}
use Rattle.sva_model.specs.Refusals as names
use Rattle.sva_model.specs.Refusals.{Cause, refusals}
use Rattle.sva_model.specs.Outcomes.{file_outcome, serve_outcome, take_outcome}
use Rattle.sva_model.specs.Labels
use Rattle.sva_model.specs.Wire.{JobWire, number, ask_wire, page_request_wire, page_queue_wire, part_wire, group_job, job_wire, binding_wire, wire}
use Rattle.sva_labels.proofs.Words.{put-same, lowest_below, any_below-true}
use Rattle.sva_laws.proofs.Invariant.{Invariant}
use Rattle.sva_laws.proofs.OnTheWay.{OnTheWay}
use Rattle.sva_laws.proofs.Passed.{opened_is}
use Rattle.sva_laws.proofs.Bindings.{before_unreleased}
use Rattle.sva_laws.proofs.PageRequests.{arrived_is}
use Rattle.sva_labels.proofs.Tests.{is_less}
use Rattle.sva_labels.proofs.Lists.{tabulate_at, tabulate_length}
use Rattle.sva_labels.specs.Finding.{bearer, held_by}
use Rattle.sva_labels.specs.Moves.{Move}
use Rattle.sva_labels.specs.Causes.{resetting, no_such_worker}
use Rattle.sva_labels.specs.Outcomes.{says, binding_or_0, job_of, file_result, serve_result, take_result}
use Rattle.sva_refinement.proofs.Alike.{IsAlike, alike_same, alike_more, SaysAlike, result_by}
use Rattle.sva_refinement.proofs.EndpointViews.{part_seen}
use Rattle.sva_refinement.proofs.HostGroupsFiled.{Filings}
use Rattle.sva_refinement.proofs.LookedBindings.{bearer_is}
use Rattle.sva_refinement.proofs.LookedFilings.{asks_then}
use Rattle.sva_refinement.proofs.LookedLists.{length_seen}
use Rattle.sva_refinement.proofs.Lookups.{seen_some}
use Rattle.sva_refinement.proofs.SaysBindings.{reset_cause}
use Rattle.sva_refinement.proofs.SaysUnits.{at_endpoint, none_picked, some_picked, count_is_none}

-- Serve.

-- the binding under which a page request that has arrived is filed
asker_there :
    (w : World) (e r : ℕ) → Invariant w → (w.part e).page_request r ≡ Arrived
    → binding_or_0 (bearer (wire w) e ((w.part e).pasid ((w.part e).asker ((w.part e).group_of r))))
    ≡ number w.config.first ((w.part e).asker ((w.part e).group_of r))
asker_there w e r i h =
    let b = (w.part e).asker ((w.part e).group_of r) in
    ap binding_or_0 (bearer_is w e ((w.part e).pasid b) i)
    ∙ ap (λ o. binding_or_0 (option_map (binding_wire w.config.first e (w.part e)) o))
    ((i.parts e).labels.bears_pasid b (before_unreleased ((w.part e).stage b) ((i.parts e).groups.arrived_stage r h)))

-- the job that the last request of a group makes
job_there :
    (w : World) (e r : ℕ) → Invariant w → OnTheWay (w.part e) → Filings (w.part e) → (w.part e).phase ≡ Open
    → (w.part e).page_request r ≡ Arrived
    → job_of (part_wire w.config.first w.mappings (w.part e)) e (number w.config.first ((w.part e).asker ((w.part e).group_of r)))
    (page_request_wire (w.part e) r) ≡ group_job w.config.first e ((act w (Act.AtEndpoint e (LocalAct.File r))).part e) ((w.part e).group_of r)
job_there w e r i on fi ph h =
    (λ k.
    record {
      endpoint = e;
      binding = number w.config.first (sym (put-same (w.part e).filed_under ((w.part e).group_of r) ((w.part e).asker ((w.part e).group_of r))) k);
      index = (w.part e).index ((w.part e).group_of r);
      asks = asks_then w.mappings w.config.endpoints w.bindings w.messages e w.config.first (w.part e) r (i.parts e) on fi ph h k;
    })
    ∙ ap (λ p. group_job w.config.first e p ((w.part e).group_of r)) (sym (put-same w.part e (act_alone (w.part e) w.messages (LocalAct.File r))))

filed_by :
    (w : World) (e r : ℕ) → Invariant w → OnTheWay (w.part e) → Filings (w.part e) → (w.part e).phase ≡ Open
    → (w.part e).page_request r ≡ Arrived → (l : Bool)
    → file_result (part_wire w.config.first w.mappings (w.part e)) e (number w.config.first ((w.part e).asker ((w.part e).group_of r)))
    (page_request_wire (w.part e) r) l ≡ result_by w (file_outcome e r ((w.part e).group_of r) l)
filed_by w e r i on fi ph h true =
    ap (λ j. says answer.Job
    (Move.File e (number w.config.first ((w.part e).asker ((w.part e).group_of r))) (page_request_wire (w.part e) r) ∷ Move.NewJob j ∷ []))
    (job_there w e r i on fi ph h)
filed_by w e r i on fi ph h false = refl

served_by :
    (w : World) (e : ℕ) → Invariant w → OnTheWay (w.part e) → Filings (w.part e) → (w.part e).phase ≡ Open → (b : Bool)
    → Labels.is_page_queue_empty (w.part e) ≡ b
    → serve_result (wire w) (part_wire w.config.first w.mappings (w.part e)) e (page_queue_wire (w.part e)) ≡ result_by w (serve_outcome (w.part e) e b)
served_by w e i on fi ph true h =
    ap (serve_result (wire w) (part_wire w.config.first w.mappings (w.part e)) e)
    (none_picked (λ k. page_request_wire (w.part e) ((w.part e).arrival k)) (w.part e).arrivals (Labels.is_waiting (w.part e))
    (not-true (any_below (w.part e).arrivals (Labels.is_waiting (w.part e))) h))
served_by w e i on fi ph false h =
    let some = not-false (any_below (w.part e).arrivals (Labels.is_waiting (w.part e))) h in
    let x = any_below-true (w.part e).arrivals (Labels.is_waiting (w.part e)) some in
    let low = lowest_below (w.part e).arrivals (Labels.is_waiting (w.part e)) x.0 x.1 x.2 in
    let arrived = arrived_is ((w.part e).page_request (Labels.oldest_arrived (w.part e))) low.1 in
    let r = Labels.oldest_arrived (w.part e) in
    ap (serve_result (wire w) (part_wire w.config.first w.mappings (w.part e)) e)
    (some_picked (λ k. page_request_wire (w.part e) ((w.part e).arrival k)) (w.part e).arrivals (Labels.is_waiting (w.part e)) some).1
    ∙ ap (λ b. file_result (part_wire w.config.first w.mappings (w.part e)) e b (page_request_wire (w.part e) r) ((w.part e).is_last r))
    (asker_there w e r i arrived)
    ∙ filed_by w e r i on fi ph arrived ((w.part e).is_last r)

pub serve_says : (w : World) (e : ℕ) → Invariant w → OnTheWay (w.part e) → Filings (w.part e) → SaysAlike w (step.Serve e)
serve_says w e i on fi =
    record {
      alike = at_endpoint w e (resetting (wire w) e ∷ []) (names.resetting w e ∷ [])
          (λ l. alike_same (resetting (wire w) e ∷ []) (names.resetting w e ∷ []) (ap (λ c. c ∷ []) (reset_cause w e l)));
      result = λ k.
          let l = is_less e w.config.endpoints k.0 in
          ap (λ p. serve_result (wire w) p e p.page_queue) (part_seen w e l)
          ∙ served_by w e i on fi (opened_is (w.part e) k.1.0) (Labels.is_page_queue_empty (w.part e)) refl;
    }

-- Take.

pub workers_there : (w : World) → length (wire w).hands ≡ w.config.workers
workers_there w = tabulate_length w.config.workers (λ x. option_map (job_wire w) (w.hand x))

pub held_there : (w : World) (x : ℕ) → x < w.config.workers → held_by (wire w) x ≡ option_map (job_wire w) (w.hand x)
held_there w x l = tabulate_at w.config.workers (λ y. option_map (job_wire w) (w.hand y)) x None l

-- a worker that isn't there is refused first
pub at_worker :
    (w : World) (x : ℕ) (cs ds : List Cause) → (x < w.config.workers → IsAlike cs ds)
    → IsAlike (no_such_worker (wire w) x ∷ cs) (names.no_such_worker w x ∷ ds)
at_worker w x cs ds h =
    let same : no_such_worker (wire w) x ≡ names.no_such_worker w x = ap (λ n. (not (nat_lt x n), refusal.NoSuchWorker)) (workers_there w) in
    alike_more (no_such_worker (wire w) x) (names.no_such_worker w x) cs ds same
    (λ k. h (is_less x w.config.workers (sym (ap (λ c. c.0) same) ∙ k)))

taken_by : (w : World) (x j : ℕ) (rest : List JobWire) → take_result x (job_wire w j ∷ rest) ≡ result_by w (take_outcome w x j)
taken_by w x j rest =
    ap₂ (λ n z. says
    (answer.JobTaken (number w.config.first ((w.part (w.job j).endpoint).filed_under (w.job j).group))
    ((w.part (w.job j).endpoint).index (w.job j).group) n) (Move.Hand ∷ Move.Hold x z ∷ []))
    (length-map (Labels.asks (w.part (w.job j).endpoint) (w.job j).group) (ask_wire (w.part (w.job j).endpoint)))
    (ap (λ p. group_job w.config.first (w.job j).endpoint p (w.job j).group)
    (sym (put-same w.part (w.job j).endpoint (act_alone (w.part (w.job j).endpoint) w.messages (LocalAct.Hand (w.job j).group x)))))

pub take_says : (w : World) (x : ℕ) → SaysAlike w (step.Take x)
take_says w x =
    record {
      alike =
          at_worker w x ((prelude.is_some (held_by (wire w) x), refusal.HandsFull) ∷ (length (wire w).jobs == 0, refusal.NoJob) ∷ [])
          ((is_some (w.hand x), refusal.HandsFull) ∷ (not (any_below w.jobs (Labels.is_queued_job w)), refusal.NoJob) ∷ [])
          (λ l. alike_same ((prelude.is_some (held_by (wire w) x), refusal.HandsFull) ∷ (length (wire w).jobs == 0, refusal.NoJob) ∷ [])
          ((is_some (w.hand x), refusal.HandsFull) ∷ (not (any_below w.jobs (Labels.is_queued_job w)), refusal.NoJob) ∷ [])
          (λ k. (
            (ap prelude.is_some (held_there w x l)
                ∙ seen_some (job_wire w) (w.hand x)) k,
            refusal.HandsFull,
          ) ∷ (
            (ap (λ n. n == 0) (length_seen (job_wire w) w.jobs (Labels.is_queued_job w))
                ∙ count_is_none w.jobs (Labels.is_queued_job w)) k,
            refusal.NoJob,
          ) ∷ []));
      result = λ k.
          let some = some_picked (job_wire w) w.jobs (Labels.is_queued_job w) (not-false (any_below w.jobs (Labels.is_queued_job w)) k.1.1.0) in
          ap (take_result x) some.1 ∙ taken_by w x (lowest w.jobs (Labels.is_queued_job w)) some.0;
    }
