-- What a host with its table of jobs keeps is sound: so is what the host alone keeps.
use Rattle.std.proofs.Common.{◌≡◌, refl, ap, sym, ◌∙◌, subst, ℕ, zero, suc, ◌<◌, ◌≤◌, arith}
use Rattle.std.specs.Prelude.{◌==◌, None, Some, Option, List, [], ◌∷◌, length, take, slice_index_or, slice_get}
use Rattle.std.specs.List.{find, list_any}
use Rattle.std.proofs.lemmas.List.{length-take}
use Rattle.sva_model.specs.Message.{Message}
use Rattle.sva_model.specs.Message.Message.{StartMessage, StopMessage, ResetMessage, CompletionMessage, InvalidateMessage, ResponseMessage, RequestMessage}
use Rattle.sva_model.specs.Message.Message.{InvalidatedMessage, PageRequestMessage, MarkerMessage, ResetDoneMessage}
use Rattle.sva_model.specs.Wire.{Wire, EndpointWire, DeviceWire, UnitWire, HostGroupWire, JobWire, PageRequestWire}
use Rattle.sva_labels.specs.Finding.{idle, part_of, device_of, unit_of, outstanding, is_wait_done, held_by}
use Rattle.sva_labels.specs.Moves.{is_begun}
use Rattle.sva_labels.specs.Outcomes.{asks_of}
use Rattle.sva_labels.specs.Sound.{IsSound, HasWait, AreTables, Suits, HasNoJob, is_job_of}
use Rattle.sva_prq.specs.JobTable.{no_jobs}
use Rattle.sva_host.specs.Seen.{JobTableWire, parts_with, job_table_seen, serving, with_job_table}
use Rattle.sva_host.specs.Inner.{wire_of, IsHost}
use Rattle.sva_host.specs.declared.host.Host.TheInside.{Inside}
use Rattle.sva_host.proofs.Parts.{length_with, device_with, unit_with, page_queue_with}

suits_alone : (job_table : JobTableWire) (w : Wire) (e : ℕ) (m : Message)
    → Suits (serving job_table w) e m → Suits w e m
suits_alone job_table w e (StartMessage t) suits = suits
suits_alone job_table w e (StopMessage t) suits = suits
suits_alone job_table w e ResetMessage suits = ap (λ (unit : UnitWire). unit.is_open) (sym (unit_with job_table.groups w.parts e)) ∙ suits
suits_alone job_table w e (CompletionMessage tag frame read write) suits = tt
suits_alone job_table w e (InvalidateMessage itag t scope) suits = suits
suits_alone job_table w e (ResponseMessage t k code) suits = suits
suits_alone job_table w e (RequestMessage tag t q) suits = λ is. suits (ap (λ (unit : UnitWire). unit.is_open) (unit_with job_table.groups w.parts e) ∙ is)
suits_alone job_table w e (InvalidatedMessage vector field) suits = suits
suits_alone job_table w e (PageRequestMessage t k q r x l) suits =
    λ is.
    let at = suits (ap (λ (unit : UnitWire). unit.is_open) (unit_with job_table.groups w.parts e) ∙ is) in
    (subst (λ (queue : List PageRequestWire). length queue < 32) (page_queue_with job_table.groups w.parts e) at.0, at.1)
suits_alone job_table w e (MarkerMessage t) suits =
    λ is.
    let at = suits (ap (λ (unit : UnitWire). unit.is_open) (unit_with job_table.groups w.parts e) ∙ is) in
    record { binding = at.binding; found = at.found; stopping = at.stopping }
suits_alone job_table w e ResetDoneMessage suits = ap (λ (unit : UnitWire). unit.is_open) (sym (unit_with job_table.groups w.parts e)) ∙ suits

pub no_groups : (parts : List EndpointWire) (e : ℕ) → (slice_index_or (parts_with (λ k. []) parts) e idle).host_groups ≡ []
no_groups [] e = refl
no_groups (p ∷ parts) zero = refl
no_groups (p ∷ parts) (suc e) = no_groups parts e

-- where no group is filed of it, a group has all places left
none_filed : (binding index : ℕ) (groups : List HostGroupWire) → groups ≡ [] → length (asks_of (find (is_begun binding index) groups)) < 32
none_filed binding index groups none = subst (λ (gs : List HostGroupWire). length (asks_of (find (is_begun binding index) gs)) < 32) (sym none) (omega arith)

-- What a host alone keeps of page requests: no group is filed, no job is made, no hand holds one.

record IsAlone (w : Wire) : Type 0 where
  groups : (e : ℕ) → (part_of w e).host_groups ≡ []
  jobs : w.jobs ≡ []
  hands : (x : ℕ) → held_by w x ≡ None
  few : length w.hands ≤ 4

first_of_none : {A : Type 0} (n x : ℕ) (hands : List (Option A)) → slice_index_or hands x None ≡ None → slice_index_or (take n hands) x None ≡ None
first_of_none zero x hands none = refl
first_of_none (suc n) x [] none = refl
first_of_none (suc n) zero (o ∷ hands) none = none
first_of_none (suc n) (suc x) (o ∷ hands) none = first_of_none n x hands none

four_empty : (x : ℕ) → ◌≡◌ {A = Option JobWire} (slice_index_or (None ∷ None ∷ None ∷ None ∷ []) x None) None
four_empty zero = refl
four_empty (suc zero) = refl
four_empty (suc (suc zero)) = refl
four_empty (suc (suc (suc zero))) = refl
four_empty (suc (suc (suc (suc x)))) = refl

fewer : {A : Type 0} (n : ℕ) (xs : List A) → n ≤ 4 → length (take n xs) ≤ 4
fewer n xs few = omega (arith, length-take n xs)

alone : (n : ℕ) (w : Wire) → n ≤ 4 → w ≡ with_job_table n no_jobs w → IsAlone w
alone n w few apart =
    record {
      groups = λ e. ap (λ (v : Wire). (part_of v e).host_groups) apart ∙ no_groups w.parts e;
      jobs = ap (λ (v : Wire). v.jobs) apart;
      hands = λ x. ap (λ (v : Wire). held_by v x) apart ∙ first_of_none n x (None ∷ None ∷ None ∷ None ∷ []) (four_empty x);
      few = subst (λ (hands : List (Option JobWire)). length hands ≤ 4) (sym (ap (λ (v : Wire). v.hands) apart))
          (fewer n (None ∷ None ∷ None ∷ None ∷ []) few);
    }

not_held : (w : Wire) (x : ℕ) (job : JobWire) → IsAlone w → held_by w x ≡ Some job → ⊥
not_held w x job is holds = wrong (sym (is.hands x) ∙ holds)
  where
    wrong : ◌≡◌ {A = Option JobWire} None (Some job) → ⊥
    wrong h = cc

not_queued : (w : Wire) (k : ℕ) (job : JobWire) → IsAlone w → slice_get w.jobs k ≡ Some job → ⊥
not_queued w k job is queued = wrong (sym (ap (λ (jobs : List JobWire). slice_get jobs k) is.jobs) ∙ queued)
  where
    wrong : ◌≡◌ {A = Option JobWire} (slice_get [] k) (Some job) → ⊥
    wrong h = cc

no_job : (w : Wire) (e n k : ℕ) → IsAlone w → HasNoJob w.jobs w.hands e n k
no_job w e n k is =
    record {
      queued = ap (λ (jobs : List JobWire). list_any (is_job_of e n k) jobs) is.jobs;
      held = λ x job holds. absurd (not_held w x job is holds);
    }

sound_alone : (job_table : JobTableWire) (w : Wire) → IsAlone w → IsSound (serving job_table w) → IsSound w
sound_alone job_table w is s =
    record {
      spaces_end = s.spaces_end;
      bindings_end = s.bindings_end;
      messages_end = s.messages_end;
      cookies_end = s.cookies_end;
      space_low = s.space_low;
      binding_low = s.binding_low;
      message_low = s.message_low;
      spaces_rise = s.spaces_rise;
      bindings_rise = s.bindings_rise;
      messages_rise = s.messages_rise;
      few_parts = subst (λ (n : ℕ). n ≤ 8) same s.few_parts;
      few_hands = is.few;
      waits_given = λ e l. subst (λ (unit : UnitWire). unit.waits_end ≤ w.next_cookie) (unit e) (s.waits_given e (there e l));
      front_low = λ e l. subst (λ (unit : UnitWire). unit.front ≤ unit.waits_end) (unit e) (s.front_low e (there e l));
      queue_fits = λ e l. subst (λ (unit : UnitWire). length unit.queue ≤ 64) (unit e) (s.queue_fits e (there e l));
      pasid_low = s.pasid_low;
      pasids_shared = s.pasids_shared;
      endpoint_low = λ k b at. subst (λ (n : ℕ). b.endpoint < n) same (s.endpoint_low k b at);
      one_each = s.one_each;
      awaited_queued = λ e f c place l opened at awaits.
          subst (λ (unit : UnitWire). HasWait unit c) (unit e)
          (s.awaited_queued e f c place (there e l) (ap (λ (unit : UnitWire). unit.is_open) (unit e) ∙ opened) at awaits);
      invalidating_queued = λ k c b at stage opened not_done.
          subst (λ (unit : UnitWire). HasWait unit c) (unit b.endpoint)
          (s.invalidating_queued k c b at stage (ap (λ (unit : UnitWire). unit.is_open) (unit b.endpoint) ∙ opened)
          (ap (λ (unit : UnitWire). is_wait_done unit c) (unit b.endpoint) ∙ not_done));
      flight_endpoint = λ k f at. subst (λ (n : ℕ). f.endpoint < n) same (s.flight_endpoint k f at);
      flight_suits = λ k f at. suits_alone job_table w f.endpoint f.message (s.flight_suits k f at);
      waiting_borne = λ e k r l at. s.waiting_borne e k r (there e l) (waits e k r at);
      filing_fits = λ e k r b l at borne. none_filed b.binding r.index (part_of w e).host_groups (is.groups e);
      filing_anew = λ e k r b l at borne. no_job w e b.binding r.index is;
      groups_at_home = λ k e b at apart. ap (λ (groups : List HostGroupWire). list_any (λ g. g.binding == b.binding) groups) (is.groups e);
      jobs_queued = λ k job at. absurd (not_queued w k job is at);
      jobs_held = λ x job holds. absurd (not_held w x job is holds);
      dropped_closed = λ x job holds dropped. absurd (not_held w x job is holds);
      tables = λ e l. subst AreTables (device e) (s.tables e (there e l));
      busy_size = λ e l. subst (λ (unit : UnitWire). length unit.busy ≡ 32) (unit e) (s.busy_size e (there e l));
      few_outstanding = λ e l. subst (λ (d : DeviceWire). outstanding d.groups ≤ 32) (device e) (s.few_outstanding e (there e l));
      cache_fits = λ e l. subst (λ (d : DeviceWire). length d.cache ≤ 64) (device e) (s.cache_fits e (there e l));
      cache_rises = λ e j k x y l less first second.
          s.cache_rises e j k x y (there e l) less (ap (λ (d : DeviceWire). slice_get d.cache j) (device e) ∙ first)
          (ap (λ (d : DeviceWire). slice_get d.cache k) (device e) ∙ second);
    }
  where
    same : length (parts_with job_table.groups w.parts) ≡ length w.parts
    same = length_with job_table.groups w.parts

    there : (e : ℕ) → e < length w.parts → e < length (parts_with job_table.groups w.parts)
    there e l = subst (λ (n : ℕ). e < n) (sym same) l

    unit : (e : ℕ) → unit_of (serving job_table w) e ≡ unit_of w e
    unit e = unit_with job_table.groups w.parts e

    device : (e : ℕ) → device_of (serving job_table w) e ≡ device_of w e
    device e = device_with job_table.groups w.parts e

    waits : (e k : ℕ) (r : PageRequestWire) → slice_get (part_of w e).page_queue k ≡ Some r → slice_get (part_of (serving job_table w) e).page_queue k ≡ Some r
    waits e k r at = ap (λ (queue : List PageRequestWire). slice_get queue k) (page_queue_with job_table.groups w.parts e) ∙ at

pub host_sound : (host : Inside) (v : Wire) → wire_of host ≡ v → IsHost host → IsSound v → IsSound host.state
host_sound host v view h sound =
    sound_alone (job_table_seen host.workers host.job_table) host.state (alone host.workers host.state h.few h.apart) (subst IsSound (sym view) sound)
