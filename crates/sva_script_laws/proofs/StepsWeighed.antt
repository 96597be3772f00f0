-- What each step leaves that endpoints, units, workers and the link take by themselves weighs less than what was kept before, and less than
-- that with its price where a budget pays for it.
use Rattle.std.proofs.Common.{◌≡◌, ◌∙◌, ◌<◌, ◌≤◌, ℕ, suc, ◌+◌, Bool, true, false, List, [], ◌∷◌, ◌++◌, get_or, length}
use Rattle.std.proofs.Common.{Option, Some, None, refl, ap, sym, arith}
use Rattle.std.proofs.lemmas.List.Sums.{sum_by_push}
use Rattle.std.specs.Prelude.{◌==◌, not, if◌then◌else◌, drop, filter, is_none, slice_set, Ok, Err}
use Rattle.sva_step.specs.declared.refusals.Refusal.{Refusal}
use Rattle.sva_step.specs.declared.steps.Step.{Step}
use Rattle.sva_step.specs.declared.steps.Verdict.{Verdict}
use Rattle.sva_model.specs.Message.{Code}
use Rattle.sva_model.specs.Message.Message.{InvalidateMessage, ResponseMessage}
use Rattle.sva_model.specs.States.{Extent}
use Rattle.sva_model.specs.States.Extent.{Pages, AllPages}
use Rattle.sva_model.specs.StateChanges.{scope_of}
use Rattle.sva_model.specs.Refusals.{Cause}
use Rattle.sva_model.specs.Wire.{Wire}
use Rattle.sva_model.specs.Wire.{Descriptor, AskWire, PageRequestWire, JobWire}
use Rattle.sva_model.specs.Wire.BusyWire.{Fresh}
use Rattle.sva_model.specs.Wire.Descriptor.{RangeDescriptor, PasidDescriptor, WaitDescriptor}
use Rattle.sva_labels.proofs.Steps.{Passed}
use Rattle.sva_labels.specs.Causes.{causes_of, reply_causes}
use Rattle.sva_labels.specs.Finding.{bearer, binding_of, free_from, held_by}
use Rattle.sva_labels.specs.Finding.{lowest_label, part_of, unit_of}
use Rattle.sva_labels.specs.Host.{checked, next_of, reply_of}
use Rattle.sva_labels.specs.Moves as moves
use Rattle.sva_labels.specs.Moves.{Move, all_moved, delivered, moved, pasid_or_0, taking, with_device, with_pasid, with_unit, with_part}
use Rattle.sva_labels.specs.Outcomes as outcomes
use Rattle.sva_labels.specs.Outcomes.{Result, by_one, result_of, says}
use Rattle.sva_labels.specs.Replying.{is_write_asked, newly_mapped, replies_success, response_to, space_of_job}
use Rattle.sva_race.specs.Acts.{does}
use Rattle.sva_race_texts.specs.declared.terms.choices.Act.{Act}
use Rattle.sva_race_texts.specs.declared.terms.choices.Act.TheVariants as act
use Rattle.sva_script_laws.specs.Weights.{descriptor_weight, hand_weight, job_weight}
use Rattle.sva_script_laws.specs.Weights.{queued_weight, wire_weight}
use Rattle.sva_script_laws.proofs.WeighedLists.{head_out, put_most, put_or}
use Rattle.sva_script_laws.proofs.MovesWeighed.{sent_weighs, with_part_most, with_unit_most}

-- what is left weighs less than so much
abbrev pub IsBelow : (bound : ℕ) → Wire → Result → Type 0
IsBelow bound wire result = wire_weight (all_moved wire result.moves) < bound

-- ---- where no cause holds, and something is done

refused_does_nothing : (own : Act) (why : Refusal) → does own (Err why) ≡ false
refused_does_nothing act.Line why = refl
refused_does_nothing act.Deliver why = refl
refused_does_nothing act.Pump why = refl
refused_does_nothing act.Serve why = refl
refused_does_nothing act.Take why = refl
refused_does_nothing act.Succeed why = refl
refused_does_nothing act.Invalidate why = refl
refused_does_nothing act.Fail why = refl
refused_does_nothing act.End why = refl
refused_does_nothing act.Finish why = refl
refused_does_nothing act.Quit why = refl
refused_does_nothing act.Last why = refl
refused_does_nothing act.Ask why = refl
refused_does_nothing act.Use why = refl
refused_does_nothing act.Evict why = refl
refused_does_nothing act.Fault why = refl
refused_does_nothing act.Again why = refl

granted : (own : Act) (bound : ℕ) (wire : Wire) (causes : List Cause) (result : Result)
    → (Passed causes → does own (Ok result.answer) ≡ true → IsBelow bound wire result)
    → does own (checked causes result).reply ≡ true → wire_weight (all_moved wire (checked causes result).moves) < bound
granted own bound wire [] result h done = h tt done
granted own bound wire (cause ∷ causes) result h done = by_test cause.0 refl (λ is. granted own bound wire causes result (λ passed. h (is, passed))) done
  where
    by_test : (b : Bool) → cause.0 ≡ b
        → (cause.0 ≡ false → does own (checked causes result).reply ≡ true → wire_weight (all_moved wire (checked causes result).moves) < bound)
        → does own (if b then record { reply = Err cause.1; moves = [] } else checked causes result).reply ≡ true
        → wire_weight (all_moved wire (if b then record { reply = Err cause.1; moves = [] } else checked causes result).moves) < bound
    by_test true is rest so = absurd (let never = sym (refused_does_nothing own cause.1) ∙ so in cc never)
    by_test false is rest so = rest is so

pub taken : (own : Act) (bound : ℕ) (wire : Wire) (s : Step)
    → (Passed (causes_of wire s) → does own (Ok (result_of wire s).answer) ≡ true → IsBelow bound wire (result_of wire s))
    → does own (reply_of wire s) ≡ true → wire_weight (next_of wire s) < bound
taken own bound wire s h done = granted own bound wire (causes_of wire s) (result_of wire s) h done

pub some_of : {A : Type 0} (o : Option A) → is_none o ≡ false → (x : A) × (o ≡ Some x)
some_of None h = absurd (cc)
some_of (Some x) h = (x, refl)

-- ---- the unit

sends_one : (wire : Wire) (endpoint itag pasid : ℕ) (extent : Extent) (head : Descriptor) (rest : List Descriptor)
    → (unit_of wire endpoint).queue ≡ head ∷ rest → descriptor_weight head ≡ 4
    → wire_weight (moved wire (Move.Send endpoint itag pasid extent)) < wire_weight wire
sends_one wire endpoint itag pasid extent head rest h is =
    let unit = record (unit_of wire endpoint) {
      queue = drop 1 (unit_of wire endpoint).queue;
      busy = slice_set (unit_of wire endpoint).busy itag (Some Fresh);
    } in
    let less = head_out descriptor_weight (unit_of wire endpoint).queue head rest h in
    let put = with_unit_most wire endpoint unit in
    let more = sent_weighs endpoint (InvalidateMessage itag pasid (scope_of extent)) (with_unit wire endpoint unit) in
    omega (arith, less, is, put, more)

send_below : (wire : Wire) (endpoint pasid : ℕ) (extent : Extent) (o : Option ℕ) (head : Descriptor) (rest : List Descriptor)
    → (unit_of wire endpoint).queue ≡ head ∷ rest → descriptor_weight head ≡ 4
    → does act.Pump (Ok (outcomes.send_result endpoint pasid extent o).answer) ≡ true
    → IsBelow (wire_weight wire) wire (outcomes.send_result endpoint pasid extent o)
send_below wire endpoint pasid extent None head rest h is done = absurd (cc)
send_below wire endpoint pasid extent (Some itag) head rest h is done = sends_one wire endpoint itag pasid extent head rest h is

wait_below : (wire : Wire) (endpoint cookie : ℕ) (b drain : Bool) (rest : List Descriptor)
    → (unit_of wire endpoint).queue ≡ WaitDescriptor cookie drain ∷ rest
    → does act.Pump (Ok (outcomes.wait_result endpoint cookie b).answer) ≡ true
    → IsBelow (wire_weight wire) wire (outcomes.wait_result endpoint cookie b)
wait_below wire endpoint cookie false drain rest h done = absurd (cc)
wait_below wire endpoint cookie true drain rest h done =
    let less = head_out descriptor_weight (unit_of wire endpoint).queue (WaitDescriptor cookie drain) rest h in
    let put = with_unit_most wire endpoint (record (unit_of wire endpoint) { queue = drop 1 (unit_of wire endpoint).queue; front = suc cookie }) in
    omega (arith, less, put)

pub pump_below : (wire : Wire) (endpoint : ℕ) (queue : List Descriptor) → (unit_of wire endpoint).queue ≡ queue
    → does act.Pump (Ok (outcomes.pump_result (part_of wire endpoint) endpoint queue).answer) ≡ true
    → IsBelow (wire_weight wire) wire (outcomes.pump_result (part_of wire endpoint) endpoint queue)
pump_below wire endpoint [] h done = absurd (cc)
pump_below wire endpoint (RangeDescriptor pasid range ∷ queue) h done =
    send_below wire endpoint pasid (Pages range) (lowest_label (part_of wire endpoint).unit.busy) (RangeDescriptor pasid range) queue h refl done
pump_below wire endpoint (PasidDescriptor pasid ∷ queue) h done =
    send_below wire endpoint pasid AllPages (lowest_label (part_of wire endpoint).unit.busy) (PasidDescriptor pasid) queue h refl done
pump_below wire endpoint (WaitDescriptor cookie drain ∷ queue) h done =
    wait_below wire endpoint cookie (outcomes.may_pass (part_of wire endpoint) drain) drain queue h done

file_below : (wire : Wire) (endpoint binding : ℕ) (request : PageRequestWire) (queue : List PageRequestWire) (last : Bool)
    → (part_of wire endpoint).page_queue ≡ request ∷ queue
    → IsBelow (wire_weight wire) wire (outcomes.file_result (part_of wire endpoint) endpoint binding request last)
file_below wire endpoint binding request queue last h = by_last last
  where
    filed : wire_weight (moved wire (Move.File endpoint binding request)) + 4 ≤ wire_weight wire
    filed =
        let part = part_of wire endpoint in
        let less = head_out queued_weight part.page_queue request queue h in
        let put = with_part_most wire endpoint (record part {
          page_queue = drop 1 part.page_queue;
          host_groups = moves.filed binding request part.host_groups;
        }) in
        omega (arith, less, put)

    by_last : (last : Bool) → IsBelow (wire_weight wire) wire (outcomes.file_result (part_of wire endpoint) endpoint binding request last)
    by_last false = omega (arith, filed)
    by_last true =
        let job = outcomes.job_of (part_of wire endpoint) endpoint binding request in
        let more = sum_by_push job_weight wire.jobs job in
        omega (arith, filed, more)

pub serve_below : (wire : Wire) (endpoint : ℕ) (queue : List PageRequestWire) → (part_of wire endpoint).page_queue ≡ queue
    → does act.Serve (Ok (outcomes.serve_result wire (part_of wire endpoint) endpoint queue).answer) ≡ true
    → IsBelow (wire_weight wire) wire (outcomes.serve_result wire (part_of wire endpoint) endpoint queue)
serve_below wire endpoint [] h done = absurd (cc)
serve_below wire endpoint (request ∷ queue) h done =
    file_below wire endpoint (outcomes.binding_or_0 (bearer wire endpoint request.pasid)) request queue request.last h

-- ---- workers

pub take_below : (wire : Wire) (worker : ℕ) (jobs : List JobWire) → wire.jobs ≡ jobs → (length wire.jobs == 0) ≡ false
    → IsBelow (wire_weight wire) wire (outcomes.take_result worker jobs)
take_below wire worker [] h some =
    let none : (length wire.jobs == 0) ≡ true = ap (λ (jobs : List JobWire). length jobs == 0) h in
    absurd (cc)
take_below wire worker (job ∷ jobs) h some =
    let less = head_out job_weight wire.jobs job jobs h in
    let most = put_most hand_weight wire.hands worker (Some job) in
    omega (arith, less, most)

-- what a reply maps changes nothing of this
maps_below : (bound space : ℕ) (asks : List AskWire) (pages frames : List ℕ) (rest : List Move) (wire : Wire) (hands : List (Option JobWire))
    → ((w : Wire) → w.hands ≡ hands → wire_weight w ≡ wire_weight wire → wire_weight (all_moved w rest) < bound)
    → (w : Wire) → w.hands ≡ hands → wire_weight w ≡ wire_weight wire
    → wire_weight (all_moved w (outcomes.maps_to space asks pages frames ++ rest)) < bound
maps_below bound space asks [] frames rest wire hands h w is same = h w is same
maps_below bound space asks (page ∷ pages) [] rest wire hands h w is same = h w is same
maps_below bound space asks (page ∷ pages) (frame ∷ frames) rest wire hands h w is same =
    maps_below bound space asks pages frames rest wire hands h (moved w (Move.Map space page frame (is_write_asked asks page))) is same

let_go : (wire : Wire) (worker : ℕ) (job : JobWire) → held_by wire worker ≡ Some job
    → wire_weight (moved wire (Move.LetGo worker)) + 2 ≤ wire_weight wire
let_go wire worker job h =
    let put = put_or hand_weight wire.hands worker None None refl in
    let here : hand_weight (get_or wire.hands worker None) ≡ 2 = ap hand_weight h in
    omega (arith, put, here)

responds : (wire : Wire) (job : JobWire) (pasid : ℕ) (code : Code) → wire_weight (moved wire (Move.Respond job pasid code)) ≤ wire_weight wire + 1
responds wire job pasid code =
    let part = record (part_of wire job.endpoint) {
      host_groups = filter (λ group. not (moves.is_of_job job group)) (part_of wire job.endpoint).host_groups;
    } in
    let put = with_part_most wire job.endpoint part in
    let more = sent_weighs job.endpoint (ResponseMessage pasid job.index code) (with_part wire job.endpoint part) in
    omega (arith, put, more)

reply_by_below : (wire : Wire) (worker : ℕ) (job : JobWire) (verdict : Verdict) (o : Option Code) → held_by wire worker ≡ Some job
    → IsBelow (wire_weight wire) wire (outcomes.reply_by wire worker job (outcomes.reply_maps wire job verdict) o)
reply_by_below wire worker job verdict None h =
    let less = let_go wire worker job h in
    omega (arith, less)
reply_by_below wire worker job verdict (Some code) h = by_success (replies_success wire job verdict)
  where
    goes : (w : Wire) → w.hands ≡ wire.hands → wire_weight w ≡ wire_weight wire
        → wire_weight (all_moved w (Move.LetGo worker ∷ Move.Respond job (pasid_or_0 (binding_of wire job.binding)) code ∷ [])) < wire_weight wire
    goes w is same =
        let less = let_go w worker job (ap (λ (hands : List (Option JobWire)). get_or hands worker None) is ∙ h) in
        let more = responds (moved w (Move.LetGo worker)) job (pasid_or_0 (binding_of wire job.binding)) code in
        omega (arith, less, more, same)

    by_success : (b : Bool) → wire_weight (all_moved wire
        ((if b then outcomes.maps_to (space_of_job wire job) job.asks (newly_mapped wire job) (free_from 0 wire.places) else [])
        ++ Move.LetGo worker ∷ Move.Respond job (pasid_or_0 (binding_of wire job.binding)) code ∷ []))
        < wire_weight wire
    by_success true =
        maps_below (wire_weight wire) (space_of_job wire job) job.asks (newly_mapped wire job) (free_from 0 wire.places)
        (Move.LetGo worker ∷ Move.Respond job (pasid_or_0 (binding_of wire job.binding)) code ∷ []) wire wire.hands goes
        wire refl refl
    by_success false = goes wire refl refl

pub reply_below : (wire : Wire) (worker : ℕ) (verdict : Verdict) (o : Option JobWire) → held_by wire worker ≡ o
    → Passed (reply_causes wire verdict o) → IsBelow (wire_weight wire) wire (outcomes.reply_result wire worker verdict o)
reply_below wire worker verdict None h passed = absurd (let never = passed.0 in cc never)
reply_below wire worker verdict (Some job) h passed = reply_by_below wire worker job verdict (response_to wire job verdict) h
