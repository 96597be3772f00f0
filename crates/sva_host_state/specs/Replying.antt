-- What is answered to a job, by labels (Page Request Group Response: PCI Express Base 5.0, section 10.4.2).
use Rattle.std.specs.Prelude.{◌≡◌, ℕ, Option, Some, None, List, [], ◌∷◌, ◌++◌, length}
use Rattle.sva_step.specs.declared.answers.Answer.TheVariants as answer
use Rattle.sva_step.specs.declared.steps.Verdict.{Verdict}
use Rattle.sva_model.specs.Message.{Code}
use Rattle.sva_model.specs.Message.Code.{SuccessCode}
use Rattle.sva_model.specs.Outcomes.{code_answer}
use Rattle.sva_model.specs.Wire.{Wire, BindingWire, JobWire}
use Rattle.sva_labels.specs.Finding.{pages_in, free_from, binding_of}
use Rattle.sva_labels.specs.Replying.{response_to}
use Rattle.sva_labels.specs.Causes.{numbers_spent, reply_causes}
use Rattle.sva_labels.specs.Moves.{Move, pasid_or_0}
use Rattle.sva_labels.specs.Outcomes.{Result, says, maps_to, reply_maps}
use Rattle.sva_labels.specs.Host.{Decision, checked}
use Rattle.sva_address_spaces.specs.Asked.{success_causes}
use Rattle.sva_labels.specs.Replying.{new_among}
use Rattle.sva_parts_by_labels.specs.Flights.{code_seen}
use Rattle.sva_host_state.specs.declared.replying.Response.{Response}

-- What a reply answers and moves, but that the job leaves its hand, and is discarded where nothing is sent: a host keeps no
-- hands yet, nor groups.
abbrev pub responded_by : Wire → JobWire → List Move → Option Code → Result
responded_by world job maps None = says answer.Dropped []
responded_by world job maps (Some code) =
    says (code_answer (length maps) code) (maps ++ Move.Respond job (pasid_or_0 (binding_of world job.binding)) code ∷ [])

-- such a reply of a worker that holds the job: refused by the first of its causes that holds, else answered and moved so
abbrev pub responded_of : Wire → JobWire → Verdict → Decision
responded_of world job verdict =
    checked (reply_causes world verdict (Some job)) (responded_by world job (reply_maps world job verdict) (response_to world job verdict))

-- The same by the response that is sent, to a PASID: a success maps pages of a space, and another code maps nothing.

-- each page that is asked for and isn't mapped yet, in order of first filing, to the lowest frame that is free then
abbrev pub success_maps : Wire → JobWire → (space : ℕ) → List Move
success_maps world job space = maps_to space job.asks (new_among (pages_in world space) job.asks) (free_from 0 world.places)

-- a reply of success: refused where its pages can't all be mapped as asked, or no number is left for the response; else they are mapped and it is sent
abbrev pub succeeded : Wire → JobWire → (space pasid : ℕ) → Decision
succeeded world job space pasid =
    checked
    (success_causes (pages_in world space) world.places job.asks ++ numbers_spent world.next_message 1 ∷ [])
    (says (answer.Success (length (success_maps world job space))) (success_maps world job space ++ Move.Respond job pasid SuccessCode ∷ []))

-- a reply of Invalid Request or Response Failure, which is refused only where no number is left for the response
abbrev pub turned_down : Wire → JobWire → (pasid : ℕ) → Code → Decision
turned_down world job pasid code = checked (numbers_spent world.next_message 1 ∷ []) (says (code_answer 0 code) (Move.Respond job pasid code ∷ []))

-- the response that a job gets, with space and PASID of its binding
pub record IsResponse (world : Wire) (job : JobWire) (verdict : Verdict) (response : Response) : Type 0 where
  pub binding : BindingWire
  pub found : binding_of world job.binding ≡ Some binding
  pub space : binding.space ≡ response.space
  pub pasid : binding.pasid ≡ response.pasid
  pub code : response_to world job verdict ≡ Some (code_seen response.code)

-- the job gets exactly this response; it gets none where its unit is in reset, or its binding Lost, Quiet or released
abbrev pub RespondsBy : Wire → JobWire → Verdict → Option Response → Type 0
RespondsBy world job verdict None = response_to world job verdict ≡ None
RespondsBy world job verdict (Some response) = IsResponse world job verdict response
