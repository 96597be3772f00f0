-- The delivery of each of the eleven kinds of message by labels is that by names.
use Rattle.std.proofs.Common.{◌≡◌, ℕ, ◌<◌}
use Rattle.std.specs.Prelude.{Some}
use Rattle.sva_step.specs.declared.steps.Step.TheVariants as step
use Rattle.sva_model.specs.State.{Subject, World}
use Rattle.sva_model.specs.State.Subject.{StartOf, StopOf, FunctionReset, CompletionOf, InvalidateOf, ResponseOf, RequestOf, InvalidatedOf, PageRequestOf}
use Rattle.sva_model.specs.State.Subject.{MarkerOf, ResetDone}
use Rattle.sva_refinement.proofs.Reached.{IsReached}
use Rattle.sva_refinement.proofs.Alike.{SaysAlike}
use Rattle.sva_refinement.proofs.DeliverResults.{ArrivesAlike, delivered_alike, start_arrives, stop_arrives, reset_arrives, page_request_arrives}
use Rattle.sva_refinement.proofs.DeliverResults.{marker_arrives, reset_done_arrives}
use Rattle.sva_refinement.proofs.DeliverTranslations.{request_arrives, completion_arrives}
use Rattle.sva_refinement.proofs.DeliverOrders.{invalidate_arrives, invalidated_arrives, response_arrives}

pub arrives_alike : (w : World) (e c : ℕ) (a : Subject) → IsReached w → e < w.config.endpoints → (w.part e).message c ≡ Some a → ArrivesAlike w e c a
arrives_alike w e c (StartOf b) r l m = start_arrives w e c b r m
arrives_alike w e c (StopOf b) r l m = stop_arrives w e c b r m
arrives_alike w e c FunctionReset r l m = reset_arrives w e c r m
arrives_alike w e c (CompletionOf x found) r l m = completion_arrives w e c x found r l m
arrives_alike w e c (InvalidateOf k) r l m = invalidate_arrives w e c k r m
arrives_alike w e c (ResponseOf g code) r l m = response_arrives w e c g code r l m
arrives_alike w e c (RequestOf x) r l m = request_arrives w e c x r l m
arrives_alike w e c (InvalidatedOf names) r l m = invalidated_arrives w e c names r l m
arrives_alike w e c (PageRequestOf x) r l m = page_request_arrives w e c x r l m
arrives_alike w e c (MarkerOf b) r l m = marker_arrives w e c b r l m
arrives_alike w e c ResetDone r l m = reset_done_arrives w e c r m

pub deliver_says : (w : World) (n : ℕ) → IsReached w → SaysAlike w (step.Deliver n)
deliver_says w n r = delivered_alike w n r (λ e c a l m link_of name. arrives_alike w e c a r l m)
