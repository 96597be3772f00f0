-- Each step says by labels what it says by names, so the law holds of every step, and of whole lists.
use Rattle.std.proofs.Common.{ℕ}
use Rattle.sva_step.specs.declared.steps.Step.{Step}
use Rattle.sva_step.specs.declared.steps.Step.TheVariants as step
use Rattle.sva_model.specs.State.{World}
use Rattle.sva_laws.proofs.Targets.{has_front}
use Rattle.sva_laws.specs.Waits.{HasFront}
use Rattle.sva_refinement.specs.Refinement.{LabelsAreNames, RunsByLabels}
use Rattle.sva_refinement.proofs.Alike.{SaysAlike}
use Rattle.sva_refinement.proofs.ByLabels.{IsBetween, labels_are_names}
use Rattle.sva_refinement.proofs.SaysSpaces.{space_says, map_says, look_says, drop_says, unmap_says, range_says}
use Rattle.sva_refinement.proofs.SaysBindings.{bearer_says, bind_says, unbind_says, advance_says}
use Rattle.sva_refinement.proofs.SaysUnits.{reset_says, pump_says}
use Rattle.sva_refinement.proofs.SaysServe.{serve_says, take_says}
use Rattle.sva_refinement.proofs.SaysReply.{reply_says}
use Rattle.sva_refinement.proofs.WholeLists.{runs_by_labels}
use Rattle.sva_refinement.proofs.EndpointSays.{ask_says, begin_says, end_says, evict_says}
use Rattle.sva_refinement.proofs.EndpointFaults.{fault_says}
use Rattle.sva_refinement.proofs.EndpointFinishes.{finish_says}
use Rattle.sva_refinement.proofs.EndpointQuits.{quit_says}
use Rattle.sva_refinement.proofs.DeliverAll.{deliver_says}

fronts : (w : World) → IsBetween w → (e : ℕ) → HasFront w.cookies (w.part e)
fronts w b e = has_front w.cookies (w.part e) (b.reached.invariant.parts e).orders (b.stands.fronts e)

says : (w : World) (s : Step) → IsBetween w → SaysAlike w s
says w step.Space b = space_says w
says w (step.DropSpace n) b = drop_says w n b.reached.invariant
says w (step.Map n q x) b = map_says w n q x b.reached.invariant
says w (step.Unmap n q count) b = unmap_says w n q count b.reached.invariant (fronts w b) b.stands.few
says w (step.UnmapRange n q order) b = range_says w n q order b.reached.invariant (fronts w b) b.stands.few
says w (step.Bind e n) b = bind_says w e n b.reached.invariant b.rule
says w (step.Unbind n) b = unbind_says w n b.reached.invariant
says w (step.Advance n) b = advance_says w n b.reached.invariant (fronts w b) b.stands.filings
says w (step.Pump e) b = pump_says w e b.reached.invariant
says w (step.Serve e) b = serve_says w e b.reached.invariant (b.on e) (b.stands.filings e)
says w (step.Reset e) b = reset_says w e
says w (step.Take x) b = take_says w x
says w (step.Reply x v) b = reply_says w x v b.reached.invariant
says w (step.Ask e t q) b = ask_says w e t q b.reached.invariant
says w (step.BeginUse e t q x) b = begin_says w e t q x b.reached.invariant
says w (step.EndUse e u) b = end_says w e u b.reached.invariant
says w (step.Evict e t q) b = evict_says w e t q b.reached.invariant
says w (step.Fault e t q r x group l) b = fault_says w e t q r x group l b.reached.invariant
says w (step.Finish e vector count) b = finish_says w e vector count b.reached.invariant
says w (step.Quit e t) b = quit_says w e t b.reached.invariant
says w (step.Deliver n) b = deliver_says w n b.reached
says w (step.Look f) b = look_says w f
says w (step.Bearer t) b = bearer_says w t b.reached.invariant b.rule

pub every_step : LabelsAreNames
every_step = labels_are_names says

pub every_list : RunsByLabels
every_list = runs_by_labels every_step
