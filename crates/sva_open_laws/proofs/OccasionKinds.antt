-- What an act at an endpoint is without asks, and without faults: the same, none, or one that names another place.
use Rattle.std.proofs.Common.{◌≡◌, Bool, true, false, Option, Some, None, refl}
use Rattle.std.specs.Prelude.{slice_get}
use Rattle.sva_open.specs.declared.acts.LocalAct.{LocalAct}
use Rattle.sva_open.specs.declared.acts.LocalAct.TheVariants as local
use Rattle.sva_open.specs.declared.descriptors.Descriptor.{Descriptor}
use Rattle.sva_open.specs.Below.{awaits_all, closes, matter_of, taken_by}
use Rattle.sva_open.specs.Below.Matter.{OwnEndpoint}
use Rattle.sva_open.specs.World.{Part, if_so}
use Rattle.sva_open_laws.specs.Pages.{is_left_at, place_in}
use Rattle.sva_open_laws.specs.Occasions.{Chain, is_local_apart, is_sent_left, isnt_use, local_without}
use Rattle.sva_open_laws.specs.Occasions.Chain.{Asks, Faults}
use Rattle.sva_open_laws.proofs.OccasionBelow.{IsAlike, IsToldAs, deliver_told, finish_told, pass_told}

-- an act of which the others see what they see of the unit, and no more
pub record IsSilent (own : LocalAct) : Type 0 where
  pub waits : awaits_all own ≡ false
  pub closes : closes own ≡ false
  pub takes : (head : Option Descriptor) → taken_by own head ≡ None

pub data Kind (chain : Chain) (own : LocalAct) : Type 0 where
  kept : ((part : Part) → local_without chain part own ≡ Some own) → IsAlike chain (matter_of own) → is_local_apart chain own ≡ true
      → Kind chain own
  none : ((part : Part) → local_without chain part own ≡ None) → IsSilent own → Kind chain own
  moved : (keeps : Part → Bool) (other : Part → LocalAct) → ((part : Part) → local_without chain part own ≡ if_so (keeps part) (other part))
      → IsSilent own → matter_of own ≡ OwnEndpoint → ((part : Part) → matter_of (other part) ≡ OwnEndpoint)
      → ((part : Part) → IsToldAs own (other part)) → ((part : Part) → is_local_apart chain (other part) ≡ true) → Kind chain own

pub kind_of : (chain : Chain) (own : LocalAct) → Kind chain own
kind_of Asks (local.SetEntry pasid space) = kept (λ part. refl) tt refl
kind_of Asks (local.Replace pasid space) = kept (λ part. refl) tt refl
kind_of Asks (local.ClearEntry pasid) = kept (λ part. refl) tt refl
kind_of Asks (local.Start pasid) = kept (λ part. refl) tt refl
kind_of Asks (local.Stop pasid) = kept (λ part. refl) tt refl
kind_of Asks (local.Barrier barrier) = kept (λ part. refl) tt refl
kind_of Asks local.Reset = kept (λ part. refl) tt refl
kind_of Asks (local.Submit descriptors) = kept (λ part. refl) tt refl
kind_of Asks local.Close = kept (λ part. refl) tt refl
kind_of Asks local.Reopen = kept (λ part. refl) tt refl
kind_of Asks local.Skip = kept (λ part. refl) tt refl
kind_of Asks local.Resume = kept (λ part. refl) tt refl
kind_of Asks (local.AwaitWait name) = kept (λ part. refl) tt refl
kind_of Asks (local.AwaitStopped pasid) = kept (λ part. refl) tt refl
kind_of Asks (local.AwaitPassed pasid thread) = kept (λ part. refl) tt refl
kind_of Asks local.AwaitQueue = kept (λ part. refl) tt refl
kind_of Asks (local.AwaitQueueOf pasid) = kept (λ part. refl) tt refl
kind_of Asks (local.AwaitGroups pasid) = kept (λ part. refl) tt refl
kind_of Asks local.AwaitResets = kept (λ part. refl) tt refl
kind_of Asks (local.Turn control on) = kept (λ part. refl) tt refl
kind_of Asks local.AwaitIdle = kept (λ part. refl) tt refl
kind_of Asks local.AwaitGone = kept (λ part. refl) tt refl
kind_of Asks local.Serve = kept (λ part. refl) tt refl
kind_of Asks (local.Respond pasid index fails) = kept (λ part. refl) tt refl
kind_of Asks (local.RespondAll pasid fails) = kept (λ part. refl) tt refl
kind_of Asks (local.Discard pasid) = kept (λ part. refl) tt refl
kind_of Asks (local.FreePasid pasid) = kept (λ part. refl) tt refl
kind_of Asks (local.Ask pasid page) = none (λ part. refl) (record { waits = refl; closes = refl; takes = λ head. refl })
kind_of Asks (local.Use pasid page) = none (λ part. refl) (record { waits = refl; closes = refl; takes = λ head. refl })
kind_of Asks (local.End place) = none (λ part. refl) (record { waits = refl; closes = refl; takes = λ head. refl })
kind_of Asks (local.Evict pasid page) = none (λ part. refl) (record { waits = refl; closes = refl; takes = λ head. refl })
kind_of Asks (local.Fault pasid page write last) = kept (λ part. refl) tt refl
kind_of Asks (local.More index page write last) = kept (λ part. refl) tt refl
kind_of Asks (local.Finish place) = moved (λ part. is_left_at isnt_use (slice_get part.works place))
    (λ part. local.Finish (place_in isnt_use part.works place)) (λ part. refl)
    (record { waits = refl; closes = refl; takes = λ head. refl }) refl (λ part. refl) (λ part. finish_told place _) (λ part. refl)
kind_of Asks (local.Pass place) = moved (λ part. is_left_at isnt_use (slice_get part.works place))
    (λ part. local.Pass (place_in isnt_use part.works place)) (λ part. refl)
    (record { waits = refl; closes = refl; takes = λ head. refl }) refl (λ part. refl) (λ part. pass_told place _) (λ part. refl)
kind_of Asks (local.Quit pasid) = kept (λ part. refl) tt refl
kind_of Asks local.Leave = kept (λ part. refl) tt refl
kind_of Asks local.Pump = kept (λ part. refl) tt refl
kind_of Asks (local.PumpAt place) = kept (λ part. refl) tt refl
kind_of Asks (local.Expire itag silent) = kept (λ part. refl) tt refl
kind_of Asks local.Write = kept (λ part. refl) tt refl
kind_of Asks (local.ForgetEntry place) = none (λ part. refl) (record { waits = refl; closes = refl; takes = λ head. refl })
kind_of Asks (local.Forget place) = none (λ part. refl) (record { waits = refl; closes = refl; takes = λ head. refl })
kind_of Asks (local.Deliver place) = moved (λ part. is_left_at (is_sent_left Asks) (slice_get part.flight place))
    (λ part. local.Deliver (place_in (is_sent_left Asks) part.flight place)) (λ part. refl)
    (record { waits = refl; closes = refl; takes = λ head. refl }) refl (λ part. refl) (λ part. deliver_told place _) (λ part. refl)
kind_of Faults (local.SetEntry pasid space) = kept (λ part. refl) tt refl
kind_of Faults (local.Replace pasid space) = kept (λ part. refl) tt refl
kind_of Faults (local.ClearEntry pasid) = kept (λ part. refl) tt refl
kind_of Faults (local.Start pasid) = kept (λ part. refl) tt refl
kind_of Faults (local.Stop pasid) = kept (λ part. refl) tt refl
kind_of Faults (local.Barrier barrier) = kept (λ part. refl) tt refl
kind_of Faults local.Reset = kept (λ part. refl) tt refl
kind_of Faults (local.Submit descriptors) = kept (λ part. refl) tt refl
kind_of Faults local.Close = kept (λ part. refl) tt refl
kind_of Faults local.Reopen = kept (λ part. refl) tt refl
kind_of Faults local.Skip = kept (λ part. refl) tt refl
kind_of Faults local.Resume = kept (λ part. refl) tt refl
kind_of Faults (local.AwaitWait name) = kept (λ part. refl) tt refl
kind_of Faults (local.AwaitStopped pasid) = kept (λ part. refl) tt refl
kind_of Faults (local.AwaitPassed pasid thread) = kept (λ part. refl) tt refl
kind_of Faults local.AwaitQueue = kept (λ part. refl) tt refl
kind_of Faults (local.AwaitQueueOf pasid) = kept (λ part. refl) tt refl
kind_of Faults (local.AwaitGroups pasid) = kept (λ part. refl) tt refl
kind_of Faults local.AwaitResets = kept (λ part. refl) tt refl
kind_of Faults (local.Turn control on) = kept (λ part. refl) tt refl
kind_of Faults local.AwaitIdle = kept (λ part. refl) tt refl
kind_of Faults local.AwaitGone = kept (λ part. refl) tt refl
kind_of Faults local.Serve = none (λ part. refl) (record { waits = refl; closes = refl; takes = λ head. refl })
kind_of Faults (local.Respond pasid index fails) = none (λ part. refl) (record { waits = refl; closes = refl; takes = λ head. refl })
kind_of Faults (local.RespondAll pasid fails) = kept (λ part. refl) tt refl
kind_of Faults (local.Discard pasid) = kept (λ part. refl) tt refl
kind_of Faults (local.FreePasid pasid) = kept (λ part. refl) tt refl
kind_of Faults (local.Ask pasid page) = kept (λ part. refl) tt refl
kind_of Faults (local.Use pasid page) = kept (λ part. refl) tt refl
kind_of Faults (local.End place) = kept (λ part. refl) tt refl
kind_of Faults (local.Evict pasid page) = kept (λ part. refl) tt refl
kind_of Faults (local.Fault pasid page write last) = none (λ part. refl) (record { waits = refl; closes = refl; takes = λ head. refl })
kind_of Faults (local.More index page write last) = none (λ part. refl) (record { waits = refl; closes = refl; takes = λ head. refl })
kind_of Faults (local.Finish place) = kept (λ part. refl) tt refl
kind_of Faults (local.Pass place) = kept (λ part. refl) tt refl
kind_of Faults (local.Quit pasid) = kept (λ part. refl) tt refl
kind_of Faults local.Leave = kept (λ part. refl) tt refl
kind_of Faults local.Pump = kept (λ part. refl) tt refl
kind_of Faults (local.PumpAt place) = kept (λ part. refl) tt refl
kind_of Faults (local.Expire itag silent) = kept (λ part. refl) tt refl
kind_of Faults local.Write = none (λ part. refl) (record { waits = refl; closes = refl; takes = λ head. refl })
kind_of Faults (local.ForgetEntry place) = kept (λ part. refl) tt refl
kind_of Faults (local.Forget place) = kept (λ part. refl) tt refl
kind_of Faults (local.Deliver place) = moved (λ part. is_left_at (is_sent_left Faults) (slice_get part.flight place))
    (λ part. local.Deliver (place_in (is_sent_left Faults) part.flight place)) (λ part. refl)
    (record { waits = refl; closes = refl; takes = λ head. refl }) refl (λ part. refl) (λ part. deliver_told place _) (λ part. refl)
