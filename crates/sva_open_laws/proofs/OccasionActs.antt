-- What each act at an endpoint leaves, and what without asks, and without faults.
use Rattle.std.proofs.Common.{◌≡◌, true, List, refl}
use Rattle.std.specs.Prelude.{find, position, slice_get}
use Rattle.sva_open.specs.declared.frames.Mapping.{Mapping}
use Rattle.sva_open.specs.declared.messages.Message.TheVariants as message
use Rattle.sva_open.specs.declared.settings.Settings.{Settings}
use Rattle.sva_open.specs.declared.acts.LocalAct.{LocalAct}
use Rattle.sva_open.specs.declared.acts.LocalAct.TheVariants as local
use Rattle.sva_open.specs.Acts.{next_part}
use Rattle.sva_open.specs.Devices as device
use Rattle.sva_open.specs.Host as host
use Rattle.sva_open.specs.Units as unit
use Rattle.sva_open.specs.World.{Part, is_of}
use Rattle.sva_open_laws.specs.Occasions.{Chain, are_times_apart, local_without}
use Rattle.sva_open_laws.specs.Occasions.Chain.{Asks, Faults}
use Rattle.sva_open_laws.proofs.OccasionAsks as asks
use Rattle.sva_open_laws.proofs.OccasionFaults as faults
use Rattle.sva_open_laws.proofs.OccasionLinks as link
use Rattle.sva_open_laws.proofs.OccasionParts as parts
use Rattle.sva_open_laws.proofs.OccasionParts.{IsLed, next_at}
use Rattle.sva_open_laws.proofs.OccasionTimes as times

pub act_at : (chain : Chain) (settings : Settings) (mappings : List Mapping) (part : Part) (own : LocalAct) → are_times_apart chain settings ≡ true
    → IsLed chain (next_part settings mappings part own) (next_at chain settings mappings part (local_without chain part own))
act_at Asks settings mappings part (local.SetEntry pasid space) h = asks.set_entry part pasid space (slice_get part.rows pasid)
act_at Asks settings mappings part (local.Replace pasid space) h = asks.replace part pasid space (slice_get part.rows pasid)
act_at Asks settings mappings part (local.ClearEntry pasid) h = asks.clear_entry part pasid (slice_get part.rows pasid)
act_at Asks settings mappings part (local.Start pasid) h = asks.start part pasid (slice_get part.rows pasid)
act_at Asks settings mappings part (local.Stop pasid) h = asks.stop part pasid (slice_get part.rows pasid)
act_at Asks settings mappings part (local.Barrier barrier) h = parts.sends Asks part 0 part.time (message.Barrier barrier) refl
act_at Asks settings mappings part local.Reset h = parts.sends Asks part 0 part.time message.Reset refl
act_at Asks settings mappings part (local.Submit descriptors) h = asks.submit part descriptors.items
act_at Asks settings mappings part local.Close h = asks.close part
act_at Asks settings mappings part local.Reopen h = asks.reopen part
act_at Asks settings mappings part local.Skip h = asks.skip part (position unit.isnt_out part.queue)
act_at Asks settings mappings part local.Resume h = refl
act_at Asks settings mappings part (local.AwaitWait name) h = asks.await_wait part name
act_at Asks settings mappings part (local.AwaitStopped pasid) h = asks.await_stopped part pasid (slice_get part.rows pasid)
act_at Asks settings mappings part (local.AwaitPassed pasid thread) h = asks.await_passed part pasid thread
act_at Asks settings mappings part local.AwaitQueue h = asks.await_queue part
act_at Asks settings mappings part (local.AwaitQueueOf pasid) h = asks.await_queue_of part pasid
act_at Asks settings mappings part (local.AwaitGroups pasid) h = asks.await_groups part pasid
act_at Asks settings mappings part local.AwaitResets h = asks.await_resets part
act_at Asks settings mappings part (local.Turn control on) h = asks.turned part control on
act_at Asks settings mappings part local.AwaitIdle h = asks.await_idle part
act_at Asks settings mappings part local.AwaitGone h = asks.await_gone part
act_at Asks settings mappings part local.Serve h = asks.serve part (slice_get part.arrived 0)
act_at Asks settings mappings part (local.Respond pasid index fails) h = asks.respond part pasid index fails
act_at Asks settings mappings part (local.RespondAll pasid fails) h = asks.respond_all part pasid fails
act_at Asks settings mappings part (local.Discard pasid) h = refl
act_at Asks settings mappings part (local.FreePasid pasid) h = asks.free_pasid part pasid (slice_get part.rows pasid)
act_at Asks settings mappings part (local.Ask pasid page) h = asks.ask part pasid page (slice_get part.rows pasid)
act_at Asks settings mappings part (local.Use pasid page) h = asks.begin_use part (slice_get part.rows pasid) (find (is_of pasid page) part.held)
act_at Asks settings mappings part (local.End place) h = asks.end_use part place (slice_get part.works place) refl
act_at Asks settings mappings part (local.Evict pasid page) h = asks.evict part (position (is_of pasid page) part.held)
act_at Asks settings mappings part (local.Fault pasid page write last) h = asks.fault part pasid page write last (slice_get part.rows pasid)
act_at Asks settings mappings part (local.More index page write last) h = asks.more part index page write last (slice_get part.groups index)
act_at Asks settings mappings part (local.Finish place) h = asks.finish settings mappings part place (slice_get part.works place) refl
act_at Asks settings mappings part (local.Pass place) h = asks.pass settings mappings part place (slice_get part.works place) refl
act_at Asks settings mappings part (local.Quit pasid) h = asks.quit settings.stopped part pasid (slice_get part.rows pasid)
act_at Asks settings mappings part local.Leave h = asks.leave part
act_at Asks settings mappings part local.Pump h = asks.pump settings part
act_at Asks settings mappings part (local.PumpAt place) h = asks.pump_at settings part place
act_at Asks settings mappings part (local.Expire itag silent) h = times.expire Asks settings part itag silent h
act_at Asks settings mappings part local.Write h = asks.write settings part (slice_get part.received 0)
act_at Asks settings mappings part (local.ForgetEntry place) h = asks.forget_entry part place (slice_get part.kept_entries place)
act_at Asks settings mappings part (local.Forget place) h = asks.forget part place (slice_get part.kept place)
act_at Asks settings mappings part (local.Deliver place) h = link.deliver Asks settings mappings part place (slice_get part.flight place) refl
act_at Faults settings mappings part (local.SetEntry pasid space) h = faults.set_entry part pasid space (slice_get part.rows pasid)
act_at Faults settings mappings part (local.Replace pasid space) h = faults.replace part pasid space (slice_get part.rows pasid)
act_at Faults settings mappings part (local.ClearEntry pasid) h = faults.clear_entry part pasid (slice_get part.rows pasid)
act_at Faults settings mappings part (local.Start pasid) h = faults.start part pasid (slice_get part.rows pasid)
act_at Faults settings mappings part (local.Stop pasid) h = faults.stop part pasid (slice_get part.rows pasid)
act_at Faults settings mappings part (local.Barrier barrier) h = parts.sends Faults part 0 part.time (message.Barrier barrier) refl
act_at Faults settings mappings part local.Reset h = parts.sends Faults part 0 part.time message.Reset refl
act_at Faults settings mappings part (local.Submit descriptors) h = faults.submit part descriptors.items
act_at Faults settings mappings part local.Close h = faults.close part
act_at Faults settings mappings part local.Reopen h = faults.reopen part
act_at Faults settings mappings part local.Skip h = faults.skip part (position unit.isnt_out part.queue)
act_at Faults settings mappings part local.Resume h = refl
act_at Faults settings mappings part (local.AwaitWait name) h = faults.await_wait part name
act_at Faults settings mappings part (local.AwaitStopped pasid) h = faults.await_stopped part pasid (slice_get part.rows pasid)
act_at Faults settings mappings part (local.AwaitPassed pasid thread) h = faults.await_passed part pasid thread
act_at Faults settings mappings part local.AwaitQueue h = faults.await_queue part
act_at Faults settings mappings part (local.AwaitQueueOf pasid) h = faults.await_queue_of part pasid
act_at Faults settings mappings part (local.AwaitGroups pasid) h = faults.await_groups part pasid
act_at Faults settings mappings part local.AwaitResets h = faults.await_resets part
act_at Faults settings mappings part (local.Turn control on) h = faults.turned part control on
act_at Faults settings mappings part local.AwaitIdle h = faults.await_idle part
act_at Faults settings mappings part local.AwaitGone h = faults.await_gone part
act_at Faults settings mappings part local.Serve h = faults.serve part (slice_get part.arrived 0)
act_at Faults settings mappings part (local.Respond pasid index fails) h =
    faults.respond part index fails (position (host.is_group pasid index) part.filed)
act_at Faults settings mappings part (local.RespondAll pasid fails) h = faults.respond_all part pasid fails
act_at Faults settings mappings part (local.Discard pasid) h = refl
act_at Faults settings mappings part (local.FreePasid pasid) h = faults.free_pasid part pasid (slice_get part.rows pasid)
act_at Faults settings mappings part (local.Ask pasid page) h = faults.ask part pasid page (slice_get part.rows pasid)
act_at Faults settings mappings part (local.Use pasid page) h = faults.begin_use part (slice_get part.rows pasid) (find (is_of pasid page) part.held)
act_at Faults settings mappings part (local.End place) h = faults.end_use part place (slice_get part.works place)
act_at Faults settings mappings part (local.Evict pasid page) h = faults.evict part (position (is_of pasid page) part.held)
act_at Faults settings mappings part (local.Fault pasid page write last) h =
    faults.fault part pasid page write last (device.fresh_number part) (slice_get part.rows pasid)
act_at Faults settings mappings part (local.More index page write last) h = faults.more part index page write last (slice_get part.groups index)
act_at Faults settings mappings part (local.Finish place) h = faults.finish part place (slice_get part.works place)
act_at Faults settings mappings part (local.Pass place) h = faults.pass settings.stopped part place (slice_get part.works place)
act_at Faults settings mappings part (local.Quit pasid) h = faults.quit settings.stopped part pasid (slice_get part.rows pasid)
act_at Faults settings mappings part local.Leave h = faults.leave part
act_at Faults settings mappings part local.Pump h = faults.pump settings part
act_at Faults settings mappings part (local.PumpAt place) h = faults.pump_at settings part place
act_at Faults settings mappings part (local.Expire itag silent) h = times.expire Faults settings part itag silent h
act_at Faults settings mappings part local.Write h = faults.write settings part (slice_get part.received 0)
act_at Faults settings mappings part (local.ForgetEntry place) h = faults.forget_entry part place (slice_get part.kept_entries place)
act_at Faults settings mappings part (local.Forget place) h = faults.forget part place (slice_get part.kept place)
act_at Faults settings mappings part (local.Deliver place) h = link.deliver Faults settings mappings part place (slice_get part.flight place) refl
