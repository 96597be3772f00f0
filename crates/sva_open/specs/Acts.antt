-- The world that an act leads to, or none where it isn't permitted now.
use Rattle.std.specs.Prelude.{ℕ, suc, not, Bool, List, [], ◌∷◌, ◌++◌, filter, position, slice_get, slice_set}
use Rattle.std.specs.Prelude.{Option, Some, None, option_map}
use Rattle.sva_open.specs.declared.frames.Tenure.{Tenure}
use Rattle.sva_open.specs.declared.frames.Mapping.{Mapping}
use Rattle.sva_open.specs.declared.settings.Settings.{Settings}
use Rattle.sva_open.specs.declared.acts.Act.{Act}
use Rattle.sva_open.specs.declared.acts.Act.TheVariants as act
use Rattle.sva_open.specs.declared.acts.LocalAct.{LocalAct}
use Rattle.sva_open.specs.declared.acts.LocalAct.TheVariants as local
use Rattle.sva_open.specs.World.{Open, Part, is_of, is_page}
use Rattle.sva_open.specs.Below.{about, shared}
use Rattle.sva_open.specs.Host as host
use Rattle.sva_open.specs.Devices as device
use Rattle.sva_open.specs.Units as unit
use Rattle.sva_open.specs.Links.{deliver}

-- ---- at an endpoint

abbrev pub next_part : Settings → List Mapping → Part → LocalAct → Option Part
next_part settings mappings part (local.SetEntry pasid space) = host.set_entry part pasid space (slice_get part.rows pasid)
next_part settings mappings part (local.Replace pasid space) = host.replace part pasid space (slice_get part.rows pasid)
next_part settings mappings part (local.ClearEntry pasid) = host.clear_entry part pasid (slice_get part.rows pasid)
next_part settings mappings part (local.Start pasid) = host.start part pasid (slice_get part.rows pasid)
next_part settings mappings part (local.Stop pasid) = host.stop part pasid (slice_get part.rows pasid)
next_part settings mappings part (local.Barrier barrier) = Some (host.barrier part barrier)
next_part settings mappings part local.Reset = Some (host.reset part)
next_part settings mappings part (local.Submit descriptors) = host.submit part descriptors.items
next_part settings mappings part local.Close = host.close part
next_part settings mappings part local.Reopen = host.reopen part
next_part settings mappings part local.Skip = host.skip part (position unit.isnt_out part.queue)
next_part settings mappings part local.Resume = Some (host.resume part)
next_part settings mappings part (local.AwaitWait name) = host.await_wait part name
next_part settings mappings part (local.AwaitStopped pasid) = host.await_stopped part pasid (slice_get part.rows pasid)
next_part settings mappings part (local.AwaitPassed pasid thread) = host.await_passed part pasid thread
next_part settings mappings part local.AwaitQueue = host.await_queue part
next_part settings mappings part (local.AwaitQueueOf pasid) = host.await_queue_of part pasid
next_part settings mappings part (local.AwaitGroups pasid) = host.await_groups part pasid
next_part settings mappings part local.AwaitResets = host.await_resets part
next_part settings mappings part (local.Turn control on) = Some (device.turned part control on)
next_part settings mappings part local.AwaitIdle = host.await_idle part
next_part settings mappings part local.AwaitGone = host.await_gone part
next_part settings mappings part local.Serve = host.serve part (slice_get part.arrived 0)
next_part settings mappings part (local.Respond pasid index fails) = Some (host.respond part pasid index fails)
next_part settings mappings part (local.RespondAll pasid fails) = Some (host.respond_all part pasid fails)
next_part settings mappings part (local.Discard pasid) = Some (host.discard part pasid)
next_part settings mappings part (local.FreePasid pasid) = host.free_pasid part pasid (slice_get part.rows pasid)
next_part settings mappings part (local.Ask pasid page) = device.ask part pasid page (slice_get part.rows pasid)
next_part settings mappings part (local.Use pasid page) = device.use_of part pasid page
next_part settings mappings part (local.End place) = device.end_use part place (slice_get part.works place)
next_part settings mappings part (local.Evict pasid page) = device.evict part (position (is_of pasid page) part.held)
next_part settings mappings part (local.Fault pasid page write last) =
    device.fault part pasid page write last (device.fresh_number part) (slice_get part.rows pasid)
next_part settings mappings part (local.More index page write last) = device.more part index page write last (slice_get part.groups index)
next_part settings mappings part (local.Finish place) = device.finish part place (slice_get part.works place)
next_part settings mappings part (local.Pass place) = device.pass settings.stopped part place (slice_get part.works place)
next_part settings mappings part (local.Quit pasid) = device.quit settings.stopped part pasid (slice_get part.rows pasid)
next_part settings mappings part local.Leave = device.leave part
next_part settings mappings part local.Pump = unit.pump settings part
next_part settings mappings part (local.PumpAt place) = unit.pump_at settings part place
next_part settings mappings part (local.Expire itag silent) = unit.expire settings part itag silent
next_part settings mappings part local.Write = unit.write settings part (slice_get part.received 0)
next_part settings mappings part (local.ForgetEntry place) = unit.forget_entry part place (slice_get part.kept_entries place)
next_part settings mappings part (local.Forget place) = unit.forget part place (slice_get part.kept place)
next_part settings mappings part (local.Deliver place) = deliver settings mappings part place (slice_get part.flight place)

-- ---- in memory

abbrev pub is_other_page : (space page : ℕ) → Mapping → Bool
is_other_page space page mapping = not (is_page space page mapping)

abbrev pub without_page : (space page : ℕ) → List Mapping → List Mapping
without_page space page mappings = filter (is_other_page space page) mappings

-- a page leads to a frame as the frame is now
abbrev pub set_page : Open → (space page frame : ℕ) → (write : Bool) → Option Tenure → Option Open
set_page now space page frame write None = None
set_page now space page frame write (Some tenure) =
    Some (record now {
      mappings = without_page space page now.mappings
          ++ (record { space = space; page = page; target = record { frame = frame; tenure = tenure; write = write } }) ∷ [];
    })

-- another owner has the frame from now on
abbrev pub free_frame : Open → (frame : ℕ) → Option Tenure → Option Open
free_frame now frame None = None
free_frame now frame (Some tenure) = Some (record now { frames = slice_set now.frames frame (record tenure { given = suc tenure.given }) })

-- nobody may write the frame any more by what led to it before
abbrev pub freeze : Open → (frame : ℕ) → Option Tenure → Option Open
freeze now frame None = None
freeze now frame (Some tenure) = Some (record now { frames = slice_set now.frames frame (record tenure { frozen = suc tenure.frozen }) })

-- ---- each act

abbrev pub with_parts : Open → List Part → Open
with_parts now parts = record now { parts = parts }

abbrev pub parts_after : Settings → List Mapping → List Part → (endpoint : ℕ) → LocalAct → Option Part → Option (List Part)
parts_after settings mappings parts endpoint its None = None
parts_after settings mappings parts endpoint its (Some part) = option_map (slice_set parts endpoint) (next_part settings mappings part its)

abbrev pub at_endpoint : Open → (endpoint : ℕ) → LocalAct → Option Open
at_endpoint now endpoint its =
    option_map (with_parts now) (parts_after now.settings now.mappings now.parts endpoint its (slice_get now.parts endpoint))

-- and what the others see of it that stand below the same unit
abbrev pub done_at : Open → (endpoint : ℕ) → LocalAct → Option Open
done_at now endpoint its = shared now.units endpoint its now.parts (at_endpoint now endpoint its)

abbrev pub next_open : Open → Act → Option Open
next_open now act.Mark = Some now
next_open now (act.SetPage space page frame write) = set_page now space page frame write (slice_get now.frames frame)
next_open now (act.ClearPage space page) = Some (record now { mappings = without_page space page now.mappings })
next_open now (act.FreeFrame frame) = free_frame now frame (slice_get now.frames frame)
next_open now (act.Freeze frame) = freeze now frame (slice_get now.frames frame)
next_open now (act.FreeSpace space) = Some (record now { freed = now.freed ++ space ∷ [] })
next_open now (act.FreeDomain space) = Some (record now { domains = now.domains ++ space ∷ [] })
next_open now (act.At endpoint its) = done_at now (about now.units endpoint its (slice_get now.parts endpoint)) its
