use Rattle.std.proofs.Common.{◌≡◌, ◌∙◌, ap, arith, length, map, vec_len}
use Rattle.sva_open.specs.World.{opened}
use Rattle.sva_open.specs.declared.settings.Settings.{Settings}
use Rattle.sva_driver_words.specs.Awaits.{line_seen}
use Rattle.sva_driver_texts.specs.Devices.{device_seen}
use Rattle.sva_driver_texts.specs.Readings.{Reading}
use Rattle.sva_driver_texts.specs.Pasids.{pasids_of}
use Rattle.sva_driver_texts.specs.Plans.{planned_from}
use Rattle.sva_driver_texts.specs.Texts.{conduct_of, done_of, told_of, with_workers}
use Rattle.sva_driver_texts.specs.Ways.{firsts_of, ways_of}
use Rattle.sva_driver_texts.proofs.Anys.{map_twice}
use Rattle.sva_driver_texts.proofs.Openings.{as_many, by_view, start_by}
use Rattle.sva_driver_texts.proofs.WayLemmas.{as_many_ways}
use Rattle.sva_driver_texts.proofs.opening.opening_of.Goals as goal

pub lines_of-requires : goal.lines_of-requires
lines_of-requires c =
    as_many_ways c.reading.inside.lines.items c.as_slice.result.now c.in_ok-at.ways.items c.as_slice-acts.result.now
    c.as_slice.ensures.value c.in_ok-at.ensures.ways c.as_slice-acts.ensures.value

pub returns-clause-driver : goal.returns-clause-driver
returns-clause-driver c =
    let lines = c.reading.inside.lines.items in
    let own = c.reading.inside.devices.items in
    let acts = c.as_slice-acts.ensures.value in
    let locks : vec_len c.reading.inside.locks ≡ length c.reading.inside.locks.items = omega (arith, c.reading.inside.locks.ok.0) in
    let flags : vec_len c.reading.inside.flags ≡ length c.reading.inside.flags.items = omega (arith, c.reading.inside.flags.ok.0) in
    by_view c.args.config.now _ c.args.reading _ c.reading.view_is
    (record {
      start = start_by c.args.config.now c.with_workers-settings.result _ own _ c.reading.inside.units.items (pasids_of (map line_seen lines))
          c.pasids_of-pasids.result c.in_ok-start.start c.in_ok-start.ensures c.as_slice-own.ensures.value c.as_slice-shared.ensures.value
          (c.pasids_of-pasids.ensures ∙ (λ i. pasids_of (map line_seen (acts i))))
          ∙ ap (λ (settings : Settings). opened settings (map conduct_of (map device_seen own)) c.reading.inside.units.items
          (pasids_of (map line_seen lines)) c.args.config.now.frames)
          (c.with_workers-settings.ensures ∙ ap (with_workers c.reading.inside.settings) c.workers_or-workers.ensures);
      lines = c.in_ok-lines.ensures.lines ∙ map_twice done_of line_seen lines;
      ways = c.in_ok-lines.ensures.ways ∙ c.as_slice.ensures.value ∙ c.in_ok-at.ensures.ways ∙ (λ i. ways_of (map line_seen (acts i)));
      taken = as_many line_seen lines _ _ c.in_ok-taken.ensures (ap length acts);
      at = c.in_ok-at.ensures.firsts ∙ (λ i. firsts_of (map line_seen (acts i)));
      locked = as_many (λ lock. lock.items) c.reading.inside.locks.items _ _ c.in_ok-locked.ensures (c.len.ensures ∙ locks);
      flags = as_many (λ flag. flag.items) c.reading.inside.flags.items _ _ c.in_ok-flags.ensures (c.len-2.ensures ∙ flags);
      devices = c.in_ok-devices.ensures
          ∙ (λ i. planned_from (map line_seen (acts i)) 0 (map device_seen (c.as_slice-own.ensures.value i)));
      workers = c.workers_or-workers.ensures;
    })

pub returns-clause-said : goal.returns-clause-said
returns-clause-said c =
    c.in_ok-lines.ensures.said ∙ map_twice told_of line_seen c.reading.inside.lines.items
    ∙ ap (λ (reading : Reading). map told_of reading.lines) c.reading.view_is
