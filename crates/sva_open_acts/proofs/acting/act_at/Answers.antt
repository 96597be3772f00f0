use Rattle.std.proofs.Common.{List, subst}
use Rattle.std.specs.Prelude.{slice_get}
use Rattle.sva_search.specs.Rules.{IsStep}
use Rattle.sva_open.specs.declared.frames.Mapping.{Mapping}
use Rattle.sva_open.specs.World.{Open}
use Rattle.sva_open.specs.Acts.{parts_after}
use Rattle.sva_open_acts.proofs.Stepped.{at_done}
use Rattle.sva_open_acts.proofs.acting.act_at.Goals as goal

pub returns : goal.returns
returns c =
    let seen : Open =
    record {
      settings = c.now.inside.settings;
      mappings = c.now.inside.mappings.items;
      frames = c.now.inside.frames.items;
      freed = c.now.inside.freed.items;
      domains = c.now.inside.domains.items;
      parts = c.now.inside.parts.items;
      units = c.now.inside.units.items;
    } in
    let step =
    subst
    (λ (mappings : List Mapping). IsStep (parts_after seen.settings mappings seen.parts c.args.endpoint c.args.act.now
    (slice_get seen.parts c.args.endpoint)) c.in_ok-done.done seen.parts c.act_in.new.parts.items)
    c.as_slice.ensures.value c.in_ok-done.ensures in
    rw⁻¹ c.now.view_is (at_done seen c.args.endpoint c.args.act.now c.in_ok-done.done c.act_in.new.parts.items step)
