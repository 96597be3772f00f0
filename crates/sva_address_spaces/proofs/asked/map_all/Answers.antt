use Rattle.std.proofs.Common.{◌≡◌, ◌==◌, ◌<◌, ℕ, Bool, List, None, length, get_or, sym, ap, subst, ◌∙◌, arith}
use Rattle.std.specs.Prelude.{◌&&◌}
use Rattle.sva_space.specs.Pages.{mapping_at}
use Rattle.sva_address_spaces.specs.Seen.{pages_seen, places_seen}
use Rattle.sva_address_spaces.specs.Asked.{asks_seen, MapsNew}
use Rattle.sva_address_spaces.proofs.NewPages.{any_seen}
use Rattle.sva_address_spaces.proofs.Success.{frames_enough}
use Rattle.sva_address_spaces.proofs.Mapping.{none_mapped, next_missing, has_frame, one_more_mapped}
use Rattle.sva_address_spaces.proofs.asked.map_all.Goals as goal

pub loop-number-init : goal.loop-number-init
loop-number-init c =
    none_mapped (asks_seen c.args.asks.now) c.new_pages-pages.result.items c.args.space.now c.args.pool.now c.new_pages-pages.ensures
    c.len-mapped.ensures.rising
    (frames_enough (pages_seen c.args.space.now) (places_seen c.args.pool.now) (asks_seen c.args.asks.now) c.requires.may)

pub map_new-requires-clause-new : goal.map_new-requires-clause-new
map_new-requires-clause-new c =
    let within : c.loop-number.number < length c.new_pages-pages.result.items = omega arith in
    subst (λ (qs : List ℕ). mapping_at c.loop-number.space (get_or qs c.loop-number.number 0) ≡ None) (sym c.deref.ensures.0)
    (next_missing (asks_seen c.args.asks.now) c.new_pages-pages.result.items c.args.space.now c.args.pool.now c.loop-number.number c.loop-number.space
    c.loop-number.pool within c.loop-number.invariant)

pub map_new-requires-clause-frame : goal.map_new-requires-clause-frame
map_new-requires-clause-frame c =
    let within : c.loop-number.number < length c.new_pages-pages.result.items = omega arith in
    has_frame (asks_seen c.args.asks.now) c.new_pages-pages.result.items c.args.space.now c.args.pool.now c.loop-number.number c.loop-number.space
    c.loop-number.pool within c.loop-number.invariant

pub loop-number-preserved : goal.loop-number-preserved
loop-number-preserved c =
    let within : c.loop-number.number < length c.new_pages-pages.result.items = omega arith in
    let page : ℕ = get_or c.deref.result.now c.loop-number.number 0 in
    one_more_mapped (asks_seen c.args.asks.now) c.new_pages-pages.result.items c.args.space.now c.args.pool.now c.loop-number.number c.loop-number.space
    c.loop-number.pool page c.map_new.new.space c.map_new.new.pool
    within (ap (λ (qs : List ℕ). get_or qs c.loop-number.number 0) c.deref.ensures.0) c.loop-number.invariant
    (subst (λ (x : Bool). MapsNew c.loop-number.space c.loop-number.pool page x c.map_new.new.space c.map_new.new.pool)
    (c.is_write_asked.ensures ∙ sym (any_seen (λ ask. ask.page == page && ask.write) c.args.asks.now)) c.in_default.ensures.ok)
    c.in_default.ensures.rising

pub returns-in-Err-clause-none : goal.returns-in-Err-clause-none
returns-in-Err-clause-none c none =
    let within : c.loop-number.number < length c.new_pages-pages.result.items = omega arith in
    absurd (omega (arith, within, ap length (c.new_pages-pages.ensures ∙ none)))
