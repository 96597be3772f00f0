use Rattle.std.proofs.Common.{◌≡◌, ℕ, Bool, true, false, List, ap, sym, ◌∙◌, arith, length}
use Rattle.std.specs.Prelude.{◌&&◌}
use Rattle.std.specs.List.{list_any}
use Rattle.std.proofs.lemmas.List.{length-map}
use Rattle.sva_frames.specs.Frames.{is_free}
use Rattle.sva_labels.specs.Finding.{page_at, is_free as is_free_place}
use Rattle.sva_labels.specs.Replying.{is_read_only_at}
use Rattle.sva_prq.specs.declared.jobs.Ask.{Ask}
use Rattle.sva_address_spaces.specs.Seen.{page_seen, pages_seen, places_seen}
use Rattle.sva_address_spaces.specs.Asked.{asks_seen}
use Rattle.sva_labels.specs.Replying.{writes_read_only}
use Rattle.sva_address_spaces.proofs.FrameLists.{count-seen, is_free-seen}
use Rattle.sva_address_spaces.proofs.FreeFrames.{free_count}
use Rattle.sva_address_spaces.proofs.NewPages.{new_few, any_seen}
use Rattle.sva_address_spaces.proofs.Success.{bad_verdict, no_frame, space_full, success_fits}
use Rattle.sva_address_spaces.proofs.asked.may_map_all.Goals as goal

none_writes : (space : List (ℕ × (ℕ × Bool))) (asks : List Ask) (b : Bool)
    → b ≡ list_any (λ ask. ask.write && is_read_only_at (page_at (pages_seen space) ask.page)) asks
    → writes_read_only (pages_seen space) (asks_seen asks) ≡ b
none_writes space asks b is = any_seen (λ ask. ask.write && is_read_only_at (page_at (pages_seen space) ask.page)) asks ∙ sym is

pub returns-then-writes_read_only : goal.returns-then-writes_read_only
returns-then-writes_read_only c = bad_verdict (pages_seen c.args.space.now) (places_seen c.args.pool.now) (asks_seen c.args.asks.now)
    (none_writes c.args.space.now c.args.asks.now true c.if-writes_read_only.ensures)

pub returns-then-counts-needed : goal.returns-then-counts-needed
returns-then-counts-needed c =
    no_frame (pages_seen c.args.space.now) (places_seen c.args.pool.now) (asks_seen c.args.asks.now) c.counts.result.free c.len-needed.result
    (none_writes c.args.space.now c.args.asks.now false c.if-writes_read_only.ensures)
    (c.counts.ensures.free ∙ count-seen is_free is_free_place is_free-seen c.args.pool.now ∙ sym (free_count 0 (places_seen c.args.pool.now)))
    (c.len-needed.ensures.value ∙ ap length c.new_pages.ensures) c.if-counts-needed.true

pub returns-then-len-needed : goal.returns-then-len-needed
returns-then-len-needed c =
    space_full (pages_seen c.args.space.now) (places_seen c.args.pool.now) (asks_seen c.args.asks.now) c.counts.result.free c.len-needed.result c.len.result
    (none_writes c.args.space.now c.args.asks.now false c.if-writes_read_only.ensures)
    (c.counts.ensures.free ∙ count-seen is_free is_free_place is_free-seen c.args.pool.now ∙ sym (free_count 0 (places_seen c.args.pool.now)))
    (c.len-needed.ensures.value ∙ ap length c.new_pages.ensures) c.if-counts-needed.false
    (c.len.ensures.len ∙ sym (length-map c.args.space.now page_seen)) c.if-len-needed.true

pub returns : goal.returns
returns c =
    let few = new_few (pages_seen c.args.space.now) c.args.asks.now in
    let needs = c.len-needed.ensures.value ∙ ap length c.new_pages.ensures in
    success_fits (pages_seen c.args.space.now) (places_seen c.args.pool.now) (asks_seen c.args.asks.now) c.counts.result.free c.len-needed.result c.len.result
    (none_writes c.args.space.now c.args.asks.now false c.if-writes_read_only.ensures)
    (c.counts.ensures.free ∙ count-seen is_free is_free_place is_free-seen c.args.pool.now ∙ sym (free_count 0 (places_seen c.args.pool.now)))
    needs c.if-counts-needed.false (c.len.ensures.len ∙ sym (length-map c.args.space.now page_seen)) (omega (arith, few, needs)) c.if-len-needed.false
