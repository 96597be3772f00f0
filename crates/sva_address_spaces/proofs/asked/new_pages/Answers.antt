use Rattle.std.proofs.Common.{ℕ, ◌==◌, false, List, [], ◌∷◌, ◌++◌, length, get_or, take, sym, ap, ◌∙◌, arith, if◌then◌else◌}
use Rattle.std.specs.Prelude.{◌||◌}
use Rattle.std.specs.List.{list_any}
use Rattle.std.proofs.lemmas.List.{length-take}
use Rattle.arrayvec.specs.ArrayVec.{ArrayVec}
use Rattle.sva_labels.specs.Finding.{is_mapped}
use Rattle.sva_prq.specs.declared.jobs.Ask.{Ask}
use Rattle.sva_address_spaces.specs.Seen.{pages_seen}
use Rattle.sva_address_spaces.proofs.NewPages.{new_few, listed_more, all_listed}
use Rattle.sva_address_spaces.proofs.asked.new_pages.Goals.{then-not-is_known, else-not-is_known}
use Rattle.sva_address_spaces.proofs.asked.new_pages.Goals as goal

pub push-requires : goal.push-requires
push-requires c =
    let few = new_few (pages_seen c.args.space.now) (take c.loop-ask.ask-index c.args.asks.now) in
    let long = ap length c.loop-ask.invariant in
    let most = length-take c.loop-ask.ask-index c.args.asks.now in
    (omega arith, omega (arith, few, long, most))

-- what stands past the end
blank : Ask
blank = record { page = 0; read = false; write = false }

pub loop-ask-preserved : goal.loop-ask-preserved
unfolding blank
loop-ask-preserved c =
    let pages = pages_seen c.args.space.now in
    let asks = c.args.asks.now in
    let known = c.is_known.ensures
    ∙ ap (λ (ps : List ℕ). is_mapped pages (get_or asks c.loop-ask.ask-index blank).page || list_any
    (λ q. q == (get_or asks c.loop-ask.ask-index blank).page) ps) c.deref.ensures.0 in
    elim c.if-not-is_known.branch [
      | then-not-is_known w ↦ listed_more pages asks c.loop-ask.ask-index blank c.loop-ask.pages.items c.if-not-is_known.pages.items c.is_known.result
          (omega arith) c.loop-ask.invariant known
          (ap (λ (v : ArrayVec ℕ). v.items) w.pages-is ∙ w.push.ensures.items
          ∙ sym (ap (λ b. if b then c.loop-ask.pages.items else c.loop-ask.pages.items
          ++ (get_or asks c.loop-ask.ask-index blank).page ∷ []) w.if-not-is_known.true))
      | else-not-is_known w ↦ listed_more pages asks c.loop-ask.ask-index blank c.loop-ask.pages.items c.if-not-is_known.pages.items c.is_known.result
          (omega arith) c.loop-ask.invariant known
          (ap (λ (v : ArrayVec ℕ). v.items) w.pages-is
          ∙ sym (ap (λ b. if b then c.loop-ask.pages.items else c.loop-ask.pages.items
          ++ (get_or asks c.loop-ask.ask-index blank).page ∷ []) w.if-not-is_known.false))
    ]

pub returns : goal.returns
returns c = all_listed (pages_seen c.args.space.now) c.args.asks.now c.loop-ask.ask-index c.loop-ask.pages.items (omega arith) c.loop-ask.invariant
