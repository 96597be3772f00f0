use Rattle.std.proofs.Common.{ℕ, Bool, Option, sym, ap, ◌∙◌}
use Rattle.std.specs.Prelude.{option_map}
use Rattle.sva_labels.specs.Replying.{is_read_only_at}
use Rattle.sva_address_spaces.specs.Seen.{page_seen}
use Rattle.sva_address_spaces.proofs.PageLists.{page_at-seen}
use Rattle.sva_address_spaces.proofs.asked.is_read_only.Goals as goal

pub returns-in-Some : goal.returns-in-Some
returns-in-Some c =
    ap (λ (o : Option (ℕ × Bool)). is_read_only_at (option_map (λ (m : ℕ × Bool). page_seen (c.args.page, m)) o)) c.in-Some.ensures.value
    ∙ sym (ap is_read_only_at (page_at-seen c.args.space.now c.args.page))

pub returns-in-None : goal.returns-in-None
returns-in-None c =
    ap (λ (o : Option (ℕ × Bool)). is_read_only_at (option_map (λ (m : ℕ × Bool). page_seen (c.args.page, m)) o)) c.in-None.ensures.value
    ∙ sym (ap is_read_only_at (page_at-seen c.args.space.now c.args.page))
