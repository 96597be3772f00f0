use Rattle.std.proofs.Common.{◌∙◌, ap, sym, ℕ, Bool, List}
use Rattle.std.specs.BTreeMap.{insert_entry}
use Rattle.std.specs.Ordering.{nat_cmp}
use Rattle.sva_space.proofs.Mappings.{put_back}
use Rattle.sva_space.proofs.pages.Space.map_new.Goals as goal

pub returns-in-Ok-Some-new-clause-same : goal.returns-in-Ok-Some-new-clause-same
returns-in-Ok-Some-new-clause-same c =
    c.in-Ok-Some-new.ensures.entries
    ∙ ap (λ (ms : List (ℕ × (ℕ × Bool))). insert_entry nat_cmp ms c.args.page c.in-Ok-Some.before) c.in-Ok-Some.ensures.entries
    ∙ put_back c.args.page (c.args.frame, c.args.write) c.in-Ok-Some.before c.self.inside.pages.entries c.self.invariant
    (sym c.in-Ok-Some.field-0-is ∙ c.in-Ok-Some.ensures.old)
    ∙ c.self.view_is
