use Rattle.std.proofs.Common.{◌≡◌, ◌<◌, ◌≤◌, ℕ, List, length, Option, None, Some, Bor, refl, sym, ap, ◌∙◌, slice_get, get_or}
use Rattle.std.specs.Prelude.{IfSome, MatchOption, option_copied}
use Rattle.std.specs.List.{HoldsAt}
use Rattle.std.proofs.lemmas.Option.{slice_get_read, slice_get_past}
use Rattle.sva_core.specs.declared.journal.Entry.{Entry}
use Rattle.sva_core.specs.Journal.{History}
use Rattle.sva_core.proofs.journal.Journaled.at.Goals as goal

copied_at : (es : List Entry) (i : ℕ) (r : Option (Bor Entry)) → IfSome r (λ x. x.now ≡ get_or es i x.now)
    → MatchOption r (length es ≤ i) (λ x. (i < length es) × HoldsAt (λ y. x.now ≡ y) es i) → option_copied r ≡ slice_get es i
copied_at es i None is at = sym (slice_get_past es i at)
copied_at es i (Some x) is at = sym (slice_get_read es (length es) i x.now refl at.0 is)

pub returns-clause-entry : goal.returns-clause-entry
returns-clause-entry c =
    c.copied.ensures ∙ (copied_at c.deref.result.now c.args.place c.get.result c.get.ensures.lookup.1 c.get.ensures.lookup.3
    ∙ (ap (λ es. slice_get es c.args.place) c.deref.ensures.value ∙ ap (λ (h : History). slice_get h.entries c.args.place) c.self.view_is))
