-- A step that no cause refuses.
use Rattle.std.proofs.Common.{◌≡◌, true, false, not, List, [], ◌∷◌, refl}
use Rattle.std.specs.Prelude.{is_ok}
use Rattle.std.specs.List.{list_any}
use Rattle.sva_model.specs.Refusals.{Cause}
use Rattle.sva_labels.specs.Host.{checked}
use Rattle.sva_labels.specs.Outcomes as outcomes

pub checked_ok : (causes : List Cause) (result : outcomes.Result) → not (list_any (λ (cause : Cause). cause.0) causes) ≡ true
    → is_ok (checked causes result).reply ≡ true
checked_ok [] result none = refl
checked_ok ((false, refusal) ∷ causes) result none = checked_ok causes result none
checked_ok ((true, refusal) ∷ causes) result none = absurd (cc)
