-- Texts one behind another.
use Rattle.std.proofs.Common.{◌≡◌, ◌∙◌, ap, ℕ, List, ◌++◌, append_assoc}

-- a text, and behind it another
pub joined : (old between new first second : List ℕ) → between ≡ old ++ first → new ≡ between ++ second → new ≡ old ++ (first ++ second)
joined old between new first second is was = was ∙ ap (λ o. o ++ second) is ∙ append_assoc old first second
