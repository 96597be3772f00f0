-- What is asked of literals, piece after piece.
use Rattle.std.proofs.Common.{◌≡◌, ◌∙◌, ap, sym, List, [], ◌∷◌}
use Rattle.std.specs.List.{fold}

-- a piece of which that is asked
pub fold_next : {A B : Type 0} (f : B → A → B) (old new : B) (piece : A) (all rest : List A) → all ≡ piece ∷ rest
    → new ≡ f old piece → fold f old all ≡ fold f new rest
fold_next f old new piece all rest is taken = ap (fold f old) is ∙ ap (λ b. fold f b rest) (sym taken)

-- the last one
pub fold_end : {A B : Type 0} (f : B → A → B) (old new : B) (piece : A) (all : List A) → all ≡ piece ∷ []
    → new ≡ f old piece → new ≡ fold f old all
fold_end f old new piece all is taken = taken ∙ sym (ap (fold f old) is)
