-- The answers that claims count, one after another.
use Rattle.std.proofs.Common.{◌≡◌, ◌∙◌, ◌<◌, ◌≤◌, ◌+◌, ap, sym, ℕ, List, [], ◌∷◌, ◌++◌, flat_map, get_or, length, map, take}
use Rattle.std.specs.Global.{Global}
use Rattle.std.specs.Prelude.{Vec}
use Rattle.std.proofs.lemmas.List.{flat_map_more, take_all, take_more}
use Rattle.std.proofs.lemmas.List.Folds.{flat_map-map}
use Rattle.sva_race_texts.specs.declared.terms.claims.Claim.{Claim}
use Rattle.sva_race_texts.specs.declared.terms.claims.Literal.{Literal}
use Rattle.sva_race_texts.specs.Seen.{atom_seen, condition_seen, literal_seen, literals_seen}
use Rattle.sva_race_texts.specs.Devices.{CountSaid, counts_in, counts_of_condition, counts_of_literals}
use Rattle.sva_race_texts.specs.Readings.{claim_seen, counts_of}

-- what is counted of what is kept
abbrev pub of_literal : Literal → List CountSaid
of_literal literal = counts_in (atom_seen literal.atom)

abbrev pub of_literals : Vec Literal Global → List CountSaid
of_literals literals = counts_of_literals (literals_seen literals)

abbrev pub of_claim : Claim → List CountSaid
of_claim claim = counts_of_condition (condition_seen claim.condition)

pub flat_next : {A C : Type 0} (g : C → List A) (xs : List C) (k : ℕ) (x : C) (start old new : List A) → k < length xs → get_or xs k x ≡ x
    → new ≡ old ++ g x → old ≡ start ++ flat_map g (take k xs) → new ≡ start ++ flat_map g (take (k + 1) xs)
flat_next g xs k x start old new below is next was =
    next ∙ ap (λ l. l ++ g x) was ∙ flat_map_more g start (take k xs) x
    ∙ ap (λ l. start ++ flat_map g l) (sym (take_more xs k x below ∙ ap (λ y. take k xs ++ y ∷ []) is))

pub flat_end : {A C : Type 0} (g : C → List A) (xs : List C) (k : ℕ) (start old : List A) → length xs ≤ k → old ≡ start ++ flat_map g (take k xs)
    → old ≡ start ++ flat_map g xs
flat_end g xs k start old past was = was ∙ ap (λ l. start ++ flat_map g l) (take_all k xs past)

-- as they are kept, and as they are seen
pub literals_counted : (literals : Vec Literal Global) (found : List Literal) → found ≡ literals.items
    → flat_map of_literal found ≡ counts_of_literals (literals_seen literals)
literals_counted literals found is =
    ap (flat_map of_literal) is
    ∙ sym (flat_map-map (λ literal. counts_in literal.atom) literal_seen literals.items)

pub condition_counted : (condition : Vec (Vec Literal Global) Global) (found : List (Vec Literal Global)) → found ≡ condition.items
    → flat_map of_literals found ≡ counts_of_condition (condition_seen condition)
condition_counted condition found is =
    ap (flat_map of_literals) is
    ∙ sym (flat_map-map counts_of_literals literals_seen condition.items)

pub claims_counted : (claims : List Claim)
    → flat_map of_claim claims ≡ counts_of (map claim_seen claims)
claims_counted claims = sym (flat_map-map (λ claim. counts_of_condition claim.condition) claim_seen claims)
