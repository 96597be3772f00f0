-- The pages that are asked for and aren't mapped, each once, as they are told one after another.
use Rattle.std.proofs.Common.{◌≡◌, ◌∙◌, ◌==◌, ℕ, Bool, true, false, List, [], ◌∷◌, ◌++◌, append-nil, refl, sym, ap, arith}
use Rattle.std.proofs.Common.{◌+◌, ◌<◌, flat_map, get_or, if◌then◌else◌, length, map, take}
use Rattle.std.specs.Prelude.{◌||◌}
use Rattle.std.specs.List.{list_any}
use Rattle.std.proofs.lemmas.Bool.Decides.{nat_tests}
use Rattle.std.proofs.lemmas.List.{flat_map_more, take_more}
use Rattle.sva_model.specs.Replies.{unseen}
use Rattle.sva_model.specs.Wire.{AskWire, PageWire}
use Rattle.sva_labels.specs.Finding.{is_mapped}
use Rattle.sva_labels.specs.Replying.{new_among}
use Rattle.sva_prq.specs.declared.jobs.Ask.{Ask}
use Rattle.sva_address_spaces.specs.Asked.{asks_seen}
use Rattle.sva_explain.specs.Frames.{page_text}

flipped : (a b : ℕ) → (a == b) ≡ (b == a)
flipped a b = grind (arith, nat_tests)

-- one more is new unless it is seen, or among those before
pub unseen_more : (seen : ℕ → Bool) (qs : List ℕ) (p : ℕ)
    → unseen seen (qs ++ p ∷ []) ≡ unseen seen qs ++ (if seen p || list_any (λ q. q == p) qs then [] else p ∷ [])
unseen_more seen [] p = go (seen p)
  where
    go : (b : Bool) → (if b then [] else p ∷ []) ≡ (if b || false then [] else p ∷ [])
    go true = refl
    go false = refl
unseen_more seen (q ∷ qs) p = go (unseen_more seen qs p) (unseen_more (λ x. x == q || seen x) qs p) (seen q) refl (q == p) refl
  where
    any : Bool
    any = list_any (λ r. r == p) qs

    other : ℕ → Bool
    other = λ x. x == q || seen x

    -- one that is seen counts for itself only where it is the same
    seen_one : (e : Bool) → (q == p) ≡ e → seen q ≡ true → (seen p || any) ≡ (seen p || (e || any))
    seen_one false is seen_q = refl
    seen_one true is seen_q =
        let one : q ≡ p = grind (arith, nat_tests) in
        let seen_p : seen p ≡ true = ap seen (sym one) ∙ seen_q in
        ap (λ b. b || any) seen_p ∙ sym (ap (λ b. b || (true || any)) seen_p)

    turned : (a b c : Bool) → ((a || b) || c) ≡ (b || (a || c))
    turned true true c = refl
    turned true false c = refl
    turned false true c = refl
    turned false false c = refl

    go :
        unseen seen (qs ++ p ∷ []) ≡ unseen seen qs ++ (if seen p || any then [] else p ∷ [])
        → unseen other (qs ++ p ∷ []) ≡ unseen other qs ++ (if (p == q || seen p) || any then [] else p ∷ [])
        → (b : Bool) → seen q ≡ b → (e : Bool) → (q == p) ≡ e
        → (if b then unseen seen (qs ++ p ∷ []) else q ∷ unseen other (qs ++ p ∷ []))
        ≡ (if b then unseen seen qs else q ∷ unseen other qs) ++ (if seen p || (e || any) then [] else p ∷ [])
    go here there true is e same = here ∙ ap (λ b. unseen seen qs ++ (if b then [] else p ∷ [])) (seen_one e same is)
    go here there false is e same =
        ap (λ rs. q ∷ rs) there
        ∙ ap (λ b. q ∷ unseen other qs ++ (if b then [] else p ∷ []))
        (ap (λ a. (a || seen p) || any) (flipped p q ∙ same) ∙ turned e (seen p) any)

-- what was told of those before, and one more
pub told_more : (f : ℕ → List ℕ) (seen : ℕ → Bool) (qs : List ℕ) (p : ℕ) (known : Bool) (before out new : List ℕ)
    → (seen p || list_any (λ q. q == p) qs) ≡ known → out ≡ before ++ flat_map f (unseen seen qs)
    → new ≡ (if known then out else out ++ f p) → new ≡ before ++ flat_map f (unseen seen (qs ++ p ∷ []))
told_more f seen qs p true before out new is so_far was =
    was ∙ so_far
    ∙ ap (λ l. before ++ flat_map f l)
    (sym (append-nil (unseen seen qs)) ∙ sym (ap (λ b. unseen seen qs ++ (if b then [] else p ∷ [])) is) ∙ sym (unseen_more seen qs p))
told_more f seen qs p false before out new is so_far was =
    was ∙ ap (λ o. o ++ f p) so_far ∙ flat_map_more f before (unseen seen qs) p
    ∙ ap (λ l. before ++ flat_map f l)
    (sym (ap (λ b. unseen seen qs ++ (if b then [] else p ∷ [])) is) ∙ sym (unseen_more seen qs p))

-- the pages that requests ask for, in order

abbrev pub pages_asked : List Ask → List ℕ
pages_asked asks = map (λ (ask : AskWire). ask.page) (asks_seen asks)

asked_more : (asks : List Ask) (ask : Ask) → pages_asked (asks ++ ask ∷ []) ≡ pages_asked asks ++ ask.page ∷ []
asked_more [] ask = refl
asked_more (first ∷ asks) ask = ap (λ qs. first.page ∷ qs) (asked_more asks ask)

any_asked : (asks : List Ask) (p : ℕ) → list_any (λ q. q == p) (pages_asked asks) ≡ list_any (λ (ask : Ask). ask.page == p) asks
any_asked [] p = refl
any_asked (first ∷ asks) p = ap (λ b. first.page == p || b) (any_asked asks p)

-- what was told of the first requests, and of one more
pub told_next : (pages : List PageWire) (asks : List Ask) (i : ℕ) (d : Ask) (known : Bool) (before out new : List ℕ) → i < length asks
    → known ≡ (is_mapped pages (get_or asks i d).page || list_any (λ (ask : Ask). ask.page == (get_or asks i d).page) (take i asks))
    → out ≡ before ++ flat_map page_text (new_among pages (asks_seen (take i asks)))
    → new ≡ (if known then out else out ++ page_text (get_or asks i d).page)
    → new ≡ before ++ flat_map page_text (new_among pages (asks_seen (take (i + 1) asks)))
told_next pages asks i d known before out new within is so_far was =
    let ask = get_or asks i d in
    let some = take i asks in
    let known_so : (is_mapped pages ask.page || list_any (λ q. q == ask.page) (pages_asked some)) ≡ known =
    ap (λ b. is_mapped pages ask.page || b) (any_asked some ask.page) ∙ sym is in
    let next : pages_asked (take (i + 1) asks) ≡ pages_asked some ++ ask.page ∷ [] = ap pages_asked (take_more asks i d within) ∙ asked_more some ask in
    told_more page_text (is_mapped pages) (pages_asked some) ask.page known before out new known_so so_far was
    ∙ sym (ap (λ qs. before ++ flat_map page_text (unseen (is_mapped pages) qs)) next)
