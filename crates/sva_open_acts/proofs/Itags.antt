-- The lowest free ITag, from one on.
use Rattle.std.proofs.Common.{◌≡◌, ◌<◌, ◌≤◌, ℕ, suc, ◌+◌, ◌-◌, true, false, List, Some, None, ap, sym, ◌∙◌, refl, arith}
use Rattle.std.specs.Prelude.{if◌then◌else◌}
use Rattle.std.specs.List.{list_any}
use Rattle.sva_open.specs.declared.descriptors.Issued.{Issued}
use Rattle.sva_open.specs.Units.{free_itag, has_itag}

none_left : (issued : List Issued) (itag : ℕ) → free_itag issued 0 itag ≡ None
unfolding free_itag
none_left issued itag = refl

behind_busy : (issued : List Issued) (many itag : ℕ) → list_any (has_itag itag) issued ≡ true
    → free_itag issued (suc many) itag ≡ free_itag issued many (suc itag)
unfolding free_itag
behind_busy issued many itag h = ap (λ b. if b then free_itag issued many (suc itag) else Some itag) h

at_free : (issued : List Issued) (many itag : ℕ) → list_any (has_itag itag) issued ≡ false → free_itag issued (suc many) itag ≡ Some itag
unfolding free_itag
at_free issued many itag h = ap (λ b. if b then free_itag issued many (suc itag) else Some itag) h

pub goes_on : (issued : List Issued) (itag : ℕ) → itag < 32 → list_any (has_itag itag) issued ≡ true
    → free_itag issued (32 - (itag + 1)) (itag + 1) ≡ free_itag issued (32 - itag) itag
goes_on issued itag low h =
    let many : 32 - itag ≡ suc (31 - itag) = omega (arith, low) in
    let fewer : 32 - (itag + 1) ≡ 31 - itag = omega (arith, low) in
    let next : itag + 1 ≡ suc itag = omega arith in
    ap (λ n. free_itag issued n (itag + 1)) fewer ∙ ap (λ n. free_itag issued (31 - itag) n) next
    ∙ sym (behind_busy issued (31 - itag) itag h) ∙ ap (λ n. free_itag issued n itag) (sym many)

pub found : (issued : List Issued) (itag : ℕ) → itag < 32 → list_any (has_itag itag) issued ≡ false
    → free_itag issued (32 - itag) itag ≡ Some itag
found issued itag low h =
    let many : 32 - itag ≡ suc (31 - itag) = omega (arith, low) in
    ap (λ n. free_itag issued n itag) many ∙ at_free issued (31 - itag) itag h

pub found_none : (issued : List Issued) (itag : ℕ) → 32 ≤ itag → free_itag issued (32 - itag) itag ≡ None
found_none issued itag high =
    let none : 32 - itag ≡ 0 = omega (arith, high) in
    ap (λ n. free_itag issued n itag) none ∙ none_left issued itag
