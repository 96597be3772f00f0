-- Pages in a row that aren't mapped.
use Rattle.std.proofs.Common.{◌≡◌, ◌∙◌, ap, sym, ℕ, suc, ◌+◌, ◌-◌, ◌<◌, ◌≤◌, List, [], ◌++◌, arith, append-nil, append_assoc}
use Rattle.sva_model.specs.Wire.{PageWire}
use Rattle.sva_why.specs.Causes.{unmapped_if, unmapped_lines}

first_page : (pages : List PageWire) (page left rest : ℕ) → left ≡ suc rest
    → unmapped_lines pages page left ≡ unmapped_if pages page ++ unmapped_lines pages (page + 1) rest
unfolding unmapped_lines
first_page pages page left rest is = ap (unmapped_lines pages page) is

no_page : (pages : List PageWire) (page left : ℕ) → left ≡ 0 → unmapped_lines pages page left ≡ []
unfolding unmapped_lines
no_page pages page left is = ap (unmapped_lines pages page) is

-- one page more
pub page_more : (pages : List PageWire) (page count offset : ℕ) (out new whole : List ℕ) → offset < count
    → out ++ unmapped_lines pages (page + offset) (count - offset) ≡ whole → new ≡ out ++ unmapped_if pages (page + offset)
    → new ++ unmapped_lines pages (page + (offset + 1)) (count - (offset + 1)) ≡ whole
page_more pages page count offset out new whole below so_far was =
    let left : count - offset ≡ suc (count - (offset + 1)) = omega (arith, below) in
    let next : page + (offset + 1) ≡ page + offset + 1 = omega arith in
    ap (λ o. o ++ unmapped_lines pages (page + (offset + 1)) (count - (offset + 1))) was
    ∙ ap (λ p. (out ++ unmapped_if pages (page + offset)) ++ unmapped_lines pages p (count - (offset + 1))) next
    ∙ append_assoc out (unmapped_if pages (page + offset)) (unmapped_lines pages (page + offset + 1) (count - (offset + 1)))
    ∙ ap (λ rest. out ++ rest) (sym (first_page pages (page + offset) (count - offset) (count - (offset + 1)) left))
    ∙ so_far

-- none is left
pub page_last : (pages : List PageWire) (page count offset : ℕ) (out whole : List ℕ) → count ≤ offset
    → out ++ unmapped_lines pages (page + offset) (count - offset) ≡ whole → out ≡ whole
page_last pages page count offset out whole past so_far =
    let none : count - offset ≡ 0 = omega (arith, past) in
    sym (append-nil out) ∙ ap (λ rest. out ++ rest) (sym (no_page pages (page + offset) (count - offset) none)) ∙ so_far
