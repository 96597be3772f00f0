-- Blocks that are open, one after another.
use Rattle.std.proofs.Common.{◌≡◌, ◌∙◌, ◌<◌, ◌≤◌, ◌+◌, ap, refl, sym, ℕ, zero, suc, Bool, true, false, cond, List, [], ◌∷◌, ◌++◌}
use Rattle.std.proofs.Common.{append-nil, append_assoc, arith, drop, get_or, length, map}
use Rattle.std.specs.Prelude.{Option, Some, None, Result, Ok, codes, filter, remove, slice_get, slice_set}
use Rattle.std.specs.Str.{bytes_eq}
use Rattle.std.proofs.lemmas.List.{drop_all, drop_more}
use Rattle.sva_script.specs.Names.{Known}
use Rattle.sva_driver_words.specs.Faults.{wrong_at}
use Rattle.sva_driver_words.specs.declared.faults.BranchWanted.TheVariants as branch
use Rattle.sva_driver_words.specs.declared.faults.DriverWanted.TheVariants as wanted
use Rattle.sva_driver_words.specs.declared.faults.DriverWrong.{DriverWrong}
use Rattle.sva_driver_words.specs.declared.kept.Under.{Under}
use Rattle.sva_driver_texts.specs.Blocks.{BlockSaid, block_seen, branched, else_at, end_at, has_line_of, last_of}
use Rattle.sva_driver_texts.specs.Blocks.{open_text, open_texts, turned, turned_at, under_of, under_one}
use Rattle.sva_driver_texts.specs.declared.blocks.Block.{Block}
use Rattle.sva_driver_texts.proofs.Anys.{put_seen}

abbrev pub seen : List Block → List BlockSaid
seen blocks = map block_seen blocks

-- ---- Those in which a line stands, with those that are left

split : (is_one : Bool) (block : BlockSaid) (left : List BlockSaid)
    → map (λ one. one.under) (cond is_one (block ∷ left) left) ≡ cond is_one (block.under ∷ []) [] ++ map (λ one. one.under) left
split true block left = refl
split false block left = refl

pub under_next : (thread : List ℕ) (blocks : List Block) (i : ℕ) (blank : Block) (old new whole : List Under) → i < length blocks
    → new ≡ old ++ under_one thread (block_seen (get_or blocks i blank))
    → old ++ under_of thread (seen (drop i blocks)) ≡ whole → new ++ under_of thread (seen (drop (i + 1) blocks)) ≡ whole
under_next thread blocks i blank old new whole inside is so_far =
    let block = block_seen (get_or blocks i blank) in
    let left = seen (drop (i + 1) blocks) in
    ap (λ l. l ++ under_of thread left) is ∙ append_assoc old (under_one thread block) (under_of thread left)
    ∙ sym (ap (λ l. old ++ under_of thread (seen l)) (drop_more blocks i blank inside)
    ∙ ap (λ l. old ++ l) (split (has_line_of thread block) block (filter (has_line_of thread) left)))
    ∙ so_far

pub under_end : (thread : List ℕ) (blocks : List Block) (i : ℕ) (old whole : List Under) → length blocks ≤ i
    → old ++ under_of thread (seen (drop i blocks)) ≡ whole → old ≡ whole
under_end thread blocks i old whole past so_far =
    sym (append-nil old) ∙ sym (ap (λ l. old ++ under_of thread (seen l)) (drop_all i blocks past)) ∙ so_far

-- ---- The one at a place

get_past : {A B : Type 0} (f : A → B) (list : List A) (place : ℕ) → length list ≤ place → slice_get (map f list) place ≡ None
get_past f [] place past = refl
get_past f (x ∷ xs) zero past = absurd (omega (arith, past))
get_past f (x ∷ xs) (suc place) past = get_past f xs place (omega (arith, past))

get_at : {A B : Type 0} (f : A → B) (list : List A) (place : ℕ) (blank : A) → place < length list
    → slice_get (map f list) place ≡ Some (f (get_or list place blank))
get_at f [] place blank inside = absurd (omega (arith, inside))
get_at f (x ∷ xs) zero blank inside = refl
get_at f (x ∷ xs) (suc place) blank inside = get_at f xs place blank (omega (arith, inside))

pub any_default : {A : Type 0} (list : List A) (place : ℕ) (one two : A) → place < length list → get_or list place one ≡ get_or list place two
any_default [] place one two inside = absurd (omega (arith, inside))
any_default (x ∷ xs) zero one two inside = refl
any_default (x ∷ xs) (suc place) one two inside = any_default xs place one two (omega (arith, inside))

-- `else` in it
pub turned_past : (blocks : List Block) (place : ℕ) → length blocks ≤ place
    → turned_at (seen blocks) place (slice_get (seen blocks) place) ≡ wrong_at 0 (wanted.Branch branch.If)
turned_past blocks place past = ap (turned_at (seen blocks) place) (get_past block_seen blocks place past)

pub turned_twice : (blocks : List Block) (place : ℕ) (blank : Block) → place < length blocks → (get_or blocks place blank).under.so ≡ false
    → turned_at (seen blocks) place (slice_get (seen blocks) place) ≡ wrong_at 0 (wanted.Branch branch.NoElse)
turned_twice blocks place blank inside behind =
    let block = block_seen (get_or blocks place blank) in
    ap (turned_at (seen blocks) place) (get_at block_seen blocks place blank inside)
    ∙ ap (λ so. cond so (Ok (slice_set (seen blocks) place (turned block))) (wrong_at 0 (wanted.Branch branch.NoElse))) behind

pub turned_once : (blocks new : List Block) (place : ℕ) (blank one : Block) → place < length blocks → (get_or blocks place blank).under.so ≡ true
    → block_seen one ≡ turned (block_seen (get_or blocks place blank)) → new ≡ slice_set blocks place one
    → turned_at (seen blocks) place (slice_get (seen blocks) place) ≡ Ok (seen new)
turned_once blocks new place blank one inside first is behind =
    let block = block_seen (get_or blocks place blank) in
    ap (turned_at (seen blocks) place) (get_at block_seen blocks place blank inside)
    ∙ ap (λ so. cond so (Ok (slice_set (seen blocks) place (turned block))) (wrong_at 0 (wanted.Branch branch.NoElse))) first
    ∙ ap Ok (sym (put_seen block_seen blocks new place one (turned block) behind is))

-- the others
pub removed_seen : {A B : Type 0} (f : A → B) (list : List A) (place : ℕ) → map f (remove list place) ≡ remove (map f list) place
removed_seen f [] zero = refl
removed_seen f [] (suc place) = refl
removed_seen f (x ∷ xs) zero = refl
removed_seen f (x ∷ xs) (suc place) = ap (λ l. f x ∷ l) (removed_seen f xs place)

pub removed_nowhere : {A B : Type 0} (f : A → B) (list : List A) (place : ℕ) → length list ≤ place → map f list ≡ remove (map f list) place
removed_nowhere f [] zero past = refl
removed_nowhere f [] (suc place) past = refl
removed_nowhere f (x ∷ xs) zero past = absurd (omega (arith, past))
removed_nowhere f (x ∷ xs) (suc place) past = ap (λ l. f x ∷ l) (removed_nowhere f xs place (omega (arith, past)))

-- ---- `else` and `end`, of the one that was opened last

both : {A : Type 0} (b : Bool) (one : A) → cond b one one ≡ one
both true one = refl
both false one = refl

abbrev by_last : List BlockSaid → Bool → Option ℕ → Result (List BlockSaid) DriverWrong
by_last blocks is_else found = cond is_else (else_at blocks found) (end_at blocks found)

pub none_open : (blocks : List BlockSaid) (thread word : List ℕ) → last_of thread blocks ≡ None
    → branched blocks thread word ≡ wrong_at 0 (wanted.Branch branch.If)
none_open blocks thread word none =
    let is_else = bytes_eq word (codes "else") in
    ap (by_last blocks is_else) none ∙ both is_else (wrong_at 0 (wanted.Branch branch.If))

pub else_in : (blocks : List BlockSaid) (thread word : List ℕ) (place : ℕ) → last_of thread blocks ≡ Some place
    → bytes_eq word (codes "else") ≡ true → branched blocks thread word ≡ else_at blocks (Some place)
else_in blocks thread word place is said =
    ap (by_last blocks (bytes_eq word (codes "else"))) is ∙ ap (λ so. by_last blocks so (Some place)) said

pub end_in : (blocks : List BlockSaid) (thread word : List ℕ) (place : ℕ) → last_of thread blocks ≡ Some place
    → bytes_eq word (codes "else") ≡ false → branched blocks thread word ≡ Ok (remove blocks place)
end_in blocks thread word place is said =
    ap (by_last blocks (bytes_eq word (codes "else"))) is ∙ ap (λ so. by_last blocks so (Some place)) said

-- ---- Those that aren't ended

pub open_next : (known : Known) (blocks : List Block) (i : ℕ) (blank : Block) (old new whole : List ℕ) → i < length blocks
    → new ≡ old ++ open_text known (block_seen (get_or blocks i blank))
    → old ++ open_texts known (seen (drop i blocks)) ≡ whole → new ++ open_texts known (seen (drop (i + 1) blocks)) ≡ whole
unfolding open_texts
open_next known blocks i blank old new whole inside is so_far =
    let text = open_text known (block_seen (get_or blocks i blank)) in
    let left = open_texts known (seen (drop (i + 1) blocks)) in
    ap (λ l. l ++ left) is ∙ append_assoc old text left
    ∙ sym (ap (λ l. old ++ open_texts known (seen l)) (drop_more blocks i blank inside)) ∙ so_far

pub open_end : (known : Known) (blocks : List Block) (i : ℕ) (old whole : List ℕ) → length blocks ≤ i
    → old ++ open_texts known (seen (drop i blocks)) ≡ whole → old ≡ whole
unfolding open_texts
open_end known blocks i old whole past so_far =
    sym (append-nil old) ∙ sym (ap (λ l. old ++ open_texts known (seen l)) (drop_all i blocks past)) ∙ so_far
