-- The answers to a map and an unmap, by the tests that were made.
use Rattle.std.proofs.Common.{◌≡◌, ℕ, ◌+◌, ◌<◌, ◌≤◌, ◌^◌, ◌==◌, Bool, true, false, List, Option, Some, None, [], ◌∷◌, length, set, refl, sym, ap, subst}
use Rattle.std.proofs.Common.{◌∙◌, arith, if◌then◌else◌}
use Rattle.std.specs.Prelude.{nat_lt, nat_le, is_ok, Ok, Err, is_some}
use Rattle.std.specs.List.{position}
use Rattle.std.proofs.lemmas.Bool.Decides.{nat_tests}
use Rattle.std.proofs.lemmas.List.{length-map}
use Rattle.sva_step.specs.declared.answers.Answer.TheVariants as answer
use Rattle.sva_step.specs.declared.refusals.Refusal.{Refusal}
use Rattle.sva_step.specs.declared.refusals.Refusal.TheVariants as refusal
use Rattle.sva_space.specs.Pages.{mapping_at, unmapped_by, with_page}
use Rattle.sva_frames.specs.Frames.{Holding, Free, Mapped, is_free}
use Rattle.sva_model.specs.Wire.{PageWire, PlaceWire}
use Rattle.sva_labels.specs.Finding.{is_mapped, lowest_free}
use Rattle.sva_address_spaces.specs.Seen.{page_seen, pages_seen, places_seen}
use Rattle.sva_address_spaces.specs.Pieces.{map_reply, MapsPage}
use Rattle.sva_model.specs.Refusals.{unless_refused}
use Rattle.sva_address_spaces.proofs.PageLists.{is_mapped-seen, pages_seen-insert}
use Rattle.sva_address_spaces.proofs.FrameLists.{lowest_free-some, lowest_free-none, length-seen, some-within, places_seen-set, taken_given, first-free}

in_range-page : (q : ℕ) → q < 2 ^ 36 → nat_lt (2 ^ 36) (q + 1) ≡ false
in_range-page q h = grind (arith, nat_tests)

-- the answer to a map by the four tests
map_reply-is : (places : List PlaceWire) (q : ℕ) (pages : List PageWire) (a b c d : Bool) (f : ℕ) → nat_lt (2 ^ 36) (q + 1) ≡ a → is_mapped pages q
    ≡ b → nat_le 1024 (length pages) ≡ c → (lowest_free places == length places) ≡ d → lowest_free places ≡ f → map_reply places q pages
    ≡ unless_refused ((a, refusal.PageRange) ∷ (b, refusal.Mapped) ∷ (c, refusal.SpaceFull) ∷ (d, refusal.NoFrame) ∷ []) (answer.Frame f)
map_reply-is places q pages a b c d f past there full none lowest = rw (past, there, full, none, lowest) refl

pub none_there : (ms : List (ℕ × (ℕ × Bool))) (q : ℕ) (found : Option (ℕ × Bool)) → found ≡ mapping_at ms q → false ≡ is_some found → mapping_at ms q ≡ None
none_there ms q None value is = sym value
none_there ms q (Some m) value is = absurd (cc)

pub is_unmapped : (ms : List (ℕ × (ℕ × Bool))) (q : ℕ) → mapping_at ms q ≡ None → is_mapped (pages_seen ms) q ≡ false
is_unmapped ms q none = is_mapped-seen ms q ∙ ap is_some none

pub mapped_reply : (ms : List (ℕ × (ℕ × Bool))) (places : List PlaceWire) (q : ℕ) → q < 2 ^ 36 → true ≡ is_some (mapping_at ms q)
    → Err refusal.Mapped ≡ map_reply places q (pages_seen ms)
mapped_reply ms places q range there =
    sym (map_reply-is places q (pages_seen ms) false true _ _ _ (in_range-page q range) (is_mapped-seen ms q ∙ sym there) refl refl refl)

full_test : (ms : List (ℕ × (ℕ × Bool))) (k : ℕ) (b : Bool) → k ≡ length ms → nat_le 1024 k ≡ b → nat_le 1024 (length (pages_seen ms)) ≡ b
full_test ms k b len is = ap (nat_le 1024) (length-map ms page_seen ∙ sym len) ∙ is

at_least : (k : ℕ) → 1024 ≤ k → nat_le 1024 k ≡ true
at_least k h = grind (arith, nat_tests)

less_than : (k : ℕ) → k < 1024 → nat_le 1024 k ≡ false
less_than k h = grind (arith, nat_tests)

pub full_reply : (ms : List (ℕ × (ℕ × Bool))) (places : List PlaceWire) (q k : ℕ) → q < 2 ^ 36 → mapping_at ms q ≡ None → k ≡ length ms → 1024 ≤ k
    → Err refusal.SpaceFull ≡ map_reply places q (pages_seen ms)
full_reply ms places q k range none len full =
    sym (map_reply-is places q (pages_seen ms) false false true _ _ (in_range-page q range) (is_unmapped ms q none)
    (full_test ms k true len (at_least k full)) refl refl)

pub no_frame_reply : (ms : List (ℕ × (ℕ × Bool))) (frames : List Holding) (q k : ℕ) → q < 2 ^ 36 → mapping_at ms q ≡ None → k ≡ length ms → k < 1024
    → position is_free frames ≡ None → Err refusal.NoFrame ≡ map_reply (places_seen frames) q (pages_seen ms)
no_frame_reply ms frames q k range none len few nothing =
    sym (map_reply-is (places_seen frames) q (pages_seen ms) false false false true _ (in_range-page q range) (is_unmapped ms q none)
    (full_test ms k false len (less_than k few))
    (is_equal (lowest_free (places_seen frames)) (length (places_seen frames)) (lowest_free-none frames nothing)) refl)
  where
    is_equal : (a b : ℕ) → a ≡ b → (a == b) ≡ true
    is_equal a b e = grind (arith, nat_tests)

pub frame_reply : (ms : List (ℕ × (ℕ × Bool))) (frames : List Holding) (q k n : ℕ) → q < 2 ^ 36 → mapping_at ms q ≡ None → k ≡ length ms → k < 1024
    → position is_free frames ≡ Some n → Ok (answer.Frame n) ≡ map_reply (places_seen frames) q (pages_seen ms)
frame_reply ms frames q k n range none len few first =
    sym
    (map_reply-is (places_seen frames) q (pages_seen ms) false false false false n (in_range-page q range) (is_unmapped ms q none)
    (full_test ms k false len (less_than k few))
    (apart (lowest_free (places_seen frames)) (length (places_seen frames)) n (length frames) (lowest_free-some frames n first) (length-seen frames)
    (some-within frames n first)) (lowest_free-some frames n first))
  where
    apart : (a b n k : ℕ) → a ≡ n → b ≡ k → n < k → (a == b) ≡ false
    apart a b n k e f h = grind (arith, nat_tests)

-- the page was mapped
pub maps-page : (ms : List (ℕ × (ℕ × Bool))) (frames : List Holding) (q k n number : ℕ) (x : Bool) (ms_after : List (ℕ × (ℕ × Bool)))
    (frames_after : List Holding) → q < 2 ^ 36 → mapping_at ms q ≡ None → k ≡ length ms → k < 1024 → position is_free frames ≡ Some n → number ≡ n
    → ms_after ≡ with_page ms q n x → frames_after ≡ set frames n Mapped
    → MapsPage (pages_seen ms) (places_seen frames) q x (Ok (answer.Frame number)) (pages_seen ms_after) (places_seen frames_after)
maps-page ms frames q k n number x ms_after frames_after range none len few first is_number inserted taken =
    subst (λ (m : ℕ). MapsPage (pages_seen ms) (places_seen frames) q x (Ok (answer.Frame m)) (pages_seen ms_after) (places_seen frames_after))
    (sym is_number) (
      frame_reply ms frames q k n range none len few first,
      (ap pages_seen inserted ∙ pages_seen-insert ms q n x none, ap places_seen taken ∙ places_seen-set frames n Mapped),
    )

-- what was taken was given back
pub given_back : (frames : List Holding) (n given : ℕ) (taken frames_after : List Holding) → position is_free frames ≡ Some n → given ≡ n → taken
    ≡ set frames n Mapped → frames_after ≡ set taken given Free → frames_after ≡ frames
given_back frames n given taken frames_after first same took gave =
    gave ∙ ap (λ (fs : List Holding). set fs given Free) took ∙ ap (λ (m : ℕ). set (set frames n Mapped) m Free) same
    ∙ taken_given frames n (first-free frames n first)

-- there was no memory, and the frame was given back
pub no_memory : (ms : List (ℕ × (ℕ × Bool))) (frames : List Holding) (q k n given : ℕ) (x : Bool) (ms_after : List (ℕ × (ℕ × Bool)))
    (taken frames_after : List Holding) → q < 2 ^ 36 → mapping_at ms q ≡ None → k ≡ length ms → k < 1024 → position is_free frames ≡ Some n → given
    ≡ n → ms_after ≡ ms → taken ≡ set frames n Mapped → frames_after ≡ set taken given Free
    → MapsPage (pages_seen ms) (places_seen frames) q x (Err refusal.OutOfMemory) (pages_seen ms_after) (places_seen frames_after)
no_memory ms frames q k n given x ms_after taken frames_after range none len few first same kept took gave = (
  sym (ap is_ok (frame_reply ms frames q k n range none len few first)),
  ap pages_seen kept,
  ap places_seen (given_back frames n given taken frames_after first same took gave),
)

-- ---- a page that is mapped already is refused for that, before all else

-- where a test refused it that comes behind
pub mapped_or_full : (ms : List (ℕ × (ℕ × Bool))) (places : List PlaceWire) (q k : ℕ) (x : Bool) (why : Refusal) → q < 2 ^ 36 → k ≡ length ms → 1024 ≤ k
    → why ≡ (if is_some (mapping_at ms q) then refusal.Mapped else refusal.SpaceFull)
    → MapsPage (pages_seen ms) places q x (Err why) (pages_seen ms) places
mapped_or_full ms places q k x why range len full is = by_mapping (mapping_at ms q) refl is
  where
    by_mapping : (o : Option (ℕ × Bool)) → mapping_at ms q ≡ o → why ≡ (if is_some o then refusal.Mapped else refusal.SpaceFull)
        → MapsPage (pages_seen ms) places q x (Err why) (pages_seen ms) places
    by_mapping None at is =
        subst (λ r. MapsPage (pages_seen ms) places q x (Err r) (pages_seen ms) places) (sym is)
        (full_reply ms places q k range at len full, (refl, refl))
    by_mapping (Some m) at is =
        subst (λ r. MapsPage (pages_seen ms) places q x (Err r) (pages_seen ms) places) (sym is)
        (mapped_reply ms places q range (sym (ap is_some at)), (refl, refl))

pub mapped_or_no_frame : (ms : List (ℕ × (ℕ × Bool))) (frames frames_after : List Holding) (q k : ℕ) (x : Bool) (why : Refusal) → q < 2 ^ 36
    → k ≡ length ms → k < 1024 → position is_free frames ≡ None → frames_after ≡ frames
    → why ≡ (if is_some (mapping_at ms q) then refusal.Mapped else refusal.NoFrame)
    → MapsPage (pages_seen ms) (places_seen frames) q x (Err why) (pages_seen ms) (places_seen frames_after)
mapped_or_no_frame ms frames frames_after q k x why range len few nothing same is = by_mapping (mapping_at ms q) refl is
  where
    by_mapping : (o : Option (ℕ × Bool)) → mapping_at ms q ≡ o → why ≡ (if is_some o then refusal.Mapped else refusal.NoFrame)
        → MapsPage (pages_seen ms) (places_seen frames) q x (Err why) (pages_seen ms) (places_seen frames_after)
    by_mapping None at is =
        subst (λ r. MapsPage (pages_seen ms) (places_seen frames) q x (Err r) (pages_seen ms) (places_seen frames_after)) (sym is)
        (no_frame_reply ms frames q k range at len few nothing, (refl, ap places_seen same))
    by_mapping (Some m) at is =
        subst (λ r. MapsPage (pages_seen ms) (places_seen frames) q x (Err r) (pages_seen ms) (places_seen frames_after)) (sym is)
        (mapped_reply ms (places_seen frames) q range (sym (ap is_some at)), (refl, ap places_seen same))

-- where the mapping itself found it, or found no memory, and the frame was given back
pub mapped_or_no_memory : (ms : List (ℕ × (ℕ × Bool))) (frames : List Holding) (q k n given : ℕ) (x : Bool) (ms_after : List (ℕ × (ℕ × Bool)))
    (taken frames_after : List Holding) (why : Refusal) → q < 2 ^ 36 → k ≡ length ms → k < 1024 → position is_free frames ≡ Some n → given ≡ n
    → ms_after ≡ ms → taken ≡ set frames n Mapped → frames_after ≡ set taken given Free → why ≡ unmapped_by (mapping_at ms q)
    → MapsPage (pages_seen ms) (places_seen frames) q x (Err why) (pages_seen ms_after) (places_seen frames_after)
mapped_or_no_memory ms frames q k n given x ms_after taken frames_after why range len few first same kept took gave is =
    by_mapping (mapping_at ms q) refl is
  where
    by_mapping : (o : Option (ℕ × Bool)) → mapping_at ms q ≡ o → why ≡ unmapped_by o
        → MapsPage (pages_seen ms) (places_seen frames) q x (Err why) (pages_seen ms_after) (places_seen frames_after)
    by_mapping None at is =
        subst (λ r. MapsPage (pages_seen ms) (places_seen frames) q x (Err r) (pages_seen ms_after) (places_seen frames_after)) (sym is)
        (no_memory ms frames q k n given x ms_after taken frames_after range at len few first same kept took gave)
    by_mapping (Some m) at is =
        subst (λ r. MapsPage (pages_seen ms) (places_seen frames) q x (Err r) (pages_seen ms_after) (places_seen frames_after)) (sym is) (
          mapped_reply ms (places_seen frames) q range (sym (ap is_some at)),
          (
            ap pages_seen kept,
            ap places_seen
                (given_back frames n given taken frames_after first same took gave),
          ),
        )
