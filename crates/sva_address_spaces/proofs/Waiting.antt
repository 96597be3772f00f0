-- What frames wait for, as it is seen, and the room for it.
use Rattle.std.proofs.Common.{◌≡◌, ℕ, zero, suc, ◌<◌, ◌≤◌, ◌==◌, Bool, true, false, List, Option, Some, None, [], ◌∷◌, length, map, set, slice_get, refl}
use Rattle.std.proofs.Common.{sym, ap, subst, ◌∙◌, arith, if◌then◌else◌}
use Rattle.std.specs.Prelude.{not, ◌||◌, is_some, is_none, option_map, slice_index_or}
use Rattle.std.specs.List.{list_any, list_all}
use Rattle.std.specs.Set.{distinct_count, is_member}
use Rattle.std.proofs.lemmas.Bool.Decides.{nat_tests}
use Rattle.std.proofs.lemmas.List.{map-set, length-map}
use Rattle.sva_frames.specs.declared.waits.Target.{Target}
use Rattle.sva_frames.specs.declared.waits.Target.TheVariants.{Cookie as CookieTarget, ResetEnd as ResetTarget}
use Rattle.sva_frames.specs.Frames.{Holding, Free, Mapped, Withheld, after_waits, past_cookie, past_reset, settled}
use Rattle.sva_frames.specs.Room.{target_at, cookies, HaveRoom}
use Rattle.sva_model.specs.Wire.{TargetWire}
use Rattle.sva_model.specs.Wire.PlaceWire.{FreeWire, WithheldWire}
use Rattle.sva_labels.specs.Moves.{place_for, settled_cookie, settled_at}
use Rattle.sva_labels.specs.Moves as labels
use Rattle.sva_address_spaces.specs.Seen.{target_seen, targets_seen, place_seen, places_seen}
use Rattle.sva_address_spaces.specs.Owned.{one_if_mapped, mapped_bit}
use Rattle.sva_address_spaces.specs.declared.live.LiveSpace.{LiveSpace}
use Rattle.sva_address_spaces.specs.Lives.{count_all}
use Rattle.sva_labels.specs.Sound.{target_there, cookies_in}
use Rattle.sva_address_spaces.specs.Room as seen

-- Where a frame is that has these waits.

has_left : (ts : List (Option Target)) → list_all is_none (targets_seen ts) ≡ not (list_any is_some ts)
has_left [] = refl
has_left (None ∷ ts) = has_left ts
has_left (Some t ∷ ts) = refl

pub place-after : (ts : List (Option Target)) → place_seen (after_waits ts) ≡ place_for (targets_seen ts)
place-after ts = go (list_any is_some ts) (has_left ts)
  where
    go : (b : Bool) → list_all is_none (targets_seen ts) ≡ not b → place_seen (if b then Withheld ts else Free)
        ≡ (if list_all is_none (targets_seen ts) then FreeWire else WithheldWire (targets_seen ts))
    go true is = sym (ap (λ c. if c then FreeWire else WithheldWire (targets_seen ts)) is)
    go false is = sym (ap (λ c. if c then FreeWire else WithheldWire (targets_seen ts)) is)

-- it isn't mapped
pub none-after : (ts : List (Option Target)) → one_if_mapped (Some (after_waits ts)) ≡ 0
none-after ts = go (list_any is_some ts)
  where
    go : (b : Bool) → one_if_mapped (Some (if b then Withheld ts else Free)) ≡ 0
    go true = refl
    go false = refl

-- Room, as it is seen.

index_seen : (ts : List (Option Target)) (u : ℕ) → slice_index_or (targets_seen ts) u None ≡ option_map target_seen (slice_index_or ts u None)
index_seen [] u = refl
index_seen (t ∷ ts) zero = refl
index_seen (t ∷ ts) (suc u) = index_seen ts u

awaited_seen : (u : ℕ) (h : Holding) → target_there u (place_seen h) ≡ option_map target_seen (target_at u h)
awaited_seen u Free = refl
awaited_seen u Mapped = refl
awaited_seen u (Withheld ts) = index_seen ts u

awaited_all : (u : ℕ) (frames : List Holding) → map (target_there u) (places_seen frames) ≡ targets_seen (map (target_at u) frames)
awaited_all u [] = refl
awaited_all u (h ∷ hs) = λ i. awaited_seen u h i ∷ awaited_all u hs i

cookies_seen : (ts : List (Option Target)) → cookies_in (targets_seen ts) ≡ cookies ts
cookies_seen [] = refl
cookies_seen (None ∷ ts) = cookies_seen ts
cookies_seen (Some ResetTarget ∷ ts) = cookies_seen ts
cookies_seen (Some (CookieTarget c) ∷ ts) = ap (λ cs. c ∷ cs) (cookies_seen ts)

there_seen : (ts : List (Option Target)) (u : ℕ) (t : Target) → slice_get ts u ≡ Some (Some t) → slice_get (targets_seen ts) u ≡ Some (Some (target_seen t))
there_seen [] u t there = absurd (cc)
there_seen (t ∷ ts) zero s there = ap (option_map (option_map target_seen)) there
there_seen (t ∷ ts) (suc u) s there = there_seen ts u s there

pub room_of : (frames : List Holding) (ts : List (Option Target)) → seen.HaveRoom (places_seen frames) (targets_seen ts) → HaveRoom frames ts
room_of frames ts room u (CookieTarget c) there =
    subst (λ (cs : List ℕ). is_member (◌==◌) cs c ≡ false → distinct_count (◌==◌) cs < 64) (ap cookies_in (awaited_all u frames)
    ∙ cookies_seen (map (target_at u) frames))
    (room u (TargetWire.Cookie c) (there_seen ts u (CookieTarget c) there))
room_of frames ts room u ResetTarget there = tt

get_seen : (ts : List (Option Target)) (u : ℕ) → slice_get (targets_seen ts) u ≡ option_map (option_map target_seen) (slice_get ts u)
get_seen [] u = refl
get_seen (t ∷ ts) zero = refl
get_seen (t ∷ ts) (suc u) = get_seen ts u

pub room_seen : (frames : List Holding) (ts : List (Option Target)) → HaveRoom frames ts → seen.HaveRoom (places_seen frames) (targets_seen ts)
room_seen frames ts room u target there = go (slice_get ts u) refl (sym (get_seen ts u) ∙ there)
  where
    inside : (a b : TargetWire) → Some (Some a) ≡ Some (Some b) → a ≡ b
    inside a b e = cc

    go : (o : Option (Option Target)) → slice_get ts u ≡ o → option_map (option_map target_seen) o ≡ Some (Some target)
        → seen.HasRoom (map (target_there u) (places_seen frames)) target
    go None is h = absurd (cc)
    go (Some None) is h = absurd (cc)
    go (Some (Some (CookieTarget c))) is h =
        subst (λ (t : TargetWire). seen.HasRoom (map (target_there u) (places_seen frames)) t) (inside (TargetWire.Cookie c) target h)
        (subst (λ (cs : List ℕ). is_member (◌==◌) cs c ≡ false → distinct_count (◌==◌) cs < 64)
        (sym (ap cookies_in (awaited_all u frames) ∙ cookies_seen (map (target_at u) frames))) (room u (CookieTarget c) is))
    go (Some (Some ResetTarget)) is h =
        subst (λ (t : TargetWire). seen.HasRoom (map (target_there u) (places_seen frames)) t) (inside TargetWire.ResetEnd target h) tt

-- Once a frame waits, there is room for another that waits for the same.

any_there : (ts : List (Option Target)) (u : ℕ) (t : Target) → slice_get ts u ≡ Some (Some t) → list_any is_some ts ≡ true
any_there [] u t there = absurd (cc)
any_there (Some s ∷ ts) u t there = refl
any_there (None ∷ ts) zero t there = absurd (cc)
any_there (None ∷ ts) (suc u) t there = any_there ts u t there

index_there : (ts : List (Option Target)) (u : ℕ) (t : Target) → slice_get ts u ≡ Some (Some t) → slice_index_or ts u None ≡ Some t
index_there [] u t there = absurd (cc)
index_there (s ∷ ts) zero t there = inside there
  where
    inside : Some s ≡ Some (Some t) → s ≡ Some t
    inside e = cc
index_there (s ∷ ts) (suc u) t there = index_there ts u t there

member_set : (ts : List (Option Target)) (n c : ℕ) → n < length ts → is_member (◌==◌) (cookies (set ts n (Some (CookieTarget c)))) c ≡ true
member_set [] n c within = absurd (omega (arith, within))
member_set (t ∷ ts) zero c within = ap (λ b. b || is_member (◌==◌) (cookies ts) c) (same c)
  where
    same : (c : ℕ) → (c == c) ≡ true
    same c = grind (arith, nat_tests)
member_set (None ∷ ts) (suc n) c within = member_set ts n c (omega (arith, within))
member_set (Some ResetTarget ∷ ts) (suc n) c within = member_set ts n c (omega (arith, within))
member_set (Some (CookieTarget d) ∷ ts) (suc n) c within = go (c == d) (member_set ts n c (omega (arith, within)))
  where
    go : (b : Bool) → is_member (◌==◌) (cookies (set ts n (Some (CookieTarget c)))) c ≡ true
        → (b || is_member (◌==◌) (cookies (set ts n (Some (CookieTarget c)))) c) ≡ true
    go true rest = refl
    go false rest = rest

pub room_kept : (frames : List Holding) (ts : List (Option Target)) (n : ℕ) → n < length frames → HaveRoom frames ts
    → HaveRoom (set frames n (after_waits ts)) ts
room_kept frames ts n within room u ResetTarget there = room u ResetTarget there
room_kept frames ts n within room u (CookieTarget c) there = λ absent. absurd (cc (sym absent ∙ pending))
  where
    waits : target_at u (after_waits ts) ≡ Some (CookieTarget c)
    waits = ap (λ b. target_at u (if b then Withheld ts else Free)) (any_there ts u (CookieTarget c) there) ∙ index_there ts u (CookieTarget c) there

    pending : is_member (◌==◌) (cookies (map (target_at u) (set frames n (after_waits ts)))) c ≡ true
    pending =
        ap (λ us. is_member (◌==◌) (cookies us) c) (map-set (target_at u) frames n (after_waits ts) ∙ ap (set (map (target_at u) frames) n) waits)
        ∙ member_set (map (target_at u) frames) n c (subst (λ (k : ℕ). n < k) (sym (length-map frames (target_at u))) within)

-- What a unit settles.

settled_seen : (u : ℕ) (left : Option Target → Option Target) (settle : Option TargetWire → Option TargetWire)
    → ((t : Option Target) → option_map target_seen (left t) ≡ settle (option_map target_seen t)) → (h : Holding) → place_seen (settled u left h)
    ≡ settled_at u settle (place_seen h)
settled_seen u left settle same Free = refl
settled_seen u left settle same Mapped = refl
settled_seen u left settle same (Withheld ts) =
    place-after (set ts u (left (slice_index_or ts u None)))
    ∙ ap place_for (map-set (option_map target_seen) ts u (left (slice_index_or ts u None))
    ∙ ap (set (targets_seen ts) u) (same (slice_index_or ts u None) ∙ ap settle (sym (index_seen ts u))))

settled_all : (u : ℕ) (left : Option Target → Option Target) (settle : Option TargetWire → Option TargetWire)
    → ((t : Option Target) → option_map target_seen (left t) ≡ settle (option_map target_seen t)) → (frames : List Holding)
    → places_seen (map (settled u left) frames) ≡ labels.settled u settle (places_seen frames)
settled_all u left settle same [] = refl
settled_all u left settle same (h ∷ hs) = λ i. settled_seen u left settle same h i ∷ settled_all u left settle same hs i

pub cookie_settled : (u c : ℕ) (frames frames_after : List Holding) → frames_after ≡ map (settled u (past_cookie c)) frames
    → places_seen frames_after ≡ labels.settled u (settled_cookie c) (places_seen frames)
cookie_settled u c frames frames_after is = ap places_seen is ∙ settled_all u (past_cookie c) (settled_cookie c) same frames
  where
    same : (t : Option Target) → option_map target_seen (past_cookie c t) ≡ settled_cookie c (option_map target_seen t)
    same None = refl
    same (Some ResetTarget) = refl
    same (Some (CookieTarget d)) = go (d == c)
      where
        go : (b : Bool) → option_map target_seen (if b then None else Some (CookieTarget d)) ≡ (if b then None else Some (TargetWire.Cookie d))
        go true = refl
        go false = refl

pub unit_settled : (u : ℕ) (frames frames_after : List Holding) → frames_after ≡ map (settled u past_reset) frames → places_seen frames_after
    ≡ labels.settled u (λ target. None) (places_seen frames)
unit_settled u frames frames_after is = ap places_seen is ∙ settled_all u past_reset (λ target. None) (λ t. refl) frames

-- no frame becomes mapped, or stops to be
bit_settled : (u : ℕ) (left : Option Target → Option Target) (frames : List Holding) (f : ℕ) → mapped_bit f (map (settled u left) frames)
    ≡ mapped_bit f frames
bit_settled u left [] f = refl
bit_settled u left (Free ∷ hs) zero = refl
bit_settled u left (Mapped ∷ hs) zero = refl
bit_settled u left (Withheld ts ∷ hs) zero = none-after (set ts u (left (slice_index_or ts u None)))
bit_settled u left (h ∷ hs) (suc f) = bit_settled u left hs f

pub owned_settled : (u : ℕ) (left : Option Target → Option Target) (lives : List LiveSpace) (frames frames_after : List Holding)
    → ((f : ℕ) → count_all f lives ≤ mapped_bit f frames) → frames_after ≡ map (settled u left) frames → (f : ℕ) → count_all f lives
    ≤ mapped_bit f frames_after
owned_settled u left lives frames frames_after owned is f =
    subst (λ (k : ℕ). count_all f lives ≤ k) (sym (ap (mapped_bit f) is ∙ bit_settled u left frames f)) (owned f)
