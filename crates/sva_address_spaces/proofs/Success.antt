-- What refuses a success.
use Rattle.std.proofs.Common.{◌≡◌, ℕ, ◌+◌, ◌-◌, ◌<◌, ◌≤◌, Bool, true, false, List, [], ◌∷◌, length, refl, sym, subst, arith}
use Rattle.std.specs.Prelude.{nat_lt, Result, Ok, Err, IsOk}
use Rattle.std.proofs.lemmas.Bool.Decides.{nat_tests}
use Rattle.sva_step.specs.declared.refusals.Refusal.{Refusal}
use Rattle.sva_step.specs.declared.refusals.Refusal.TheVariants as refusal
use Rattle.sva_model.specs.Wire.{PageWire, PlaceWire, AskWire}
use Rattle.sva_labels.specs.Finding.{free_from}
use Rattle.sva_address_spaces.specs.Pieces.{verdict}
use Rattle.sva_address_spaces.specs.Asked.{success_causes}
use Rattle.sva_labels.specs.Replying.{new_among, writes_read_only}

success-is : (pages : List PageWire) (places : List PlaceWire) (asks : List AskWire) (a b c : Bool) → writes_read_only pages asks ≡ a
    → nat_lt (length (free_from 0 places)) (length (new_among pages asks)) ≡ b
    → nat_lt 1024 (length pages + length (new_among pages asks)) ≡ c
    → verdict (success_causes pages places asks) ≡ verdict ((a, refusal.BadVerdict) ∷ (b, refusal.NoFrame) ∷ (c, refusal.SpaceFull) ∷ [])
success-is pages places asks a b c read_only frames full = rw (read_only, frames, full) refl

less : (m n : ℕ) → m < n → nat_lt m n ≡ true
less m n h = grind (arith, nat_tests)

not_less : (m n : ℕ) → n ≤ m → nat_lt m n ≡ false
not_less m n h = grind (arith, nat_tests)

is_at_least : (m n : ℕ) → nat_lt m n ≡ false → n ≤ m
is_at_least m n is = grind (arith, nat_tests)

pub bad_verdict : (pages : List PageWire) (places : List PlaceWire) (asks : List AskWire) → writes_read_only pages asks ≡ true
    → Err refusal.BadVerdict ≡ verdict (success_causes pages places asks)
bad_verdict pages places asks is = sym (success-is pages places asks true _ _ is refl refl)

pub no_frame : (pages : List PageWire) (places : List PlaceWire) (asks : List AskWire) (free needed : ℕ) → writes_read_only pages asks ≡ false
    → free ≡ length (free_from 0 places) → needed ≡ length (new_among pages asks) → free < needed
    → Err refusal.NoFrame ≡ verdict (success_causes pages places asks)
no_frame pages places asks free needed is frees needs few =
    sym (success-is pages places asks false true _ is
    (less (length (free_from 0 places)) (length (new_among pages asks)) (omega (arith, frees, needs, few))) refl)

pub space_full : (pages : List PageWire) (places : List PlaceWire) (asks : List AskWire) (free needed len : ℕ) → writes_read_only pages asks ≡ false
    → free ≡ length (free_from 0 places) → needed ≡ length (new_among pages asks) → needed ≤ free
    → len ≡ length pages → 1024 - needed < len → Err refusal.SpaceFull ≡ verdict (success_causes pages places asks)
space_full pages places asks free needed len is frees needs enough long full =
    sym
    (success-is pages places asks false false true is
    (not_less (length (free_from 0 places)) (length (new_among pages asks)) (omega (arith, frees, needs, enough)))
    (less 1024 (length pages + length (new_among pages asks)) (omega (arith, needs, long, full))))

pub success_fits : (pages : List PageWire) (places : List PlaceWire) (asks : List AskWire) (free needed len : ℕ) → writes_read_only pages asks ≡ false
    → free ≡ length (free_from 0 places) → needed ≡ length (new_among pages asks) → needed ≤ free
    → len ≡ length pages → needed ≤ 32 → len ≤ 1024 - needed → Ok tt ≡ verdict (success_causes pages places asks)
success_fits pages places asks free needed len is frees needs enough long few fits =
    sym
    (success-is pages places asks false false false is
    (not_less (length (free_from 0 places)) (length (new_among pages asks)) (omega (arith, frees, needs, enough)))
    (not_less 1024 (length pages + length (new_among pages asks)) (omega (arith, needs, long, few, fits))))

-- where nothing refuses it there are frames enough
pub frames_enough : (pages : List PageWire) (places : List PlaceWire) (asks : List AskWire) → IsOk (verdict (success_causes pages places asks))
    → length (new_among pages asks) ≤ length (free_from 0 places)
frames_enough pages places asks may =
    go (writes_read_only pages asks) (nat_lt (length (free_from 0 places)) (length (new_among pages asks))) refl refl
    (subst (λ (r : Result (Unit {0}) Refusal). IsOk r) (success-is pages places asks _ _ _ refl refl refl) may)
  where
    go : (a b : Bool) → writes_read_only pages asks ≡ a → nat_lt (length (free_from 0 places)) (length (new_among pages asks)) ≡ b
        → IsOk (verdict ((a, refusal.BadVerdict) ∷ (b, refusal.NoFrame)
        ∷ (nat_lt 1024 (length pages + length (new_among pages asks)), refusal.SpaceFull) ∷ []))
        → length (new_among pages asks) ≤ length (free_from 0 places)
    go false false is enough may = is_at_least (length (free_from 0 places)) (length (new_among pages asks)) enough
    go true b is enough may = absurd (cc)
    go false true is enough may = absurd (cc)
