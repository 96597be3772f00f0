-- From what a memory does to the steps by labels of each host that keeps it.
use Rattle.std.proofs.Common.{◌≡◌, ◌≢◌, ℕ, Bool, true, false, List, Option, Some, None, [], ◌∷◌, refl, sym, ap, subst, ◌∙◌, if◌then◌else◌}
use Rattle.std.specs.Prelude.{Ok, Err, is_ok, is_some, not}
use Rattle.sva_step.specs.declared.answers.Answer.{Answer}
use Rattle.sva_step.specs.declared.answers.Answer.TheVariants as answer
use Rattle.sva_step.specs.declared.refusals.Refusal.{Refusal}
use Rattle.sva_step.specs.declared.refusals.Refusal.TheVariants as refusal
use Rattle.sva_step.specs.declared.steps.Step.{Step}
use Rattle.sva_step.specs.declared.steps.Step.TheVariants as step
use Rattle.sva_model.specs.Refusals.{Cause, unless_refused}
use Rattle.sva_model.specs.Steps.{Reply}
use Rattle.sva_model.specs.Wire.{Wire, PageWire, SpaceWire, PlaceWire, insert_by, is_lower_page}
use Rattle.sva_model.specs.Wire.PlaceWire.{FreeWire}
use Rattle.sva_labels.proofs.Tests.{same_frame}
use Rattle.sva_labels.specs.Finding.{pages_of, or_no_pages, lowest_free}
use Rattle.sva_labels.specs.Causes.{causes_of}
use Rattle.sva_labels.specs.Moves.{Move, moved, all_moved, with_pages, without_space, placed}
use Rattle.sva_labels.specs.Outcomes.{result_of}
use Rattle.sva_labels.specs.Outcomes as outcomes
use Rattle.sva_labels.specs.Host.{checked}
use Rattle.sva_address_spaces.specs.Seen.{AddressSpacesSeen, address_spaces_of, with_address_spaces}
use Rattle.sva_address_spaces.specs.Pieces.{map_reply, MapsPage}
use Rattle.sva_address_spaces.specs.Steps.{ByLabels, Steps, Moves}

-- A host that keeps a memory.

pub with_own : (w : Wire) (m : AddressSpacesSeen) → address_spaces_of w ≡ m → with_address_spaces w m ≡ w
with_own w m is = ap (with_address_spaces w) (sym is)

pub at_each : (s : Step) (before : AddressSpacesSeen) (result : Reply) (after : AddressSpacesSeen)
    → ((w : Wire) → ByLabels (with_address_spaces w before) s result (with_address_spaces w after)) → Steps s before result after
at_each s before result after step w is = subst (λ (v : Wire). ByLabels v s result (with_address_spaces w after)) (with_own w before is) (step w)

pub moves_each : (move : Move) (before after : AddressSpacesSeen)
    → ((w : Wire) → with_address_spaces w after ≡ moved (with_address_spaces w before) move) → Moves move before after
moves_each move before after moves w is = moves w ∙ ap (λ (v : Wire). moved v move) (with_own w before is)

-- The first cause that holds.

checked-reply : (cs : List Cause) (r : outcomes.Result) → (checked cs r).reply ≡ unless_refused cs r.answer
checked-reply [] r = refl
checked-reply (cause ∷ cs) r = go cause.0 (checked-reply cs r)
  where
    go : (b : Bool) → (checked cs r).reply ≡ unless_refused cs r.answer
        → (if b then record { reply = Err cause.1; moves = [] } else checked cs r).reply ≡ (if b then Err cause.1 else unless_refused cs r.answer)
    go true rest = refl
    go false rest = rest

checked-ok : (cs : List Cause) (r : outcomes.Result) (a : Answer) → unless_refused cs r.answer ≡ Ok a → (checked cs r).moves ≡ r.moves
checked-ok [] r a is = refl
checked-ok (cause ∷ cs) r a is = go cause.0 is (checked-ok cs r a)
  where
    go : (b : Bool) → (if b then Err cause.1 else unless_refused cs r.answer) ≡ Ok a
        → (unless_refused cs r.answer ≡ Ok a → (checked cs r).moves ≡ r.moves)
        → (if b then record { reply = Err cause.1; moves = [] } else checked cs r).moves ≡ r.moves
    go true is rest = absurd (cc)
    go false is rest = rest is

checked-err : (cs : List Cause) (r : outcomes.Result) (e : Refusal) → unless_refused cs r.answer ≡ Err e → (checked cs r).moves ≡ []
checked-err [] r e is = absurd (cc)
checked-err (cause ∷ cs) r e is = go cause.0 is (checked-err cs r e)
  where
    go : (b : Bool) → (if b then Err cause.1 else unless_refused cs r.answer) ≡ Err e
        → (unless_refused cs r.answer ≡ Err e → (checked cs r).moves ≡ [])
        → (if b then record { reply = Err cause.1; moves = [] } else checked cs r).moves ≡ []
    go true is rest = refl
    go false is rest = rest is

-- what is answered is the answer
pub answer-is : (cs : List Cause) (a b : Answer) → unless_refused cs a ≡ Ok b → b ≡ a
answer-is [] a b is = cc
answer-is (cause ∷ cs) a b is = go cause.0 is (answer-is cs a b)
  where
    go : (t : Bool) → (if t then Err cause.1 else unless_refused cs a) ≡ Ok b → (unless_refused cs a ≡ Ok b → b ≡ a) → b ≡ a
    go true is rest = absurd (cc)
    go false is rest = rest is

-- what the causes leave of a step
abbrev pub left_of : Wire → Step → Reply
left_of w s = unless_refused (causes_of w s) (result_of w s).answer

pub answered : (w : Wire) (s : Step) (a : Answer) (after : Wire) → left_of w s ≡ Ok a → after ≡ all_moved w (result_of w s).moves → ByLabels w s (Ok a) after
answered w s a after is moves = (
  sym (checked-reply (causes_of w s) (result_of w s) ∙ is),
  moves ∙ ap (all_moved w) (sym (checked-ok (causes_of w s) (result_of w s) a is)),
)

pub refused : (w : Wire) (s : Step) (e : Refusal) → left_of w s ≡ Err e → e ≢ refusal.OutOfMemory → ByLabels w s (Err e) w
refused w s refusal.OutOfMemory is memory = absurd (memory refl)
refused w s e is memory = (
  sym (checked-reply (causes_of w s) (result_of w s) ∙ is),
  ap (all_moved w) (sym (checked-err (causes_of w s) (result_of w s) e is)),
)

pub no_memory_for : (w : Wire) (s : Step) → is_ok (left_of w s) ≡ true → ByLabels w s (Err refusal.OutOfMemory) w
no_memory_for w s is = (ap is_ok (checked-reply (causes_of w s) (result_of w s)) ∙ is, refl)

-- A map in the space of a number.

-- one space has other pages, and the others are as they were
pub record OneChanged (spaces : List SpaceWire) (number : ℕ) (pages pages_after : List PageWire) (spaces_after : List SpaceWire) : Type 0 where
  pub found : pages_of spaces number ≡ Some pages
  pub kept : pages_after ≡ pages → spaces_after ≡ spaces
  pub put : (change : List PageWire → List PageWire) → pages_after ≡ change pages → spaces_after ≡ with_pages spaces number change

abbrev pub with_spaces : Wire → List SpaceWire → List PlaceWire → Wire
with_spaces w spaces places = record w { spaces = spaces; places = places }

abbrev map_in : List PlaceWire → (page : ℕ) → Option (List PageWire) → Reply
map_in places q pages = if not (is_some pages) then Err refusal.NoSuchSpace else map_reply places q (or_no_pages pages)

pub no_space_map : (w : Wire) (n q : ℕ) (x : Bool) → pages_of w.spaces n ≡ None → ByLabels w (step.Map n q x) (Err refusal.NoSuchSpace) w
no_space_map w n q x none = refused w (step.Map n q x) refusal.NoSuchSpace (ap (map_in w.places q) none) (λ h. absurd (cc))

pub by_map : (w : Wire) (n q : ℕ) (x : Bool) (result : Reply) (pages pages_after : List PageWire) (spaces_after : List SpaceWire)
    (places_after : List PlaceWire) → OneChanged w.spaces n pages pages_after spaces_after → MapsPage pages w.places q x result pages_after places_after
    → ByLabels w (step.Map n q x) result (with_spaces w spaces_after places_after)
by_map w n q x (Err refusal.OutOfMemory) pages pages_after spaces_after places_after one maps =
    let kept : with_spaces w spaces_after places_after ≡ w = λ i. with_spaces w (one.kept maps.1 i) (maps.2 i) in
    subst (λ (v : Wire). ByLabels w (step.Map n q x) (Err refusal.OutOfMemory) v) (sym kept)
    (no_memory_for w (step.Map n q x) (ap (λ o. is_ok (map_in w.places q o)) one.found ∙ maps.0))
by_map w n q x (Ok (answer.Frame f)) pages pages_after spaces_after places_after one maps =
    let is : left_of w (step.Map n q x) ≡ Ok (answer.Frame f) = ap (map_in w.places q) one.found ∙ sym maps.0 in
    let lowest : f ≡ lowest_free w.places =
    same_frame f (lowest_free w.places) (answer-is (causes_of w (step.Map n q x)) (answer.Frame (lowest_free w.places)) (answer.Frame f) is) in
    answered w (step.Map n q x) (answer.Frame f) (with_spaces w spaces_after places_after) is
    ((λ i. with_spaces w (one.put (insert_by is_lower_page (record { page = q; frame = f; write = x })) maps.1.0 i) (maps.1.1 i))
    ∙ ap (λ (g : ℕ). moved w (Move.Map n q g x)) lowest)
by_map w n q x (Ok _) pages pages_after spaces_after places_after one maps = absurd maps.1
by_map w n q x (Err e) pages pages_after spaces_after places_after one maps =
    let kept : with_spaces w spaces_after places_after ≡ w = λ i. with_spaces w (one.kept maps.1.0 i) (maps.1.1 i) in
    subst (λ (v : Wire). ByLabels w (step.Map n q x) (Err e) v) (sym kept)
    (refused w (step.Map n q x) e (ap (map_in w.places q) one.found ∙ sym maps.0) (λ h. absurd (cc)))

-- A drop of the space of a number.

pub by_drop : (w : Wire) (n : ℕ) (pages : List PageWire) (spaces_after : List SpaceWire) (places_after : List PlaceWire) → pages_of w.spaces n
    ≡ Some pages → spaces_after ≡ without_space n w.spaces → places_after ≡ placed FreeWire pages w.places
    → with_spaces w spaces_after places_after ≡ moved w (Move.DropSpace n)
by_drop w n pages spaces_after places_after found spaces places =
    (λ i. with_spaces w (spaces i) (places i))
    ∙ ap (λ o. with_spaces w (without_space n w.spaces) (placed FreeWire (or_no_pages o) w.places)) (sym found)
