-- Tests of groups, and what filing, answering and dropping do to a list of which some pass a test.
use Rattle.std.proofs.Common.{◌≡◌, ℕ, Bool, true, false, ◌&&◌, ◌||◌, cond, eqb, List, [], ◌∷◌, filter, Some, None, refl, sym, ap, ◌∙◌}
use Rattle.std.proofs.lemmas.Bool.{and_parts, or_parts, eqb-true, eq-eqb, not-true, true≢false, false_from_ne_true}
use Rattle.std.proofs.lemmas.Map.Views.{any-filter_same}
use Rattle.std.specs.List.{find, list_any}
use Rattle.sva_msg.specs.declared.messages.PageRequest.{PageRequest}
use Rattle.sva_prq.specs.Groups.{OpenGroup, is_collecting, has_job, new_group, with_request, filed_among, answered_among}
use Rattle.sva_prq.proofs.Searches.{find-none}

-- the name of a group: unit, binding and index
abbrev pub is_named : ℕ → ℕ → ℕ → OpenGroup → Bool
is_named unit binding index g = eqb g.unit unit && eqb g.binding binding && eqb g.index index

-- two names are the same
abbrev pub is_same : ℕ → ℕ → ℕ → ℕ → ℕ → ℕ → Bool
is_same u b i unit binding index = eqb u unit && eqb b binding && eqb i index

pub record Same (u b i unit binding index : ℕ) : Type 0 where
  pub units : u ≡ unit
  pub bindings : b ≡ binding
  pub indexes : i ≡ index

pub same_parts : (u b i unit binding index : ℕ) → is_same u b i unit binding index ≡ true → Same u b i unit binding index
same_parts u b i unit binding index h =
    let all = and_parts _ _ h in
    let two = and_parts _ _ all.0 in
    record { units = eqb-true u unit two.0; bindings = eqb-true b binding two.1; indexes = eqb-true i index all.1 }

pub same_self : (u b i : ℕ) → is_same u b i u b i ≡ true
same_self u b i = λ j. sym (all (sym (eq-eqb u u refl)) (sym (eq-eqb b b refl)) (sym (eq-eqb i i refl))) j
  where
    all : {x y z : Bool} → true ≡ x → true ≡ y → true ≡ z → true ≡ (x && y && z)
    all p q r = λ j. p j && q j && r j

-- a group that takes a request has its name, and isn't whole
pub unfinished_name : (u b i : ℕ) (g : OpenGroup) → is_collecting u b i g ≡ true → Same g.unit g.binding g.index u b i
unfinished_name u b i g h = same_parts _ _ _ u b i (and_parts _ _ h).0

pub unfinished_part : (u b i : ℕ) (g : OpenGroup) → is_collecting u b i g ≡ true → g.last ≡ false
unfinished_part u b i g h = not-true g.last (and_parts _ _ h).1

-- so its name is equal to another just where that of the request is
pub name_as : (u b i unit binding index : ℕ) (g : OpenGroup) → is_collecting u b i g ≡ true → is_named unit binding index g ≡ is_same u b i unit binding index
name_as u b i unit binding index g h =
    let name = unfinished_name u b i g h in
    λ j. is_same (name.units j) (name.bindings j) (name.indexes j) unit binding index

pub or_swap : (x s a : Bool) → (x || (s || a)) ≡ (s || (x || a))
or_swap true true a = refl
or_swap true false a = refl
or_swap false s a = refl

pub or_twice : (s a : Bool) → (s || a) ≡ (s || (s || a))
or_twice true a = refl
or_twice false a = refl

-- a test that answers one thing at the groups that a request can go to
module _ (p : OpenGroup → Bool) (s : Bool) (n u b : ℕ) (request : PageRequest) where
  pub filed_any : ((g : OpenGroup) → is_collecting u b request.index g ≡ true → (p (with_request g request) ≡ s) × (p g ≡ s))
      → p (with_request (new_group n u b request.index) request) ≡ s → (gs : List OpenGroup)
      → list_any p (filed_among n u b request gs) ≡ (s || list_any p gs)
  filed_any keeps new [] = ap (λ t. t || false) new
  filed_any keeps new (g ∷ gs) =
      (elim (is_collecting u b request.index g)
      as (λ t. is_collecting u b request.index g ≡ t
      → list_any p (cond t (with_request g request ∷ gs) (g ∷ filed_among n u b request gs)) ≡ (s || (p g || list_any p gs))) [
        | true ↦ λ e.
            ap (λ t. t || list_any p gs) (keeps g e).0 ∙ or_twice s (list_any p gs)
            ∙ ap (λ t. s || (t || list_any p gs)) (sym (keeps g e).1)
        | false ↦ λ e. ap (λ t. p g || t) (filed_any keeps new gs) ∙ or_swap (p g) s (list_any p gs)
      ]) refl

-- a test that fails at the groups that an answer can end
module _ (p : OpenGroup → Bool) (serial : ℕ) where
  pub answered_any : ((g : OpenGroup) → has_job serial g ≡ true → p g ≡ false) → (gs : List OpenGroup) → list_any p (answered_among serial gs) ≡ list_any p gs
  answered_any fails [] = refl
  answered_any fails (g ∷ gs) =
      (elim (has_job serial g)
      as (λ t. has_job serial g ≡ t
      → list_any p (cond t gs (g ∷ answered_among serial gs)) ≡ (p g || list_any p gs)) [
        | true ↦ λ e. ap (λ t. t || list_any p gs) (sym (fails g e))
        | false ↦ λ e. ap (λ t. p g || t) (answered_any fails gs)
      ]) refl

  pub answered_find : ((g : OpenGroup) → has_job serial g ≡ true → p g ≡ false) → (gs : List OpenGroup) → find p (answered_among serial gs) ≡ find p gs
  answered_find fails [] = refl
  answered_find fails (g ∷ gs) =
      (elim (has_job serial g)
      as (λ t. has_job serial g ≡ t
      → find p (cond t gs (g ∷ answered_among serial gs)) ≡ cond (p g) (Some g) (find p gs)) [
        | true ↦ λ e. ap (λ t. cond t (Some g) (find p gs)) (sym (fails g e))
        | false ↦ λ e. ap (cond (p g) (Some g)) (answered_find fails gs)
      ]) refl

  -- an answer adds nothing
  pub answered_none : (gs : List OpenGroup) → list_any p gs ≡ false → list_any p (answered_among serial gs) ≡ false
  answered_none [] none = refl
  answered_none (g ∷ gs) none =
      let parts = or_parts (p g) (list_any p gs) none in
      elim (has_job serial g)
      as (λ t. list_any p (cond t gs (g ∷ answered_among serial gs)) ≡ false) [
        | true ↦ parts.1
        | false ↦ ap (λ t. t || list_any p (answered_among serial gs)) parts.0 ∙ answered_none gs parts.1
      ]

-- a filter
module _ (p q : OpenGroup → Bool) where
  pub filter_find : ((g : OpenGroup) → p g ≡ true → q g ≡ true) → (gs : List OpenGroup) → find p (filter q gs) ≡ find p gs
  filter_find keeps [] = refl
  filter_find keeps (g ∷ gs) =
      (elim (q g)
      as (λ t. q g ≡ t → find p (cond t (g ∷ filter q gs) (filter q gs)) ≡ cond (p g) (Some g) (find p gs)) [
        | true ↦ λ e. ap (cond (p g) (Some g)) (filter_find keeps gs)
        | false ↦ λ e.
            let fails : p g ≡ false = false_from_ne_true (p g) (λ passes. true≢false (sym (keeps g passes) ∙ e)) in
            filter_find keeps gs ∙ ap (λ t. cond t (Some g) (find p gs)) (sym fails)
      ]) refl

  pub filter_find_none : ((g : OpenGroup) → p g ≡ true → q g ≡ false) → (gs : List OpenGroup) → find p (filter q gs) ≡ None
  filter_find_none drops gs = find-none p (filter q gs) (any-filter_same p q false drops gs)

  pub filter_none : (gs : List OpenGroup) → list_any p gs ≡ false → list_any p (filter q gs) ≡ false
  filter_none [] none = refl
  filter_none (g ∷ gs) none =
      let parts = or_parts (p g) (list_any p gs) none in
      elim (q g) as (λ t. list_any p (cond t (g ∷ filter q gs) (filter q gs)) ≡ false) [
        | true ↦ ap (λ t. t || list_any p (filter q gs)) parts.0 ∙ filter_none gs parts.1
        | false ↦ filter_none gs parts.1
      ]

-- at most one group passes
abbrev pub AtMostOne : (OpenGroup → Bool) → List OpenGroup → Type 0
AtMostOne p [] = Unit {0}
AtMostOne p (g ∷ gs) = (p g ≡ true → list_any p gs ≡ false) × AtMostOne p gs

pub AtMostOne-filter : (p q : OpenGroup → Bool) (gs : List OpenGroup) → AtMostOne p gs → AtMostOne p (filter q gs)
AtMostOne-filter p q [] h = tt
AtMostOne-filter p q (g ∷ gs) h =
    elim (q g) as (λ t. AtMostOne p (cond t (g ∷ filter q gs) (filter q gs))) [
      | true ↦ (λ passes. filter_none p q gs (h.0 passes), AtMostOne-filter p q gs h.1)
      | false ↦ AtMostOne-filter p q gs h.1
    ]

pub AtMostOne-answered : (p : OpenGroup → Bool) (serial : ℕ) (gs : List OpenGroup) → AtMostOne p gs → AtMostOne p (answered_among serial gs)
AtMostOne-answered p serial [] h = tt
AtMostOne-answered p serial (g ∷ gs) h =
    elim (has_job serial g) as (λ t. AtMostOne p (cond t gs (g ∷ answered_among serial gs))) [
      | true ↦ h.1
      | false ↦ (λ passes. answered_none p serial gs (h.0 passes), AtMostOne-answered p serial gs h.1)
    ]
