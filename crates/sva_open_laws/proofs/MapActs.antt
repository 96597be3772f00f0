-- A space that is made, and a page that is mapped, are acts of the open world: none, and one.
use Rattle.std.proofs.Common.{◌≡◌, ◌≢◌, ◌⊎◌, inl, inr, refl, ap, ap₂, sym, subst, ◌∙◌, ℕ, zero, suc, ◌+◌, ◌<◌, ◌≤◌, Bool, true, false, arith}
use Rattle.std.specs.Prelude.{◌-◌, ◌==◌, ◌&&◌, not, if◌then◌else◌, List, [], ◌∷◌, ◌++◌, Option, Some, None, filter, option_map}
use Rattle.std.proofs.lemmas.Bool.{eqb-true, eq-eqb}
use Rattle.std.proofs.lemmas.List.{append-nil}
use Rattle.std.proofs.lemmas.List.Elements.{filter-append}
use Rattle.sva_model.specs.Words.{count_below, put, select, tabulate}
use Rattle.sva_model.specs.State.{Mappings, MappingState, Subject, Endpoint, World}
use Rattle.sva_model.specs.State.MappingState.{Unmade, Present, Gone}
use Rattle.sva_model.specs.State.Subject.{StartOf, StopOf, FunctionReset, CompletionOf, InvalidateOf, ResponseOf, RequestOf, InvalidatedOf}
use Rattle.sva_model.specs.State.Subject.{PageRequestOf, MarkerOf, ResetDone}
use Rattle.sva_model.specs.States.{is_free, is_free_place, is_present, is_running, place_at, place_by}
use Rattle.sva_model.specs.Acts.{act}
use Rattle.sva_model.specs.Acts.Act.{Map, NewSpace}
use Rattle.sva_labels.proofs.Counting.{count_more, count_same, count_zero}
use Rattle.sva_labels.proofs.Lists.{select_same, tabulate_same}
use Rattle.sva_labels.proofs.Tests.{first_holds, second_holds}
use Rattle.sva_labels.proofs.Words.{ℕ_cases, put-same, put-other}
use Rattle.sva_laws.specs.LabelLaws.{FindsMappings}
use Rattle.sva_laws.proofs.Invariant.{Invariant}
use Rattle.sva_open.specs.declared.acts.Act.TheVariants as doing
use Rattle.sva_open.specs.declared.frames.Mapping.{Mapping}
use Rattle.sva_open.specs.declared.frames.Target.{Target}
use Rattle.sva_open.specs.declared.frames.Translation.{Translation}
use Rattle.sva_open.specs.declared.messages.Message.TheVariants as message
use Rattle.sva_open.specs.declared.works.Work.{Work}
use Rattle.sva_open.specs.declared.works.Work.TheVariants.{Use}
use Rattle.sva_open.specs.Acts.{is_other_page, next_open, set_page}
use Rattle.sva_open_laws.specs.AsOpen.{flying_of, gather, given_at, given_before, given_by, if_there, mapping_of, one, open_of, owner_of}
use Rattle.sva_open_laws.specs.AsOpen.{part_of, target_of, tenure_of, translation_of, use_of, where_so}
use Rattle.sva_open_laws.proofs.ActParts.{frames_same}
use Rattle.sva_open_laws.proofs.DeviceActs.{all_taken, held_at, never, uses_at}
use Rattle.sva_open_laws.proofs.Filters.{left}
use Rattle.sva_open_laws.proofs.Gathered.{greatest, tabulate_get}
use Rattle.sva_open_laws.proofs.GatherLists.{gather_next, gather_same}
use Rattle.sva_open_laws.proofs.Safety.{running_is}

-- ---- A space

none_freed : (w : World) → select (suc w.spaces) (λ s. not (put w.is_live w.spaces true s)) ≡ select w.spaces (λ s. not (w.is_live s))
unfolding select
none_freed w =
    ap₂ (λ xs (c : Bool). xs ++ (if c then w.spaces ∷ [] else []))
    (select_same w.spaces (λ s. not (put w.is_live w.spaces true s)) (λ s. not (w.is_live s))
    (λ k l. ap not (put-other w.is_live w.spaces true k (λ same. absurd (omega (arith, same, l))))))
    (ap not (put-same w.is_live w.spaces true))
    ∙ append-nil (select w.spaces (λ s. not (w.is_live s)))

pub makes_space : (w : World) → open_of w ≡ open_of (act w NewSpace)
makes_space w =
    sym (ap₂ (λ fs ss. record (open_of w) { frames = fs; freed = ss }) (frames_same w (act w NewSpace) (λ e x. refl)) (none_freed w))

counts : (n : ℕ) (q : ℕ → Bool) → q n ≡ true → count_below (suc n) q ≡ suc (count_below n q)
unfolding count_below
counts n q h = ap (λ (b : Bool). if b then suc (count_below n q) else count_below n q) h

-- ---- What a mapping more leaves of the others

abbrev target_by : (frame given : ℕ) → (write : Bool) → Target
target_by frame given write = record { frame = frame; tenure = record { given = given; frozen = 0 }; write = write }

abbrev translated : Endpoint → (binding page : ℕ) → Target → Translation
translated p b y target = record { pasid = p.pasid b; page = y; owner = owner_of p b; target = target }

module _ (w : World) (s q f : ℕ) (x : Bool) where
  abbrev mapped : World
  mapped = act w (Map s q f x)

  abbrev before : Mappings
  before = w.mappings

  abbrev behind : Mappings
  behind = (act w (Map s q f x)).mappings

  not_new : (m : ℕ) → m < before.made → m ≢ before.made
  not_new m l same = absurd (omega (arith, same, l))

  given_same : (frame n : ℕ) → n ≤ before.made → given_before behind frame n ≡ given_before before frame n
  given_same frame n l =
      count_same n (λ m. behind.frame m == frame) (λ m. before.frame m == frame)
      (λ m k. ap (λ z. z == frame) (put-other before.frame before.made f m (not_new m (omega (arith, k, l)))))

  target_same : (m : ℕ) → m < before.made → target_of behind m ≡ target_of before m
  target_same m l =
      ap₂ (λ z b. target_by z (given_before behind z m) b) (put-other before.frame before.made f m (not_new m l))
      (put-other before.write before.made x m (not_new m l))
      ∙ ap (λ n. target_by (before.frame m) n (before.write m)) (given_same (before.frame m) m (omega (arith, l)))

  mapping_same : (m : ℕ) → m < before.made
      → where_so (is_present (behind.state m)) (mapping_of behind m) ≡ where_so (is_present (before.state m)) (mapping_of before m)
  mapping_same m l =
      ap₂ (λ y z. mapping_by (behind.state m) y z (target_of behind m)) (put-other before.space before.made s m (not_new m l))
      (put-other before.page before.made q m (not_new m l))
      ∙ ap₂ (λ y t. mapping_by y (before.space m) (before.page m) t) (put-other before.state before.made Present m (not_new m l)) (target_same m l)
    where
      mapping_by : MappingState → (space page : ℕ) → Target → List Mapping
      mapping_by y space page target = where_so (is_present y) (record { space = space; page = page; target = target })

  -- ---- At an endpoint

  module _ (e : ℕ) (i : Invariant w) where
    abbrev p : Endpoint
    p = w.part e

    held_same : (r : ℕ) → held_at behind p r ≡ held_at before p r
    held_same r = go (p.held r) refl
      where
        go : (o : Option ℕ) → p.held r ≡ o
            → if_there (option_map (translation_of behind p (p.request_binding r) (p.request_page r)) o)
            ≡ if_there (option_map (translation_of before p (p.request_binding r) (p.request_page r)) o)
        go None h = refl
        go (Some m) h =
            ap (λ t. if_there (Some (translated p (p.request_binding r) (p.request_page r) t))) (target_same m ((i.parts e).owners.held_made r m h))

    use_same : (u : ℕ) → uses_at behind p u ≡ uses_at before p u
    use_same u = go (is_running (p.use_state u)) refl
      where
        go : (b : Bool) → is_running (p.use_state u) ≡ b → where_so b (use_of behind p u) ≡ where_so b (use_of before p u)
        go false h = refl
        go true h =
            let made = (i.parts e).owners.running_made u (running_is (p.use_state u) h) in
            ap₂ (λ y t. used (translated p (p.use_binding u) y t)) (put-other before.page before.made q (p.use_mapping u) (not_new (p.use_mapping u) made))
            (target_same (p.use_mapping u) made)
          where
            used : Translation → List Work
            used t = Use t ∷ []

    flight_same : (c : ℕ) → flying_of behind p (p.message c) ≡ flying_of before p (p.message c)
    flight_same c = go (p.message c) refl
      where
        go : (o : Option Subject) → p.message c ≡ o → flying_of behind p o ≡ flying_of before p o
        go None h = refl
        go (Some (StartOf b)) h = refl
        go (Some (StopOf b)) h = refl
        go (Some FunctionReset) h = refl
        go (Some (CompletionOf r None)) h = refl
        go (Some (CompletionOf r (Some m))) h =
            ap (λ t. one (owner_of p (p.request_binding r)) p.resets (message.Completion (p.request_tag r) (p.request_page r) (Some t)))
            (target_same m ((i.parts e).owners.flying_made c r m h))
        go (Some (InvalidateOf k)) h = refl
        go (Some (ResponseOf g code)) h = refl
        go (Some (RequestOf r)) h = refl
        go (Some (InvalidatedOf names)) h = refl
        go (Some (PageRequestOf r)) h = refl
        go (Some (MarkerOf b)) h = refl
        go (Some ResetDone) h = refl

    part_same : part_of mapped e p ≡ part_of w e p
    part_same =
        ap₂ (λ hs us. record (part_of mapped e p) { held = hs; works = us ++ all_taken p })
        (gather_same p.requests (held_at behind p) (held_at before p) (λ r l. held_same r))
        (gather_same p.uses (uses_at behind p) (uses_at before p) (λ u l. use_same u))
        ∙ ap (λ fs. record (part_of w e p) { flight = fs })
        (gather_same w.messages (λ c. flying_of behind p (p.message c)) (λ c. flying_of before p (p.message c)) (λ c l. flight_same c))

  -- ---- The frames

  state_by : (y : MappingState) → place_by mapped y ≡ place_by w y
  state_by Unmade = refl
  state_by Present = refl
  state_by (Gone owed) = refl

  -- the last mapping of a frame that is free is the last tenure before the next one
  given_all : FindsMappings w.mappings → is_free w f ≡ true → (o : Option ℕ) → before.latest f ≡ o
      → given_before before f before.made ≡ given_at w f o
  given_all fi free None h =
      count_zero before.made leads (λ m l. never (leads m) (none m l))
    where
      leads : ℕ → Bool
      leads m = w.mappings.frame m == f

      none : (m : ℕ) → m < w.mappings.made → leads m ≡ true → ⊥
      none m l so =
          let y = greatest w.mappings.made leads m l so in
          let la = (fi.latest f y.0).1 (y.1, eqb-true (w.mappings.frame y.0) f y.2, λ o k same. y.3 o k (eq-eqb (w.mappings.frame o) f same)) in
          absurd (cc (sym la ∙ h))
  given_all fi free (Some m) h =
      ap (given_before before f) (sym same)
      ∙ count_more (suc m) (before.made - suc m) leads (λ o l k. never (leads o) (none o l (omega (arith, k, made))))
      ∙ counted
      ∙ ap (λ b. given_by b (given_before before f m)) (sym free)
    where
      leads : ℕ → Bool
      leads o = w.mappings.frame o == f

      last : (m < w.mappings.made) × (w.mappings.frame m ≡ f) × ((o : ℕ) → o < w.mappings.made → w.mappings.frame o ≡ f → o ≤ m)
      last = (fi.latest f m).0 h

      made : m < w.mappings.made
      made = last.0

      same : suc m + (w.mappings.made - suc m) ≡ w.mappings.made
      same = omega (arith, made)

      none : (o : ℕ) → suc m ≤ o → o < w.mappings.made → leads o ≡ true → ⊥
      none o l k so = let low = last.2 o k (eqb-true (w.mappings.frame o) f so) in absurd (omega (arith, low, l))

      counted : count_below (suc m) leads ≡ suc (count_below m leads)
      counted = counts m leads (eq-eqb (w.mappings.frame m) f last.1)

  frame_same : Invariant w → FindsMappings w.mappings → is_free w f ≡ true → (frame : ℕ)
      → given_at mapped frame (behind.latest frame) ≡ given_at w frame (before.latest frame)
  frame_same i fi free frame = go (ℕ_cases frame f)
    where
      its : given_at mapped f (behind.latest f) ≡ given_at w f (before.latest f)
      its =
          ap (given_at mapped f) (put-same before.latest f (Some before.made))
          ∙ ap (λ o. given_by (is_free_place (place_at mapped o)) (given_before behind f before.made)) (put-same before.latest f (Some before.made))
          ∙ ap (λ y. given_by (is_free_place (place_by mapped y)) (given_before behind f before.made)) (put-same before.state before.made Present)
          ∙ given_same f before.made (omega arith) ∙ given_all fi free (before.latest f) refl

      other : frame ≢ f → (o : Option ℕ) → before.latest frame ≡ o → behind.latest frame ≡ o → given_at mapped frame o ≡ given_at w frame o
      other ne None h k = refl
      other ne (Some m) h k =
          let made = (i.mapped.named frame m h).1 in
          ap₂ (λ o n. given_by (is_free_place (place_at mapped o)) n) k (given_same frame m (omega (arith, made)))
          ∙ ap (λ y. given_by (is_free_place (place_by mapped y)) (given_before before frame m)) (put-other before.state before.made Present m (not_new m made))
          ∙ ap (λ y. given_by (is_free_place y) (given_before before frame m)) (state_by (before.state m))
          ∙ ap (λ o. given_by (is_free_place (place_at w o)) (given_before before frame m)) (sym h)

      go : (frame ≡ f) ⊎ (frame ≢ f) → given_at mapped frame (behind.latest frame) ≡ given_at w frame (before.latest frame)
      go (inl e) = subst (λ z. given_at mapped z (behind.latest z) ≡ given_at w z (before.latest z)) (sym e) its
      go (inr ne) =
          let same = put-other before.latest f (Some before.made) frame ne in
          ap (given_at mapped frame) same ∙ other ne (before.latest frame) refl same

  -- ---- The pages

  abbrev page_now : Mapping
  page_now = record { space = s; page = q; target = record { frame = f; tenure = tenure_of w f; write = x } }

  new_page : FindsMappings w.mappings → is_free w f ≡ true
      → where_so (is_present (behind.state before.made)) (mapping_of behind before.made) ≡ page_now ∷ []
  new_page fi free =
      ap₂ (λ y z. mapping_by (behind.state before.made) y z (target_of behind before.made)) (put-same before.space before.made s)
      (put-same before.page before.made q)
      ∙ ap₂ (λ z b. mapping_by (behind.state before.made) s q (target_by z (given_before behind z before.made) b)) (put-same before.frame before.made f)
      (put-same before.write before.made x)
      ∙ ap₂ (λ y n. mapping_by y s q (target_by f n x)) (put-same before.state before.made Present)
      (given_same f before.made (omega arith) ∙ given_all fi free (before.latest f) refl)
    where
      mapping_by : MappingState → (space page : ℕ) → Target → List Mapping
      mapping_by y space page target = where_so (is_present y) (record { space = space; page = page; target = target })

  abbrev pages_at : ℕ → List Mapping
  pages_at m = where_so (is_present (w.mappings.state m)) (mapping_of w.mappings m)

  kept : Invariant w → before.at s q ≡ None → (n : ℕ) → filter (is_other_page s q) (gather n pages_at) ≡ gather n pages_at
  unfolding gather
  kept i none zero = refl
  kept i none (suc n) =
      filter-append (is_other_page s q) (gather n pages_at) (pages_at n)
      ∙ ap₂ (λ xs ys. xs ++ ys) (kept i none n) (each (before.state n) refl)
    where
      page : MappingState → List Mapping
      page y = where_so (is_present y) (mapping_of w.mappings n)

      other : before.state n ≡ Present → is_other_page s q (mapping_of w.mappings n) ≡ true
      other h =
          ap not
          (never ((before.space n == s) && (before.page n == q))
          (λ so. there (eqb-true (before.space n) s (first_holds (before.space n == s) (before.page n == q) so))
          (eqb-true (before.page n) q (second_holds (before.space n == s) (before.page n == q) so))))
        where
          there : before.space n ≡ s → before.page n ≡ q → ⊥
          there a b = absurd (cc (sym none ∙ sym (ap₂ (λ y z. before.at y z) a b) ∙ i.mapped.present_at n h))

      each : (y : MappingState) → before.state n ≡ y → filter (is_other_page s q) (page y) ≡ page y
      each Unmade h = refl
      each Present h = left (is_other_page s q) (mapping_of w.mappings n) [] (other h)
      each (Gone owed) h = refl

  pub maps : Invariant w → FindsMappings w.mappings → is_free w f ≡ true → f < w.config.frames → before.at s q ≡ None
      → next_open (open_of w) (doing.SetPage s q f x) ≡ Some (open_of mapped)
  maps i fi free low none =
      ap (set_page (open_of w) s q f x) (tabulate_get w.config.frames (tenure_of w) f low)
      ∙ ap (λ ms. Some (record (open_of w) { mappings = ms })) (ap (λ ms. ms ++ page_now ∷ []) (kept i none before.made) ∙ sym pages)
      ∙ ap Some (sym (ap₂ (λ fs ps. record (open_of w) { mappings = gather (suc before.made) pages_behind; frames = fs; parts = ps }) frames parts))
    where
      pages_behind : ℕ → List Mapping
      pages_behind m = where_so (is_present ((act w (Map s q f x)).mappings.state m)) (mapping_of (act w (Map s q f x)).mappings m)

      pages : gather (suc before.made) pages_behind ≡ gather before.made pages_at ++ page_now ∷ []
      pages =
          gather_next before.made pages_behind
          ∙ ap₂ (λ xs ys. xs ++ ys) (gather_same before.made pages_behind pages_at mapping_same) (new_page fi free)

      frames : tabulate w.config.frames (tenure_of mapped) ≡ tabulate w.config.frames (tenure_of w)
      frames =
          tabulate_same w.config.frames (tenure_of mapped) (tenure_of w)
          (λ k l. ap (λ n. record (tenure_of w k) { given = n }) (frame_same i fi free k))

      parts : tabulate w.config.endpoints (λ e. part_of mapped e (w.part e)) ≡ tabulate w.config.endpoints (λ e. part_of w e (w.part e))
      parts = tabulate_same w.config.endpoints (λ e. part_of mapped e (w.part e)) (λ e. part_of w e (w.part e)) (λ e l. part_same e i)
