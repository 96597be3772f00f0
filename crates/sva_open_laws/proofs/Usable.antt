-- The open world shows what is usable, which mappings are current, and whose a PASID is.
use Rattle.std.proofs.Common.{◌≡◌, ◌≢◌, ◌⊎◌, inl, inr, refl, ap, sym, subst, ◌∙◌, ℕ, ◌<◌, ◌≤◌, Bool, true, false, arith}
use Rattle.std.specs.Prelude.{◌==◌, ◌&&◌, Option, Some, None, option_map, Contains}
use Rattle.std.proofs.lemmas.Bool.{and_from, cases_lt, eqb-true, eq-eqb}
use Rattle.std.proofs.lemmas.List.Elements.{Contains-append_left}
use Rattle.sva_model.specs.State.{Stage, Subject, Endpoint, World}
use Rattle.sva_model.specs.State.Stage.{Unbound}
use Rattle.sva_model.specs.Words.{tabulate}
use Rattle.sva_model.specs.State.RequestState.{Out, Over}
use Rattle.sva_model.specs.State.UseState.{Running, Ended}
use Rattle.sva_model.specs.State.Subject.{CompletionOf}
use Rattle.sva_model.specs.States.{is_unreleased, is_out, is_running, is_free}
use Rattle.sva_model.specs.Claims.{Usable}
use Rattle.sva_model.specs.Claims.Usable.{cached, in_use, under_way}
use Rattle.sva_labels.proofs.Words.{ℕ_cases}
use Rattle.sva_labels.proofs.Lists.{tabulate_length}
use Rattle.std.proofs.lemmas.Option.{slice_get_within}
use Rattle.sva_laws.specs.LabelLaws.{FindsMappings}
use Rattle.sva_laws.proofs.Invariant.{Invariant}
use Rattle.sva_laws.proofs.Agreement.{owner, usable}
use Rattle.sva_laws.proofs.Found.{labelled}
use Rattle.sva_laws.proofs.Passed.{unreleased_bound}
use Rattle.sva_open.specs.declared.works.Work.TheVariants.{Use}
use Rattle.sva_open.specs.declared.messages.Message.TheVariants.{Completion}
use Rattle.sva_open.specs.declared.messages.Sent.{Sent as Flying}
use Rattle.sva_open.specs.Safe.{IsCurrent, IsPresent}
use Rattle.sva_open_laws.specs.AsOpen.{gather, if_there, where_so, given_at, given_by, given_before, tenure_of, target_of, translation_of, held_of}
use Rattle.sva_open_laws.specs.AsOpen.{owner_of, is_doomed, request_of, use_of, taken_of, flying_of, part_of, open_of, is_bound, had_before, row_at, owner_by}
use Rattle.sva_open_laws.specs.Shown.{IsShown}
use Rattle.sva_open_laws.specs.Shown.IsShown.{held as shows_held, in_use as shows_used, under_way as shows_coming}
use Rattle.sva_open_laws.proofs.Gathered.{in_gather, in_one, tabulate_get, inside, count_rises, greatest}

-- ---- frames

-- what is current is the last mapping of its frame, and the frame isn't free
pub last_of : (w : World) (m : ℕ) → Invariant w → FindsMappings w.mappings → m < w.mappings.made → IsCurrent (open_of w).frames (target_of w.mappings m)
    → (w.mappings.latest (w.mappings.frame m) ≡ Some m) × (is_free w (w.mappings.frame m) ≡ false)
last_of w m i fi made cu =
    let x = greatest w.mappings.made leads m made (eq-eqb f f refl) in
    let la = (fi.latest f x.0).1 (x.1, eqb-true (w.mappings.frame x.0) f x.2, λ o l same. x.3 o l (eq-eqb (w.mappings.frame o) f same)) in
    let now : cu.now ≡ tenure_of w f = inside (sym cu.found ∙ tabulate_get w.config.frames (tenure_of w) f (i.mapped.low m made)) in
    let g : given_before w.mappings f m ≡ given_by (is_free w f) (given_before w.mappings f x.0) =
    cu.given ∙ ap (λ t. t.given) now ∙ ap (given_at w f) la in
    by x.0 la (x.3 m made (eq-eqb f f refl)) (is_free w f) refl g
  where
    f : ℕ
    f = w.mappings.frame m

    leads : ℕ → Bool
    leads o = w.mappings.frame o == f

    by : (k : ℕ) → w.mappings.latest f ≡ Some k → m ≤ k → (b : Bool) → is_free w f ≡ b
        → given_before w.mappings f m ≡ given_by b (given_before w.mappings f k)
        → (w.mappings.latest f ≡ Some m) × (is_free w f ≡ false)
    by k la low b fr g = at (ℕ_cases m k)
      where
        rises : m ≢ k → given_before w.mappings f m < given_before w.mappings f k
        rises ne = count_rises k leads m (omega arith) (eq-eqb f f refl)

        never : (b : Bool) → m ≢ k → given_before w.mappings f m ≡ given_by b (given_before w.mappings f k) → ⊥
        never true ne h = let r = rises ne in omega arith
        never false ne h = let r = rises ne in omega arith

        same : (b : Bool) → m ≡ k → given_before w.mappings f m ≡ given_by b (given_before w.mappings f k) → b ≡ false
        same false e h = refl
        same true e h = let r = ap (given_before w.mappings f) e in absurd (omega arith)

        at : (m ≡ k) ⊎ (m ≢ k) → (w.mappings.latest f ≡ Some m) × (is_free w f ≡ false)
        at (inl e) = (la ∙ ap Some (sym e), fr ∙ same b e g)
        at (inr ne) = absurd (never b ne g)

pub current_by : (w : World) (m : ℕ) → Invariant w → m < w.mappings.made → w.mappings.latest (w.mappings.frame m) ≡ Some m
    → is_free w (w.mappings.frame m) ≡ false → IsCurrent (open_of w).frames (target_of w.mappings m)
current_by w m i made la fr =
    let f = w.mappings.frame m in
    record {
      now = tenure_of w f;
      found = tabulate_get w.config.frames (tenure_of w) f (i.mapped.low m made);
      given = sym (ap (given_at w f) la ∙ ap (λ z. given_by z (given_before w.mappings f m)) fr);
      frozen = λ write. refl;
    }

-- ---- endpoints

pub held_low : (n : ℕ) (p : Endpoint) (r m : ℕ) → (p.requests ≤ r → p.held r ≡ None) → p.held r ≡ Some m → r < p.requests
held_low n p r m h k = grind (arith, h)

pub out_low : (p : Endpoint) (r : ℕ) → (p.requests ≤ r → p.request r ≡ Over) → is_out (p.request r) ≡ true → r < p.requests
out_low p r h k = grind (arith, h, k)

pub run_low : (p : Endpoint) (u : ℕ) → (p.uses ≤ u → p.use_state u ≡ Ended) → p.use_state u ≡ Running → u < p.uses
run_low p u h k = grind (arith, h)

pub sent_low : (n : ℕ) (p : Endpoint) (c : ℕ) (s : Subject) → (n ≤ c → p.message c ≡ None) → p.message c ≡ Some s → c < n
sent_low n p c s h k = grind (arith, h)

pub bound_low : (w : World) (e b : ℕ) → Invariant w → (w.part e).stage b ≢ Unbound → b < w.bindings
bound_low w e b i h = go (cases_lt b w.bindings)
  where
    go : (b < w.bindings) ⊎ (w.bindings ≤ b) → b < w.bindings
    go (inl l) = l
    go (inr k) = absurd (h ((i.parts e).bounds.stage b k))

pub near : (w : World) (e b q m : ℕ) → Invariant w → Usable w e b q m → e < w.config.endpoints
near w e b q m i u = (i.parts e).there b (unreleased_bound (w.part e) b (owner w e b q m i u))

-- the completion that brings it
abbrev coming : World → Endpoint → (r m : ℕ) → Flying
coming w p r m =
    record {
      message = Completion (p.request_tag r) (p.request_page r) (Some (target_of w.mappings m));
      owner = owner_of p (p.request_binding r);
      number = p.resets;
    }

alive : (p : Endpoint) (r : ℕ) → p.request r ≡ Out
    → request_of p r ≡ record {
      pasid = p.pasid (p.request_binding r);
      page = p.request_page r;
      owner = owner_of p (p.request_binding r);
      is_doomed = false;
      noted = None;
    }
alive p r h = ap (λ z. record (request_of p r) { is_doomed = is_doomed z }) h

pub shown_at : (w : World) (e b q m : ℕ) → Invariant w → Usable w e b q m
    → IsShown (part_of w e (w.part e)) (translation_of w.mappings (w.part e) b q m)
shown_at w e b q m i (cached r k h) =
    let p = w.part e in
    let low = held_low 0 p r k ((i.parts e).bounds.held r) h in
    shows_held (in_gather p.requests (λ x. if_there (held_of w.mappings p x)) r
    (translation_of w.mappings p (p.request_binding r) (p.request_page r) k) low
    (subst (λ o. Contains (if_there (option_map (translation_of w.mappings p (p.request_binding r) (p.request_page r)) o))
    (translation_of w.mappings p (p.request_binding r) (p.request_page r) k)) (sym h) (in_one _)))
shown_at w e b q m i (in_use u h) =
    let p = w.part e in
    let low = run_low p u ((i.parts e).bounds.use_state u) h in
    let t = translation_of w.mappings p (p.use_binding u) (w.mappings.page (p.use_mapping u)) (p.use_mapping u) in
    shows_used (Contains-append_left (gather p.uses (λ x. where_so (is_running (p.use_state x)) (use_of w.mappings p x)))
    (gather p.orders (λ k. taken_of p (p.order_state k) k)) (Use t)
    (in_gather p.uses (λ x. where_so (is_running (p.use_state x)) (use_of w.mappings p x)) u (Use t) low
    (subst (λ z. Contains (where_so (is_running z) (use_of w.mappings p u)) (Use t)) (sym h) (in_one (Use t)))))
shown_at w e b q m i (under_way c r k h o) =
    let p = w.part e in
    let low = sent_low w.messages p c (CompletionOf r (Some k)) ((i.parts e).resets.unsent c) h in
    let out : is_out (p.request r) ≡ true = ap is_out o in
    let at = ((labelled w e i).tag (p.request_tag r) r).1 (out, refl) in
    shows_coming (request_of p r) (p.request_tag r) (coming w p r k)
    (in_gather w.messages (λ x. flying_of w.mappings p (p.message x)) c (coming w p r k) low
    (subst (λ z. Contains (flying_of w.mappings p z) (coming w p r k)) (sym h) (in_one (coming w p r k))))
    refl
    (tabulate_get 32 (λ t. option_map (request_of p) (p.at_tag t)) (p.request_tag r) ((labelled w e i).tag_low r out)
    ∙ ap (λ z. Some (option_map (request_of p) z)) at)
    (alive p r o)

pub made : (w : World) (e b q m : ℕ) → Invariant w → Usable w e b q m → m < w.mappings.made
made w e b q m i u = (i.mapped.named (w.mappings.frame m) m (usable w e b q m i u).0).1

pub bound_by : (s : Stage) → is_unreleased s ≡ true → is_bound s ≡ true
bound_by s h = grind arith

-- ---- owners

not_made : (s : Stage) → is_bound s ≡ true → s ≡ Unbound → ⊥
not_made s h k = absurd (cc (sym h ∙ ap is_bound k))

-- of two bindings that had a PASID the later one is a later owner
later_owner : (p : Endpoint) (b n : ℕ) → is_bound (p.stage b) ≡ true → b < n → owner_of p b < had_before p (p.pasid b) n
later_owner p b n bo l =
    count_rises n (λ x. is_bound (p.stage x) && (p.pasid x == p.pasid b)) b l
    (and_from (is_bound (p.stage b)) (p.pasid b == p.pasid b) bo (eq-eqb (p.pasid b) (p.pasid b) refl))

pub unreleased_of : (w : World) (e b : ℕ) → Invariant w → is_bound ((w.part e).stage b) ≡ true
    → IsPresent (part_of w e (w.part e)) ((w.part e).pasid b) (owner_of (w.part e) b) → is_unreleased ((w.part e).stage b) ≡ true
unreleased_of w e b i bo there = go (p.at_pasid (p.pasid b)) refl
  where
    p : Endpoint
    p = w.part e

    low : p.pasid b < 33
    low = subst (λ z. p.pasid b < z) (tabulate_length 33 (row_at w.bindings p))
        (slice_get_within (tabulate 33 (row_at w.bindings p)) (p.pasid b) there.row there.found)

    own : owner_of p b ≡ (row_at w.bindings p (p.pasid b)).owner
    own = there.same ∙ ap (λ r. r.owner) (inside (sym there.found ∙ tabulate_get 33 (row_at w.bindings p) (p.pasid b) low))

    go : (o : Option ℕ) → p.at_pasid (p.pasid b) ≡ o → is_unreleased (p.stage b) ≡ true
    go None at =
        let g : owner_of p b ≡ had_before p (p.pasid b) w.bindings = own ∙ ap (owner_by w.bindings p (p.pasid b)) at in
        let l = later_owner p b w.bindings bo (bound_low w e b i (not_made (p.stage b) bo)) in
        absurd (omega arith)
    go (Some d) at =
        let x = ((labelled w e i).pasid (p.pasid b) d).0 at in
        let g : owner_of p b ≡ owner_of p d = own ∙ ap (owner_by w.bindings p (p.pasid b)) at in
        by d x.0 x.1 g (ℕ_cases b d)
      where
        by : (d : ℕ) → is_unreleased (p.stage d) ≡ true → p.pasid d ≡ p.pasid b → owner_of p b ≡ owner_of p d → (b ≡ d) ⊎ (b ≢ d)
            → is_unreleased (p.stage b) ≡ true
        by d u same g (inl e) = subst (λ z. is_unreleased (p.stage z) ≡ true) (sym e) u
        by d u same g (inr ne) = apart (cases_lt b d)
          where
            apart : (b < d) ⊎ (d ≤ b) → is_unreleased (p.stage b) ≡ true
            apart (inl l) =
                let r = later_owner p b d bo l in
                let s : owner_of p d ≡ had_before p (p.pasid b) d = ap (λ z. had_before p z d) same in
                absurd (omega arith)
            apart (inr l) =
                let r = later_owner p d b (bound_by (p.stage d) u) (omega arith) in
                let s : owner_of p b ≡ had_before p (p.pasid d) b = ap (λ z. had_before p z b) (sym same) in
                absurd (omega arith)
