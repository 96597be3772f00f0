-- What a worker's reply has tested: each page that a success maps is unmapped then and its frame free, one after another.
use Rattle.std.proofs.Common.{◌≡◌, ◌≢◌, ◌⊎◌, inl, inr, refl, ap, sym, subst, ◌∙◌, ℕ, zero, suc, ◌<◌, ◌≤◌, Bool, true, false, arith}
use Rattle.std.specs.Prelude.{Option, Some, None, ◌||◌, ◌==◌, if◌then◌else◌, List, [], ◌∷◌, ◌++◌, map}
use Rattle.std.proofs.lemmas.Bool.Decides.{nat_tests}
use Rattle.std.proofs.lemmas.Bool.{not-false}
use Rattle.std.proofs.lemmas.List.{append-nil}
use Rattle.sva_step.specs.declared.steps.Step.TheVariants as step
use Rattle.sva_step.specs.declared.steps.Verdict.{Verdict}
use Rattle.sva_model.specs.Words.{put, select, is_some, the}
use Rattle.sva_model.specs.Message.{Code}
use Rattle.sva_model.specs.State.{MappingState, World, Stage, HostGroupState}
use Rattle.sva_model.specs.State.MappingState.{Unmade, Present, Gone}
use Rattle.sva_model.specs.State.Stage.{Unbound, Live, Stopping, Draining, Invalidating, Quiet, Lost, Released}
use Rattle.sva_model.specs.States.{is_open, is_unreleased, is_free, is_free_place, place_at, place_by, is_before_invalidating}
use Rattle.sva_model.specs.Acts.{LocalAct, act}
use Rattle.sva_model.specs.Acts.Act.{Map, LetGo, AtEndpoint}
use Rattle.sva_model.specs.Refusals.{refusals}
use Rattle.sva_model.specs.Outcomes.{outcome, reply_outcome}
use Rattle.sva_model.specs.Replies.{response, response_to, is_success, replies_success, unseen, newly_mapped, maps_to, reply_maps, free_list}
use Rattle.sva_model.specs.Replies.{is_write_asked, job_part, job_binding, job_space, job_asks}
use Rattle.sva_model.specs.Labels
use Rattle.sva_labels.proofs.Words.{put-same, put-other, ℕ_cases, none_is, some_the}
use Rattle.sva_laws.proofs.Invariant.{Invariant, IsHeldBy}
use Rattle.sva_laws.proofs.Keeps.{Legal, act_keeps}
use Rattle.sva_laws.proofs.Passed.{Passed, LegalAll}
use Rattle.sva_laws.proofs.LegalUnit.{group_there}
use Rattle.sva_laws.proofs.Resets.{open_is}

-- a frame is not among these
abbrev pub NotAmong : ℕ → List ℕ → Type 0
NotAmong f [] = Unit {0}
NotAmong f (g ∷ gs) = (g ≢ f) × NotAmong f gs

-- frames of the config that are free, each once
abbrev pub AreFree : World → List ℕ → Type 0
AreFree w [] = Unit {0}
AreFree w (f ∷ fs) = ((is_free w f ≡ true) × (f < w.config.frames)) × (NotAmong f fs × AreFree w fs)

-- mapping a page to another frame leaves a free frame free
free_other : (w : World) (s q f g : ℕ) (x : Bool) → Invariant w → g ≢ f → is_free w g ≡ true → is_free (act w (Map s q f x)) g ≡ true
free_other w s q f g x i ne h = go (w.mappings.latest g) refl
  where
    go : (o : Option ℕ) → w.mappings.latest g ≡ o → is_free (act w (Map s q f x)) g ≡ true
    go None e =
        ap (λ z. is_free_place (place_at (act w (Map s q f x)) z)) (put-other w.mappings.latest f (Some w.mappings.made) g ne ∙ e)
    go (Some m) e =
        let made = (i.mapped.named g m e).1 in
        let other : m ≢ w.mappings.made = omega arith in
        let same : put w.mappings.state w.mappings.made Present m ≡ w.mappings.state m = put-other w.mappings.state w.mappings.made Present m other in
        ap (λ z. is_free_place (place_at (act w (Map s q f x)) z)) (put-other w.mappings.latest f (Some w.mappings.made) g ne ∙ e)
        ∙ ap (λ z. is_free_place (place_by (act w (Map s q f x)) z)) same
        ∙ same_place (w.mappings.state m)
        ∙ sym (ap (λ z. is_free_place (place_at w z)) e)
        ∙ h
      where
        same_place : (z : MappingState) → is_free_place (place_by (act w (Map s q f x)) z) ≡ is_free_place (place_by w z)
        same_place Unmade = refl
        same_place Present = refl
        same_place (Gone owed) = refl

are_free_other : (w : World) (s q f : ℕ) (x : Bool) (fs : List ℕ) → Invariant w → NotAmong f fs → AreFree w fs → AreFree (act w (Map s q f x)) fs
are_free_other w s q f x [] i n a = tt
are_free_other w s q f x (g ∷ gs) i n a = ((free_other w s q f g x i n.0 a.0.0, a.0.1), (a.1.0, are_free_other w s q f x gs i n.1 a.1.1))

-- a page that is mapped isn't to be mapped again
next_unmapped : (w : World) (s q f : ℕ) (x : Bool) (seen : ℕ → Bool) → ((r : ℕ) → seen r ≡ false → w.mappings.at s r ≡ None) → (r : ℕ)
    → (r == q || seen r) ≡ false → (act w (Map s q f x)).mappings.at s r ≡ None
next_unmapped w s q f x seen u r h =
    let ne : r ≢ q = differ r h in
    ap (λ g. g r) (put-same w.mappings.at s (put (w.mappings.at s) q (Some w.mappings.made)))
    ∙ put-other (w.mappings.at s) q (Some w.mappings.made) r ne
    ∙ u r (rest r h)
  where
    differ : (r : ℕ) → (r == q || seen r) ≡ false → r ≢ q
    differ r h = grind (arith, nat_tests)

    rest : (r : ℕ) → (r == q || seen r) ≡ false → seen r ≡ false
    rest r h = grind (arith, nat_tests)

-- the pages that are mapped by a success, and then the response
maps_legal : (x e g : ℕ) (code : Code) (s : ℕ) (write : ℕ → Bool) (qs : List ℕ) (seen : ℕ → Bool) (fs : List ℕ) (w : World) → Invariant w
    → w.is_live s ≡ true → ((q : ℕ) → seen q ≡ false → w.mappings.at s q ≡ None) → AreFree w fs
    → LegalAll w (LetGo x ∷ AtEndpoint e (LocalAct.Respond g code) ∷ [])
    → LegalAll w (maps_to s write (unseen seen qs) fs ++ LetGo x ∷ AtEndpoint e (LocalAct.Respond g code) ∷ [])
maps_legal x e g code s write [] seen fs w i l u a rest = rest
maps_legal x e g code s write (q ∷ qs) seen fs w i l u a rest =
    go (seen q) refl (λ fs' k. maps_legal x e g code s write qs seen fs' w i l u k rest) fs a
    (λ f fs' h k. maps_legal x e g code s write qs (λ r. r == q || seen r) fs' (act w (Map s q f (write q))) (act_keeps w (Map s q f (write q)) h i)
    l (next_unmapped w s q f (write q) seen u) k rest)
  where
    go : (b : Bool) → seen q ≡ b
        → ((fs' : List ℕ) → AreFree w fs' → LegalAll w (maps_to s write (unseen seen qs) fs' ++ LetGo x ∷ AtEndpoint e (LocalAct.Respond g code) ∷ []))
        → (fs' : List ℕ) → AreFree w fs'
        → ((f : ℕ) (fs'' : List ℕ) → Legal w (Map s q f (write q)) → AreFree (act w (Map s q f (write q))) fs''
        → LegalAll (act w (Map s q f (write q))) (maps_to s write (unseen (λ r. r == q || seen r) qs) fs'' ++ LetGo x ∷ AtEndpoint e (LocalAct.Respond g code)
        ∷ [])) → LegalAll w (maps_to s write (if b then unseen seen qs else q ∷ unseen (λ r. r == q || seen r) qs) fs' ++ LetGo x
        ∷ AtEndpoint e (LocalAct.Respond g code) ∷ [])
    go true h same fs' k next = same fs' k
    go false h same [] k next = rest
    go false h same (f ∷ fs') k next =
        let here : Legal w (Map s q f (write q)) = (l, u q h, k.0.0, k.0.1) in
        (here, next f fs' here (are_free_other w s q f (write q) fs' i k.1.0 k.1.1))

-- the free frames, lowest first, are free and each once
abbrev pub AreBelow : ℕ → List ℕ → Type 0
AreBelow n [] = Unit {0}
AreBelow n (f ∷ fs) = (f < n) × AreBelow n fs

below_more : (n : ℕ) (fs : List ℕ) → AreBelow n fs → AreBelow (suc n) fs
below_more n [] h = tt
below_more n (f ∷ fs) h = (omega (arith, h.0), below_more n fs h.1)

below_push : (n : ℕ) (fs : List ℕ) → AreBelow n fs → AreBelow (suc n) (fs ++ n ∷ [])
below_push n [] h = (omega arith, tt)
below_push n (f ∷ fs) h = (omega (arith, h.0), below_push n fs h.1)

not_among_push : (f n : ℕ) (fs : List ℕ) → n ≢ f → NotAmong f fs → NotAmong f (fs ++ n ∷ [])
not_among_push f n [] ne h = (ne, tt)
not_among_push f n (g ∷ gs) ne h = (h.0, not_among_push f n gs ne h.1)

are_free_push : (w : World) (n : ℕ) (fs : List ℕ) → AreBelow n fs → (is_free w n ≡ true) × (n < w.config.frames) → AreFree w fs → AreFree w (fs ++ n ∷ [])
are_free_push w n [] b h a = (h, (tt, tt))
are_free_push w n (f ∷ fs) b h a =
    let ne : n ≢ f = omega (arith, b.0) in
    (a.0, (not_among_push f n fs ne a.1.0, are_free_push w n fs b.1 h a.1.1))

record Selected (w : World) (n : ℕ) (fs : List ℕ) : Type 0 where
  below : AreBelow n fs
  free : AreFree w fs

select_free : (w : World) (n : ℕ) → n ≤ w.config.frames → Selected w n (select n (is_free w))
unfolding select
select_free w zero lt = record { below = tt; free = tt }
select_free w (suc n) lt = go (is_free w n) refl (select_free w n (omega (arith, lt)))
  where
    go : (b : Bool) → is_free w n ≡ b → Selected w n (select n (is_free w)) → Selected w (suc n) (select n (is_free w) ++ (if b then n ∷ [] else []))
    go true h r = record {
      below = below_push n (select n (is_free w)) r.below;
      free =
          are_free_push w n (select n (is_free w)) r.below (h, omega (arith, lt)) r.free;
    }
    go false h r = subst (λ z. Selected w (suc n) z) (sym (append-nil (select n (is_free w))))
        (record { below = below_more n (select n (is_free w)) r.below; free = r.free })

-- the job of a hand is in that hand alone
let_go : (w : World) (x j : ℕ) → Invariant w → w.hand x ≡ Some j → (y k : ℕ) → put w.hand x None y ≡ Some k → (w.job k).endpoint ≡ (w.job j).endpoint
    → (w.job k).group ≢ (w.job j).group
let_go w x j i h y k g e same = go (ℕ_cases y x)
  where
    go : (y ≡ x) ⊎ (y ≢ x) → ⊥
    go (inl c) = absurd (cc (sym (subst (λ z. put w.hand x None z ≡ None) (sym c) (put-same w.hand x None)) ∙ g))
    go (inr ne) =
        let mine = i.hands.held x j h in
        let theirs = i.hands.held y k (sym (put-other w.hand x None y ne) ∙ g) in
        let here : IsHeldBy ((w.part (w.job j).endpoint).host_group (w.job j).group) y =
        subst (λ z. IsHeldBy ((w.part z).host_group (w.job j).group) y) e
        (subst (λ z. IsHeldBy ((w.part (w.job k).endpoint).host_group z) y) same theirs) in
        ne (one_hand ((w.part (w.job j).endpoint).host_group (w.job j).group) mine here)
      where
        one_hand : (s : HostGroupState) → IsHeldBy s x → IsHeldBy s y → y ≡ x
        one_hand s a b = grind arith

hand_there : (w : World) (x j : ℕ) → Invariant w → w.hand x ≡ Some j → (w.job j).endpoint < w.config.endpoints
hand_there w x j i h = group_there w (w.job j).endpoint (w.job j).group i (made (i.hands.held x j h))
  where
    made : IsHeldBy ((w.part (w.job j).endpoint).host_group (w.job j).group) x → (w.job j).group < (w.part (w.job j).endpoint).groups
    made k = grind (arith, (i.parts (w.job j).endpoint).bounds.host_group (w.job j).group)

-- no response is sent at a unit in reset, or for a binding that is past draining
silent : (o : Bool) (s : Stage) (v : Verdict) → response o s v ≡ None → o ≡ true → is_before_invalidating s ≡ false
silent true Unbound v h t = refl
silent true Live v h t = absurd (cc)
silent true (Stopping m) v h t = absurd (cc)
silent true (Draining x) v h t = absurd (cc)
silent true (Invalidating k x) v h t = refl
silent true Quiet v h t = refl
silent true Lost v h t = refl
silent true Released v h t = refl
silent false s v h t = absurd (cc)

sent_open : (o : Bool) (s : Stage) (v : Verdict) (code : Code) → response o s v ≡ Some code → (o ≡ true) × (is_before_invalidating s ≡ true)
sent_open true Unbound v code h = absurd (cc)
sent_open true Live v code h = (refl, refl)
sent_open true (Stopping m) v code h = (refl, refl)
sent_open true (Draining x) v code h = (refl, refl)
sent_open true (Invalidating k x) v code h = absurd (cc)
sent_open true Quiet v code h = absurd (cc)
sent_open true Lost v code h = absurd (cc)
sent_open true Released v code h = absurd (cc)
sent_open false s v code h = absurd (cc)

success_live : (o : Bool) (s : Stage) (v : Verdict) → is_success (response o s v) ≡ true → s ≡ Live
success_live true Unbound v h = absurd (cc)
success_live true Live v h = refl
success_live true (Stopping m) v h = absurd (cc)
success_live true (Draining x) v h = absurd (cc)
success_live true (Invalidating k x) v h = absurd (cc)
success_live true Quiet v h = absurd (cc)
success_live true Lost v h = absurd (cc)
success_live true Released v h = absurd (cc)
success_live false s v h = absurd (cc)

in_hand : (w : World) (x j : ℕ) → Invariant w → w.hand x ≡ Some j → (y : ℕ) × IsHeldBy ((w.part (w.job j).endpoint).host_group (w.job j).group) y
in_hand w x j i h = (x, i.hands.held x j h)

reply_at : (w : World) (x j : ℕ) (v : Verdict) (o : Option Code) → Invariant w → w.hand x ≡ Some j → response_to w j v ≡ o
    → LegalAll w (reply_outcome w x j (reply_maps w j v) o).acts
reply_at w x j v None i h r = (
  tt,
  (
    (
      hand_there w x j i h,
      ((in_hand w x j i h, λ ph. silent (is_open (job_part w j).phase) ((job_part w j).stage (job_binding w j)) v r (ap is_open ph)), tt),
      let_go w x j i h,
    ),
    tt,
  ),
)
reply_at w x j v (Some code) i h r =
    let sent = sent_open (is_open (job_part w j).phase) ((job_part w j).stage (job_binding w j)) v code r in
    let rest : LegalAll w (LetGo x ∷ AtEndpoint (w.job j).endpoint (LocalAct.Respond (w.job j).group code) ∷ []) =
    (tt, ((hand_there w x j i h, ((open_is (job_part w j) sent.0, in_hand w x j i h, sent.1), tt), let_go w x j i h), tt)) in
    go (replies_success w j v) refl rest
  where
    go : (b : Bool) → replies_success w j v ≡ b → LegalAll w (LetGo x ∷ AtEndpoint (w.job j).endpoint (LocalAct.Respond (w.job j).group code) ∷ [])
        → LegalAll w ((if b then maps_to (job_space w j) (is_write_asked w j) (newly_mapped w j) (free_list w) else []) ++ LetGo x
        ∷ AtEndpoint (w.job j).endpoint (LocalAct.Respond (w.job j).group code) ∷ [])
    go true e rest =
        maps_legal x (w.job j).endpoint (w.job j).group code (job_space w j) (is_write_asked w j) (map (job_part w j).asked_page (job_asks w j))
        (Labels.is_mapped w (job_space w j)) (free_list w) w i
        (i.mapped.bound_live (w.job j).endpoint (job_binding w j)
        (ap is_unreleased (success_live (is_open (job_part w j).phase) ((job_part w j).stage (job_binding w j)) v e)))
        (λ q k. none_is (w.mappings.at (job_space w j) q) k)
        (select_free w w.config.frames (omega arith)).free
        rest
    go false e rest = rest

pub reply : (w : World) (x : ℕ) (v : Verdict) → Invariant w → Passed (refusals w (step.Reply x v)) → LegalAll w (outcome w (step.Reply x v)).acts
reply w x v i h = reply_at w x (the (w.hand x)) v (response_to w (the (w.hand x)) v) i (some_the (w.hand x) (not-false (is_some (w.hand x)) h.1.0)) refl
