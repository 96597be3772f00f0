-- The bindings after an act of an endpoint: most acts leave them as they are.
use Rattle.std.proofs.Common.{◌≡◌, ◌≢◌, ◌⊎◌, inl, inr, refl, ap, sym, subst, ◌∙◌, ℕ, suc, ◌+◌, ◌<◌, Bool, true, false, arith}
use Rattle.std.specs.Prelude.{◌&&◌, not, ◌==◌, if◌then◌else◌, [], ◌∷◌, ◌++◌, map}
use Rattle.std.proofs.lemmas.Bool.Decides.{nat_tests}
use Rattle.std.proofs.lemmas.Bool.{ne_eqb}
use Rattle.sva_model.specs.Words.{put, select}
use Rattle.sva_model.specs.State.{Stage, Endpoint, World}
use Rattle.sva_model.specs.State.Stage.{Unbound, Live, Stopping, Draining, Invalidating, Quiet, Lost, Released}
use Rattle.sva_model.specs.State.Order.{PasidOf, Wait}
use Rattle.sva_model.specs.States.{is_unreleased}
use Rattle.sva_model.specs.StateChanges.{cut_off as cut_stage, marked}
use Rattle.sva_model.specs.Acts.{LocalAct, act_alone, act}
use Rattle.sva_model.specs.Acts.Act.{AtEndpoint}
use Rattle.sva_model.specs.Wire.{BindingWire, StageWire, number, cookie_number, stage_wire, binding_wire, wire}
use Rattle.sva_model.specs.Wire.StageWire.{LiveWire, StoppingWire, DrainingWire, InvalidatingWire, QuietWire}
use Rattle.sva_labels.proofs.Words.{put-same, put-other, ℕ_cases}
use Rattle.sva_laws.proofs.Legal.{LegalLocalAct}
use Rattle.sva_laws.proofs.Orders.{Orders}
use Rattle.sva_laws.proofs.Invariant.{Invariant}
use Rattle.sva_laws.proofs.Passed.{unreleased_bound}
use Rattle.sva_labels.specs.Moves.{with_stage, without_binding, cut_off, cut_off_at}
use Rattle.sva_refinement.proofs.Selected.{select_seen, select_filtered, select_one, select_less, map_twice}
use Rattle.sva_refinement.proofs.Flights.{part_after, same_view}
use Rattle.sva_laws.proofs.Cookies.{own_old as old_order}
use Rattle.sva_labels.proofs.Tests.{and_no, is_itself}

-- What an entry of a binding reads: the order that its stage waits for among them.
abbrev pub KeepsOrder : (p q : Endpoint) → Stage → Type 0
KeepsOrder p q (Draining wait) = q.order wait ≡ p.order wait
KeepsOrder p q (Invalidating invalidation wait) = q.order wait ≡ p.order wait
KeepsOrder p q _ = Unit {0}

pub record KeepsBinding (p q : Endpoint) (b : ℕ) : Type 0 where
  pub space : q.space b ≡ p.space b
  pub pasid : q.pasid b ≡ p.pasid b
  pub stage : q.stage b ≡ p.stage b
  pub order : KeepsOrder p q (p.stage b)

stage_kept : (first : ℕ) (p q : Endpoint) (s : Stage) → KeepsOrder p q s → stage_wire first q s ≡ stage_wire first p s
stage_kept first p q Unbound k = refl
stage_kept first p q Live k = refl
stage_kept first p q (Stopping m) k = refl
stage_kept first p q (Draining wait) k = ap (λ o. DrainingWire (cookie_number first o)) k
stage_kept first p q (Invalidating invalidation wait) k = ap (λ o. InvalidatingWire (cookie_number first o)) k
stage_kept first p q Quiet k = refl
stage_kept first p q Lost k = refl
stage_kept first p q Released k = refl

binding_kept : (first e : ℕ) (p q : Endpoint) (b : ℕ) → KeepsBinding p q b → binding_wire first e q b ≡ binding_wire first e p b
binding_kept first e p q b k =
    ap (λ s. record { endpoint = e; space = number first (q.space b); binding = number first b; pasid = q.pasid b; stage = stage_wire first q s }) k.stage
    ∙ (λ i. record {
      endpoint = e;
      space = number first (k.space i);
      binding = number first b;
      pasid = k.pasid i;
      stage =
          stage_kept first p q (p.stage b) k.order i;
    })

pub keeps_order : (p : Endpoint) (n : ℕ) (o : LocalAct) (b : ℕ) → Orders p → KeepsOrder p (act_alone p n o) (p.stage b)
keeps_order p n o b od = go (p.stage b) refl
  where
    go : (s : Stage) → p.stage b ≡ s → KeepsOrder p (act_alone p n o) s
    go Unbound h = tt
    go Live h = tt
    go (Stopping m) h = tt
    go (Draining wait) h = old_order p n o wait (od.draining b wait h).1
    go (Invalidating invalidation wait) h = old_order p n o wait (od.invalidating b invalidation wait h).3
    go Quiet h = tt
    go Lost h = tt
    go Released h = tt

-- acts that change no binding
abbrev pub keeps_bindings : LocalAct → Bool
keeps_bindings (LocalAct.Bind b s t) = false
keeps_bindings (LocalAct.Stop b) = false
keeps_bindings (LocalAct.Drain b cookie) = false
keeps_bindings (LocalAct.Invalidate b cookie) = false
keeps_bindings (LocalAct.Quieten b) = false
keeps_bindings (LocalAct.Release b) = false
keeps_bindings (LocalAct.Mark c b) = false
keeps_bindings (LocalAct.Reopen c) = false
keeps_bindings _ = true

space_kept : (p : Endpoint) (n : ℕ) (o : LocalAct) (b : ℕ) → keeps_bindings o ≡ true → (act_alone p n o).space b ≡ p.space b
space_kept p n o b h = grind (arith)

pasid_kept : (p : Endpoint) (n : ℕ) (o : LocalAct) (b : ℕ) → keeps_bindings o ≡ true → (act_alone p n o).pasid b ≡ p.pasid b
pasid_kept p n o b h = grind (arith)

same_stage : (p : Endpoint) (n : ℕ) (o : LocalAct) (b : ℕ) → keeps_bindings o ≡ true → (act_alone p n o).stage b ≡ p.stage b
same_stage p n o b h = grind (arith)

pub bindings_same : (w : World) (e : ℕ) (o : LocalAct) → Invariant w → keeps_bindings o ≡ true → (wire (act w (AtEndpoint e o))).bindings ≡ (wire w).bindings
bindings_same w e o i h =
    select_seen w.bindings _ _ _ _
    (λ b l. same_view (λ p. is_unreleased (p.stage b)) w.part e (part_after w e o) (ap is_unreleased (same_stage (w.part e) w.messages o b h))
    (w.endpoint_of b))
    (λ b l t. same_view (λ p. binding_wire w.config.first (w.endpoint_of b) p b) w.part e (part_after w e o) (kept b) (w.endpoint_of b))
  where
    kept : (b : ℕ) → binding_wire w.config.first (w.endpoint_of b) (part_after w e o) b ≡ binding_wire w.config.first (w.endpoint_of b) (w.part e) b
    kept b =
        binding_kept w.config.first (w.endpoint_of b) (w.part e) (part_after w e o) b
        (record {
          space = space_kept (w.part e) w.messages o b h;
          pasid = pasid_kept (w.part e) w.messages o b h;
          stage = same_stage (w.part e) w.messages o b h;
          order = keeps_order (w.part e) w.messages o b (i.parts e).orders;
        })

-- What is said of a binding at its endpoint, by whether that is the endpoint of the act.
at_home :
    (w : World) (e : ℕ) (o : LocalAct) (P : ℕ → Endpoint → Type 0) (x : ℕ) → (x ≡ e → P e (part_after w e o)) → (x ≢ e → P x (w.part x))
    → P x ((act w (AtEndpoint e o)).part x)
at_home w e o P x here there = go (ℕ_cases x e)
  where
    go : (x ≡ e) ⊎ (x ≢ e) → P x (put w.part e (part_after w e o) x)
    go (inl k) = subst (λ z. P z (put w.part e (part_after w e o) z)) (sym k) (subst (P e) (sym (put-same w.part e (part_after w e o))) (here k))
    go (inr ne) = subst (P x) (sym (put-other w.part e (part_after w e o) x ne)) (there ne)

-- One binding comes to another stage.

pub record ComesToStage (first : ℕ) (p q : Endpoint) (b : ℕ) (st : StageWire) : Type 0 where
  pub was : is_unreleased (p.stage b) ≡ true
  pub now : is_unreleased (q.stage b) ≡ true
  pub stage : stage_wire first q (q.stage b) ≡ st
  pub space : q.space b ≡ p.space b
  pub pasid : q.pasid b ≡ p.pasid b
  pub others : (d : ℕ) → d ≢ b → KeepsBinding p q d

-- another number, and the same one
other_number : (first d b : ℕ) → d ≢ b → (first + d == first + b) ≡ false
other_number first d b ne = grind (arith, nat_tests)

own_number : (first d b : ℕ) → d ≡ b → (first + d == first + b) ≡ true
own_number first d b h = grind (arith, nat_tests)

pub bindings_staged :
    (w : World) (e : ℕ) (o : LocalAct) (b : ℕ) (st : StageWire) → Invariant w → ComesToStage w.config.first (w.part e) (part_after w e o) b st
    → (wire (act w (AtEndpoint e o))).bindings ≡ with_stage (number w.config.first b) st (wire w).bindings
bindings_staged w e o b st i k =
    select_seen w.bindings _ _ _ _
    (λ d l. at_home w e o (λ x q. is_unreleased (q.stage d) ≡ is_unreleased ((w.part x).stage d)) (w.endpoint_of d) (λ h. passes d (ℕ_cases d b)) (λ ne. refl))
    (λ d l t. at_home w e o (λ x q. binding_wire w.config.first x q d ≡ with_st (binding_wire w.config.first x (w.part x) d)) (w.endpoint_of d)
    (λ h. seen d (ℕ_cases d b)) (λ ne. away (w.endpoint_of d) d (λ x. ne (ap w.endpoint_of x ∙ endpoint_of))))
    ∙ sym (map_twice with_st _ (select w.bindings _))
  where
    endpoint_of : w.endpoint_of b ≡ e
    endpoint_of = i.one_endpoint e b (unreleased_bound (w.part e) b k.was)

    with_st : BindingWire → BindingWire
    with_st x = if x.binding == number w.config.first b then record x { stage = st } else x

    away : (x d : ℕ) → d ≢ b → binding_wire w.config.first x (w.part x) d ≡ with_st (binding_wire w.config.first x (w.part x) d)
    away x d ne =
        sym (ap (λ t. if t then record (binding_wire w.config.first x (w.part x) d) { stage = st } else binding_wire w.config.first x (w.part x) d)
        (other_number w.config.first d b ne))

    passes : (d : ℕ) → (d ≡ b) ⊎ (d ≢ b) → is_unreleased ((part_after w e o).stage d) ≡ is_unreleased ((w.part e).stage d)
    passes d (inl x) = ap (λ z. is_unreleased ((part_after w e o).stage z)) x ∙ k.now ∙ sym k.was ∙ ap (λ z. is_unreleased ((w.part e).stage z)) (sym x)
    passes d (inr ne) = ap is_unreleased (k.others d ne).stage

    at_b : binding_wire w.config.first e (part_after w e o) b ≡ record (binding_wire w.config.first e (w.part e) b) { stage = st }
    at_b = λ j. record { endpoint = e; space = number w.config.first (k.space j); binding = number w.config.first b; pasid = k.pasid j; stage = k.stage j }

    seen : (d : ℕ) → (d ≡ b) ⊎ (d ≢ b) → binding_wire w.config.first e (part_after w e o) d ≡ with_st (binding_wire w.config.first e (w.part e) d)
    seen d (inl x) =
        ap (binding_wire w.config.first e (part_after w e o)) x
        ∙ at_b
        ∙ ap (λ z. record (binding_wire w.config.first e (w.part e) z) { stage = st }) (sym x)
        ∙ sym (ap (λ t. if t then record (binding_wire w.config.first e (w.part e) d) { stage = st } else binding_wire w.config.first e (w.part e) d)
        (own_number w.config.first d b x))
    seen d (inr ne) = binding_kept w.config.first e (w.part e) (part_after w e o) d (k.others d ne) ∙ away e d ne

-- A binding that is new stands last. Its name was the last that was given.
pub bindings_bound :
    (w : World) (e b s t : ℕ) → Invariant w → LegalLocalAct w.mappings w.bindings (w.part e) (LocalAct.Bind b s t) → suc b ≡ w.bindings → w.endpoint_of b ≡ e
    → (wire (act w (AtEndpoint e (LocalAct.Bind b s t)))).bindings
    ≡ (wire w).bindings ++ record { endpoint = e; space = number w.config.first s; binding = number w.config.first b; pasid = t; stage = LiveWire } ∷ []
bindings_bound w e b s t i legal last endpoint_of =
    ap (λ n. map (λ d. binding_wire w.config.first (w.endpoint_of d) ((act w (AtEndpoint e o)).part (w.endpoint_of d)) d)
    (select n (λ d. is_unreleased (((act w (AtEndpoint e o)).part (w.endpoint_of d)).stage d)))) (sym last)
    ∙ select_one b (λ d. is_unreleased (((act w (AtEndpoint e o)).part (w.endpoint_of d)).stage d))
    (λ d. binding_wire w.config.first (w.endpoint_of d) ((act w (AtEndpoint e o)).part (w.endpoint_of d)) d)
    (at_part (λ x q. is_unreleased (q.stage b) ≡ true) (ap is_unreleased (put-same (w.part e).stage b Live)))
    ∙ ap (λ x. map (λ d. binding_wire w.config.first (w.endpoint_of d) ((act w (AtEndpoint e o)).part (w.endpoint_of d)) d)
    (select b (λ d. is_unreleased (((act w (AtEndpoint e o)).part (w.endpoint_of d)).stage d))) ++ x ∷ [])
    (at_part
    (λ x q. binding_wire w.config.first x q b
    ≡ record { endpoint = e; space = number w.config.first s; binding = number w.config.first b; pasid = t; stage = LiveWire }) new)
    ∙ ap (λ xs. xs ++ record { endpoint = e; space = number w.config.first s; binding = number w.config.first b; pasid = t; stage = LiveWire } ∷ [])
    (older ∙ sym before)
  where
    o : LocalAct
    o = LocalAct.Bind b s t

    at_part : (P : ℕ → Endpoint → Type 0) → P e (part_after w e o) → P (w.endpoint_of b) ((act w (AtEndpoint e o)).part (w.endpoint_of b))
    at_part P h = at_home w e o P (w.endpoint_of b) (λ k. h) (λ ne. absurd (ne endpoint_of))

    new :
        binding_wire w.config.first e (part_after w e o) b
        ≡ record { endpoint = e; space = number w.config.first s; binding = number w.config.first b; pasid = t; stage = LiveWire }
    new =
        λ j.
        record {
          endpoint = e;
          space = number w.config.first (put-same (w.part e).space b s j);
          binding = number w.config.first b;
          pasid = put-same (w.part e).pasid b t j;
          stage = stage_wire w.config.first (part_after w e o) (put-same (w.part e).stage b Live j);
        }

    apart : (d : ℕ) → d < b → d ≢ b
    apart d l h = absurd (omega arith)

    kept : (d : ℕ) → d ≢ b → KeepsBinding (w.part e) (part_after w e o) d
    kept d ne =
        record {
          space = put-other (w.part e).space b s d ne;
          pasid = put-other (w.part e).pasid b t d ne;
          stage = put-other (w.part e).stage b Live d ne;
          order = keeps_order (w.part e) w.messages o d (i.parts e).orders;
        }

    older :
        map (λ d. binding_wire w.config.first (w.endpoint_of d) ((act w (AtEndpoint e o)).part (w.endpoint_of d)) d)
        (select b (λ d. is_unreleased (((act w (AtEndpoint e o)).part (w.endpoint_of d)).stage d)))
        ≡ map (λ d. binding_wire w.config.first (w.endpoint_of d) (w.part (w.endpoint_of d)) d)
        (select b (λ d. is_unreleased ((w.part (w.endpoint_of d)).stage d)))
    older =
        select_seen b _ _ _ _
        (λ d l. same_view (λ p. is_unreleased (p.stage d)) w.part e (part_after w e o) (ap is_unreleased (kept d (apart d l)).stage) (w.endpoint_of d))
        (λ d l k. same_view (λ p. binding_wire w.config.first (w.endpoint_of d) p d) w.part e (part_after w e o)
        (binding_kept w.config.first (w.endpoint_of d) (w.part e) (part_after w e o) d (kept d (apart d l))) (w.endpoint_of d))

    unbound : is_unreleased ((w.part (w.endpoint_of b)).stage b) ≡ false
    unbound = ap (λ x. is_unreleased ((w.part x).stage b)) endpoint_of ∙ ap is_unreleased legal.2

    before :
        (wire w).bindings
        ≡ map (λ d. binding_wire w.config.first (w.endpoint_of d) (w.part (w.endpoint_of d)) d)
        (select b (λ d. is_unreleased ((w.part (w.endpoint_of d)).stage d)))
    before =
        ap (λ n. map (λ d. binding_wire w.config.first (w.endpoint_of d) (w.part (w.endpoint_of d)) d)
        (select n (λ d. is_unreleased ((w.part (w.endpoint_of d)).stage d)))) (sym last)
        ∙ select_less b (λ d. is_unreleased ((w.part (w.endpoint_of d)).stage d))
        (λ d. binding_wire w.config.first (w.endpoint_of d) (w.part (w.endpoint_of d)) d) unbound

-- One is released.
pub bindings_released :
    (w : World) (e b : ℕ) → Invariant w → LegalLocalAct w.mappings w.bindings (w.part e) (LocalAct.Release b)
    → (wire (act w (AtEndpoint e (LocalAct.Release b)))).bindings ≡ without_binding (number w.config.first b) (wire w).bindings
bindings_released w e b i legal =
    select_seen w.bindings _ _ _ _
    (λ d l. at_home w e o
    (λ x q. is_unreleased (q.stage d) ≡ (is_unreleased ((w.part x).stage d) && not (number w.config.first d == number w.config.first b))) (w.endpoint_of d)
    (λ h. here d (ℕ_cases d b)) (λ ne. left (is_unreleased ((w.part (w.endpoint_of d)).stage d)) d (λ x. ne (ap w.endpoint_of x ∙ endpoint_of))))
    (λ d l t. at_home w e o (λ x q. binding_wire w.config.first x q d ≡ binding_wire w.config.first x (w.part x) d) (w.endpoint_of d)
    (λ h. seen d (ℕ_cases d b) (sym (ap (λ x. is_unreleased ((w.part x).stage d) && not (number w.config.first d == number w.config.first b)) h) ∙ t))
    (λ ne. refl))
    ∙ sym (select_filtered w.bindings _ _ (λ x. not (x.binding == number w.config.first b)))
  where
    o : LocalAct
    o = LocalAct.Release b

    endpoint_of : w.endpoint_of b ≡ e
    endpoint_of = i.one_endpoint e b (λ x. absurd (cc (sym x ∙ legal)))

    left : (u : Bool) (d : ℕ) → d ≢ b → u ≡ (u && not (number w.config.first d == number w.config.first b))
    left u d ne = go u ∙ ap (λ t. u && not t) (sym (other_number w.config.first d b ne))
      where
        go : (u : Bool) → u ≡ (u && true)
        go true = refl
        go false = refl

    here :
        (d : ℕ) → (d ≡ b) ⊎ (d ≢ b)
        → is_unreleased ((part_after w e o).stage d) ≡ (is_unreleased ((w.part e).stage d) && not (number w.config.first d == number w.config.first b))
    here d (inl x) =
        ap (λ z. is_unreleased ((part_after w e o).stage z)) x
        ∙ ap is_unreleased (put-same (w.part e).stage b Released)
        ∙ sym (ap (λ t. is_unreleased ((w.part e).stage d) && not t) (own_number w.config.first d b x) ∙ and_no (is_unreleased ((w.part e).stage d)))
    here d (inr ne) = ap is_unreleased (put-other (w.part e).stage b Released d ne) ∙ left (is_unreleased ((w.part e).stage d)) d ne

    seen :
        (d : ℕ) → (d ≡ b) ⊎ (d ≢ b)
        → (is_unreleased ((w.part e).stage d) && not (number w.config.first d == number w.config.first b)) ≡ true
        → binding_wire w.config.first e (part_after w e o) d ≡ binding_wire w.config.first e (w.part e) d
    seen d (inl x) t =
        absurd (cc
        (sym (ap (λ z. is_unreleased ((w.part e).stage d) && not z) (own_number w.config.first d b x) ∙ and_no (is_unreleased ((w.part e).stage d))) ∙ t))
    seen d (inr ne) t =
        binding_kept w.config.first e (w.part e) (part_after w e o) d
        (record {
          space = refl;
          pasid = refl;
          stage = put-other (w.part e).stage b Released d ne;
          order =
              keeps_order (w.part e) w.messages o d (i.parts e).orders;
        })

-- A reset-done cuts off those of its endpoint.

cut_seen : (first : ℕ) (p q : Endpoint) (s : Stage) → stage_wire first q (cut_stage s) ≡ cut_off (stage_wire first p s)
cut_seen first p q Unbound = refl
cut_seen first p q Live = refl
cut_seen first p q (Stopping m) = refl
cut_seen first p q (Draining wait) = refl
cut_seen first p q (Invalidating invalidation wait) = refl
cut_seen first p q Quiet = refl
cut_seen first p q Lost = refl
cut_seen first p q Released = refl

cut_unreleased : (s : Stage) → is_unreleased (cut_stage s) ≡ is_unreleased s
cut_unreleased s = grind arith

pub bindings_cut : (w : World) (e c : ℕ) → (wire (act w (AtEndpoint e (LocalAct.Reopen c)))).bindings ≡ cut_off_at e (wire w).bindings
bindings_cut w e c =
    select_seen w.bindings _ _ _ _
    (λ d l. at_home w e o (λ x q. is_unreleased (q.stage d) ≡ is_unreleased ((w.part x).stage d)) (w.endpoint_of d)
    (λ h. cut_unreleased ((w.part e).stage d)) (λ ne. refl))
    (λ d l t. at_home w e o (λ x q. binding_wire w.config.first x q d ≡ cut (binding_wire w.config.first x (w.part x) d)) (w.endpoint_of d) (λ h. here d)
    (λ ne. sym
    (ap (λ z. if z
    then record (binding_wire w.config.first (w.endpoint_of d)
    (w.part (w.endpoint_of d)) d) { stage = cut_off (stage_wire w.config.first (w.part (w.endpoint_of d)) ((w.part (w.endpoint_of d)).stage d)) }
    else binding_wire w.config.first (w.endpoint_of d) (w.part (w.endpoint_of d)) d) (ne_eqb (w.endpoint_of d) e ne))))
    ∙ sym (map_twice cut _ (select w.bindings _))
  where
    o : LocalAct
    o = LocalAct.Reopen c

    cut : BindingWire → BindingWire
    cut x = if x.endpoint == e then record x { stage = cut_off x.stage } else x

    here : (d : ℕ) → binding_wire w.config.first e (part_after w e o) d ≡ cut (binding_wire w.config.first e (w.part e) d)
    here d =
        (λ j. record (binding_wire w.config.first e (w.part e) d) { stage = cut_seen w.config.first (w.part e) (part_after w e o) ((w.part e).stage d) j })
        ∙ sym (ap
        (λ z. if z
        then record (binding_wire w.config.first e (w.part e) d) { stage = cut_off (stage_wire w.config.first (w.part e) ((w.part e).stage d)) }
        else binding_wire w.config.first e (w.part e) d) (is_itself e))

-- The acts that bring a binding to another stage.

put_stage :
    (p : Endpoint) (n : ℕ) (o : LocalAct) (b : ℕ) (s : Stage) (first : ℕ) (st : StageWire) → Orders p → (act_alone p n o).stage ≡ put p.stage b s
    → (act_alone p n o).space ≡ p.space → (act_alone p n o).pasid ≡ p.pasid → is_unreleased (p.stage b) ≡ true → is_unreleased s ≡ true
    → stage_wire first (act_alone p n o) s ≡ st → ComesToStage first p (act_alone p n o) b st
put_stage p n o b s first st od stage space pasid was now seen =
    record {
      was = was;
      now = ap is_unreleased here ∙ now;
      stage = ap (stage_wire first (act_alone p n o)) here ∙ seen;
      space = ap (λ f. f b) space;
      pasid = ap (λ f. f b) pasid;
      others =
          λ d ne.
          record {
            space = ap (λ f. f d) space;
            pasid = ap (λ f. f d) pasid;
            stage = ap (λ f. f d) stage ∙ put-other p.stage b s d ne;
            order =
                keeps_order p n o d od;
          };
    }
  where
    here : (act_alone p n o).stage b ≡ s
    here = ap (λ f. f b) stage ∙ put-same p.stage b s

unreleased_is : (p : Endpoint) (b : ℕ) (s : Stage) → p.stage b ≡ s → is_unreleased s ≡ true → is_unreleased (p.stage b) ≡ true
unreleased_is p b s h k = ap is_unreleased h ∙ k

pub bindings_stopped :
    (w : World) (e b : ℕ) → Invariant w → LegalLocalAct w.mappings w.bindings (w.part e) (LocalAct.Stop b)
    → (wire (act w (AtEndpoint e (LocalAct.Stop b)))).bindings ≡ with_stage (number w.config.first b) (StoppingWire false) (wire w).bindings
bindings_stopped w e b i l =
    bindings_staged w e (LocalAct.Stop b) b (StoppingWire false) i
    (put_stage (w.part e) w.messages (LocalAct.Stop b) b (Stopping false) w.config.first (StoppingWire false) (i.parts e).orders refl refl refl
    (unreleased_is (w.part e) b Live l.1 refl) refl refl)

pub bindings_drained :
    (w : World) (e b : ℕ) → Invariant w → LegalLocalAct w.mappings w.bindings (w.part e) (LocalAct.Drain b w.cookies)
    → (wire (act w (AtEndpoint e (LocalAct.Drain b w.cookies)))).bindings
    ≡ with_stage (number w.config.first b) (DrainingWire (wire w).next_cookie) (wire w).bindings
bindings_drained w e b i l =
    bindings_staged w e (LocalAct.Drain b w.cookies) b (DrainingWire (wire w).next_cookie) i
    (put_stage (w.part e) w.messages (LocalAct.Drain b w.cookies) b (Draining (w.part e).orders) w.config.first (DrainingWire (wire w).next_cookie)
    (i.parts e).orders refl refl refl (unreleased_is (w.part e) b (Stopping true) l.1 refl) refl
    (ap (λ o. DrainingWire (cookie_number w.config.first o)) (put-same (w.part e).order (w.part e).orders (Wait w.cookies true))))

pub bindings_invalidated :
    (w : World) (e b : ℕ) → Invariant w → LegalLocalAct w.mappings w.bindings (w.part e) (LocalAct.Invalidate b w.cookies)
    → (wire (act w (AtEndpoint e (LocalAct.Invalidate b w.cookies)))).bindings
    ≡ with_stage (number w.config.first b) (InvalidatingWire (wire w).next_cookie) (wire w).bindings
bindings_invalidated w e b i l =
    bindings_staged w e (LocalAct.Invalidate b w.cookies) b (InvalidatingWire (wire w).next_cookie) i
    (put_stage (w.part e) w.messages (LocalAct.Invalidate b w.cookies) b (Invalidating (w.part e).orders (suc (w.part e).orders)) w.config.first
    (InvalidatingWire (wire w).next_cookie) (i.parts e).orders refl refl refl (unreleased_is (w.part e) b (Draining l.1.0) l.1.1 refl) refl
    (ap (λ o. InvalidatingWire (cookie_number w.config.first o))
    (put-same (put (w.part e).order (w.part e).orders (PasidOf b)) (suc (w.part e).orders) (Wait w.cookies false))))

pub bindings_quieted :
    (w : World) (e b : ℕ) → Invariant w → LegalLocalAct w.mappings w.bindings (w.part e) (LocalAct.Quieten b)
    → (wire (act w (AtEndpoint e (LocalAct.Quieten b)))).bindings ≡ with_stage (number w.config.first b) QuietWire (wire w).bindings
bindings_quieted w e b i l =
    bindings_staged w e (LocalAct.Quieten b) b QuietWire i
    (put_stage (w.part e) w.messages (LocalAct.Quieten b) b Quiet w.config.first QuietWire (i.parts e).orders refl refl refl (was l) refl refl)
  where
    was : LegalLocalAct w.mappings w.bindings (w.part e) (LocalAct.Quieten b) → is_unreleased ((w.part e).stage b) ≡ true
    was (inl h) = unreleased_is (w.part e) b Lost h refl
    was (inr h) = unreleased_is (w.part e) b (Invalidating h.0 h.1) h.3 refl

pub bindings_marked :
    (w : World) (e c b : ℕ) → Invariant w → LegalLocalAct w.mappings w.bindings (w.part e) (LocalAct.Mark c b)
    → (wire (act w (AtEndpoint e (LocalAct.Mark c b)))).bindings ≡ with_stage (number w.config.first b) (StoppingWire true) (wire w).bindings
bindings_marked w e c b i l =
    let stage : (w.part e).stage b ≡ Stopping false = (i.parts e).bindings.marker_stage c b l.0 in
    bindings_staged w e (LocalAct.Mark c b) b (StoppingWire true) i
    (put_stage (w.part e) w.messages (LocalAct.Mark c b) b (Stopping true) w.config.first (StoppingWire true) (i.parts e).orders
    (ap (λ s. put (w.part e).stage b (marked s)) stage) refl refl (unreleased_is (w.part e) b (Stopping false) stage refl) refl refl)
