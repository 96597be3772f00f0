-- A group of page requests has no more than 32 requests, and its index is below 32.
use Rattle.std.proofs.Common.{◌≡◌, refl, ap, sym, ◌∙◌, ℕ, suc, ◌<◌, ◌≤◌, Bool, true, false, arith}
use Rattle.std.specs.Prelude.{Option, Some, None, ◌==◌, if◌then◌else◌, List}
use Rattle.std.proofs.lemmas.Bool.Decides.{nat_tests}
use Rattle.std.proofs.lemmas.Bool.{eqb-true, ne_eqb}
use Rattle.sva_step.specs.declared.limits.Config.{Config}
use Rattle.sva_step.specs.declared.steps.Step.{Step}
use Rattle.sva_model.specs.Words.{put, count_below}
use Rattle.sva_model.specs.State.{PasidRule, Mappings, Endpoint, World}
use Rattle.sva_model.specs.States.{is_outstanding}
use Rattle.sva_model.specs.Unmappings.{submitted_if, submits, bound, cookie_of}
use Rattle.sva_model.specs.Acts.{Act, LocalAct, act, act_alone}
use Rattle.sva_model.specs.Acts.Act.{NewSpace, DropSpace, Map, Unmap, NewBinding, NewJob, Hold, LetGo, AtEndpoint}
use Rattle.sva_model.specs.Labels
use Rattle.sva_model.specs.Steps.{world_after}
use Rattle.sva_labels.proofs.Words.{put-same, put-other}
use Rattle.sva_labels.proofs.Counting.{count_same, count_less, count_zero}
use Rattle.sva_laws.proofs.Legal.{LegalLocalAct}
use Rattle.sva_laws.proofs.Bounds.{Bounds}
use Rattle.sva_laws.proofs.Invariant.{Invariant}
use Rattle.sva_laws.proofs.Keeps.{Legal, put_keeps}
use Rattle.sva_refinement.proofs.Granted.{IsGranted, always_has}

pub record Sized (p : Endpoint) : Type 0 where
  pub few : (y : ℕ) → count_below p.page_requests (λ r. p.group_of r == y) ≤ 32
  pub index_low : (y : ℕ) → p.index y < 32

one_more :
    (n : ℕ) (f g : ℕ → Bool) → ((k : ℕ) → k < n → g k ≡ f k) → (g n ≡ true → count_below n f < 32) → count_below n f ≤ 32
    → count_below (suc n) g ≤ 32
unfolding count_below
one_more n f g same now h = go (g n) refl
  where
    go : (b : Bool) → g n ≡ b → (if b then suc (count_below n g) else count_below n g) ≤ 32
    go true e = let l = now e in let s = count_same n g f same in omega (arith, l, s)
    go false e = let s = count_same n g f same in omega (arith, h, s)

-- the first request of a new group
begun_few :
    (p : Endpoint) (y : ℕ) → ((r : ℕ) → r < p.page_requests → p.group_of r < p.groups) → count_below p.page_requests (λ r. p.group_of r == y) ≤ 32
    → count_below (suc p.page_requests) (λ r. put p.group_of p.page_requests p.groups r == y) ≤ 32
begun_few p y made h =
    one_more p.page_requests (λ r. p.group_of r == y) (λ r. put p.group_of p.page_requests p.groups r == y)
    (λ k l. ap (λ z. z == y) (put-other p.group_of p.page_requests p.groups k (λ e. absurd (omega (arith, l, e)))))
    (λ t.
    let new : p.groups ≡ y = sym (put-same p.group_of p.page_requests p.groups) ∙ eqb-true (put p.group_of p.page_requests p.groups p.page_requests) y t in
    let none =
    count_zero p.page_requests (λ r. p.group_of r == y)
    (λ r l. let m = made r l in ne_eqb (p.group_of r) y (λ e. absurd (omega (arith, m, e, new)))) in
    omega (arith, none))
    h

-- one more of a group that isn't finished: all of it are outstanding
added_few :
    (p : Endpoint) (z y : ℕ) → is_outstanding (p.group z) ≡ true → Labels.outstanding p < 32 → count_below p.page_requests (λ r. p.group_of r == y) ≤ 32
    → count_below (suc p.page_requests) (λ r. put p.group_of p.page_requests z r == y) ≤ 32
added_few p z y out most h =
    one_more p.page_requests (λ r. p.group_of r == y) (λ r. put p.group_of p.page_requests z r == y)
    (λ k l. ap (λ x. x == y) (put-other p.group_of p.page_requests z k (λ e. absurd (omega (arith, l, e)))))
    (λ t.
    let its : z ≡ y = sym (put-same p.group_of p.page_requests z) ∙ eqb-true (put p.group_of p.page_requests z p.page_requests) y t in
    let less = count_less p.page_requests (λ r. p.group_of r == y) (λ r. is_outstanding (p.group (p.group_of r)))
    (λ r l s. ap (λ x. is_outstanding (p.group x)) (eqb-true (p.group_of r) y s ∙ sym its) ∙ out) in
    omega (arith, less, most))
    h

few_kept :
    (ms : Mappings) (g n : ℕ) (p : Endpoint) (o : LocalAct) → LegalLocalAct ms g p o → Bounds g p → (y : ℕ)
    → count_below p.page_requests (λ r. p.group_of r == y) ≤ 32
    → count_below (act_alone p n o).page_requests (λ r. (act_alone p n o).group_of r == y) ≤ 32
few_kept ms g n p (LocalAct.Group b i q r x l) lo bo y h = begun_few p y bo.group_of h
few_kept ms g n p (LocalAct.Request z q r x l) lo bo y h = added_few p z y (ap is_outstanding lo.0) lo.2 h
few_kept ms g n p _ lo bo y h = h

index_kept : (ms : Mappings) (g n : ℕ) (p : Endpoint) (o : LocalAct) → LegalLocalAct ms g p o → (y : ℕ) → p.index y < 32 → (act_alone p n o).index y < 32
index_kept ms g n p o l y h = grind (arith, nat_tests)

own_sized : (ms : Mappings) (g n : ℕ) (p : Endpoint) (o : LocalAct) → LegalLocalAct ms g p o → Bounds g p → Sized p → Sized (act_alone p n o)
own_sized ms g n p o l bo h =
    record {
      few = λ y. few_kept ms g n p o l bo y (h.few y);
      index_low = λ y. index_kept ms g n p o l y (h.index_low y);
    }

submitted_sized : (t : Bool) (p : Endpoint) (o : Option ℕ) (q count order cookie : ℕ) → Sized p → Sized (submitted_if t p o q count order cookie)
submitted_sized true p (Some b) q count order cookie h = record { few = h.few; index_low = h.index_low }
submitted_sized true p None q count order cookie h = h
submitted_sized false p o q count order cookie h = h

abbrev AllSized : World → Type 0
AllSized w = (e : ℕ) → Sized (w.part e)

all_kept : (w : World) (a : Act) → Legal w a → IsGranted w a → Invariant w → AllSized w → AllSized (act w a)
all_kept w NewSpace l g i h = h
all_kept w (DropSpace s) l g i h = h
all_kept w (Map s q f x) l g i h = h
all_kept w (Unmap s q count order) l g i h = λ e. submitted_sized (submits w s e) (w.part e) (bound w e s) q count order (cookie_of w s e) (h e)
all_kept w (NewBinding e) l g i h = h
all_kept w (NewJob e y) l g i h = h
all_kept w (Hold x j) l g i h = h
all_kept w (LetGo x) l g i h = h
all_kept w (AtEndpoint e o) l g i h =
    put_keeps (λ k p. Sized p) w.part e (act_alone (w.part e) w.messages o)
    (own_sized w.mappings w.bindings w.messages (w.part e) o l.1.0 (i.parts e).bounds (h e)) h

none_few : (y : ℕ) → count_below 0 (λ r. 0 == y) ≤ 32
unfolding count_below
none_few y = omega arith

pub always_sized : (rule : PasidRule) (config : Config) (steps : List Step) (e : ℕ) → Sized ((world_after rule config steps).part e)
always_sized rule config steps = always_has AllSized all_kept rule config steps (λ e. record { few = none_few; index_low = λ y. omega arith })
