-- A message may be delivered in the open world exactly where it may by MODEL.
use Rattle.std.proofs.Common.{◌≡◌, ◌≢◌, refl, ap, ap₂, sym, subst, ◌∙◌, ℕ, zero, suc, Bool, true, false}
use Rattle.std.specs.Prelude.{if◌then◌else◌, ◌==◌, ◌||◌, not, List, [], ◌∷◌, Option, Some, None, Contains, length, slice_get, take}
use Rattle.std.specs.List.{list_any}
use Rattle.std.proofs.lemmas.Bool.{eqb-true, eq-eqb}
use Rattle.std.proofs.lemmas.List.Folds.{list_any-append}
use Rattle.std.proofs.Math.Seq.{take-append_seam}
use Rattle.sva_model.specs.Words.{any_below}
use Rattle.sva_model.specs.LinkOrder as model
use Rattle.sva_model.specs.LinkOrder.MessageKind.{InvalidatedKind, PageRequestKind}
use Rattle.sva_model.specs.Labels
use Rattle.sva_model.specs.Labels.{is_permitted, kind_of}
use Rattle.sva_model.specs.State.{Endpoint, Mappings, Subject, World}
use Rattle.sva_model.specs.State.Subject.{StartOf, StopOf, FunctionReset, CompletionOf, InvalidateOf, ResponseOf, RequestOf, InvalidatedOf}
use Rattle.sva_model.specs.State.Subject.{PageRequestOf, MarkerOf, ResetDone}
use Rattle.sva_model.specs.Steps.{world_after}
use Rattle.sva_labels.proofs.Lists.{any_same}
use Rattle.sva_laws.proofs.Invariant.{Invariant}
use Rattle.sva_laws.proofs.Runs.{always}
use Rattle.sva_open.specs.Order.{holds_back}
use Rattle.sva_open.specs.declared.messages.Message.{Message}
use Rattle.sva_open.specs.declared.messages.Message.TheVariants as message
use Rattle.sva_open.specs.declared.messages.Sent.{Sent}
use Rattle.sva_open.specs.declared.settings.Link.TheVariants.{Free}
use Rattle.sva_open_laws.specs.AsOpen.{ended_of, flying_of, gather, sent_of}
use Rattle.sva_open_laws.specs.LinkOrders.{DeliveriesAreOne, IsDeliveredAlike}
use Rattle.sva_open_laws.proofs.DeviceActs.{never}
use Rattle.sva_open_laws.proofs.Gathered.{in_one}
use Rattle.sva_open_laws.proofs.GatherLists.{Split, get_at, split}
use Rattle.sva_open_laws.proofs.LinkOrders.{alike, kind_by, read_off}
use Rattle.sva_open_laws.proofs.Usable.{sent_low}

-- what one of the things that are gathered is
pub any_gathered : {A : Type 0} (q : A → Bool) (n : ℕ) (f : ℕ → List A) → list_any q (gather n f) ≡ any_below n (λ k. list_any q (f k))
unfolding gather any_below
any_gathered q zero f = refl
any_gathered q (suc n) f =
    list_any-append q (gather n f) (f n)
    ∙ ap (λ b. b || list_any q (f n)) (any_gathered q n f)
    ∙ turned (any_below n (λ k. list_any q (f k))) (list_any q (f n))
  where
    turned : (a b : Bool) → (a || b) ≡ (if b then true else a)
    turned true true = refl
    turned true false = refl
    turned false true = refl
    turned false false = refl

none_any : {A : Type 0} (q : A → Bool) (n : ℕ) (f : ℕ → List A) → ((k : ℕ) → list_any q (f k) ≡ false) → list_any q (gather n f) ≡ false
unfolding gather
none_any q zero f h = refl
none_any q (suc n) f h = list_any-append q (gather n f) (f n) ∙ ap₂ (λ a b. a || b) (none_any q n f h) (h n)

pub or_false : (b : Bool) → (b || false) ≡ b
or_false true = refl
or_false false = refl

-- nothing but a reset-done stays behind a completion of invalidations
passes_completions : (p : Endpoint) (x : Subject) → x ≢ ResetDone → model.stays_behind (kind_of p x) InvalidatedKind ≡ false
passes_completions p (StartOf b) ne = refl
passes_completions p (StopOf b) ne = refl
passes_completions p FunctionReset ne = refl
passes_completions p (CompletionOf r found) ne = refl
passes_completions p (InvalidateOf k) ne = refl
passes_completions p (ResponseOf g code) ne = refl
passes_completions p (RequestOf r) ne = refl
passes_completions p (InvalidatedOf names) ne = refl
passes_completions p (PageRequestOf r) ne = by (p.is_last r)
  where
    by : (last : Bool) → model.stays_behind (PageRequestKind last) InvalidatedKind ≡ false
    by true = refl
    by false = refl
passes_completions p (MarkerOf b) ne = refl
passes_completions p ResetDone ne = absurd (ne refl)

module _ (ms : Mappings) (p : Endpoint) (x : Subject) (m : Message) (kind : kind_by m ≡ kind_of p x) (ne : x ≢ ResetDone) where
  -- what is shown of an older message holds it back where that does
  behind_one : (y : Subject) (one : Sent) → Contains (sent_of ms p y) one → holds_back Free m one ≡ model.stays_behind (kind_of p x) (kind_of p y)
  behind_one y one h = alike m one.message ∙ ap₂ model.stays_behind kind (read_off ms p y one h)

  behind : (o : Option Subject) → list_any (holds_back Free m) (flying_of ms p o) ≡ Labels.holds_back p (kind_of p x) o
  behind None = refl
  behind (Some (StartOf b)) = or_false _ ∙ behind_one (StartOf b) _ (in_one _)
  behind (Some (StopOf b)) = or_false _ ∙ behind_one (StopOf b) _ (in_one _)
  behind (Some FunctionReset) = or_false _ ∙ behind_one FunctionReset _ (in_one _)
  behind (Some (CompletionOf r found)) = or_false _ ∙ behind_one (CompletionOf r found) _ (in_one _)
  behind (Some (InvalidateOf k)) = or_false _ ∙ behind_one (InvalidateOf k) _ (in_one _)
  behind (Some (ResponseOf g code)) = or_false _ ∙ behind_one (ResponseOf g code) _ (in_one _)
  behind (Some (RequestOf r)) = or_false _ ∙ behind_one (RequestOf r) _ (in_one _)
  behind (Some (InvalidatedOf names)) =
      none_any (holds_back Free m) p.orders (λ k. ended_of p (names k) k) (λ k. each (names k) k) ∙ sym (passes_completions p x ne)
    where
      each : (b : Bool) (k : ℕ) → list_any (holds_back Free m) (ended_of p b k) ≡ false
      each false k = refl
      each true k =
          or_false _ ∙ alike m (message.Invalidated (p.itag k)) ∙ ap (λ z. model.stays_behind z InvalidatedKind) kind ∙ passes_completions p x ne
  behind (Some (PageRequestOf r)) = or_false _ ∙ behind_one (PageRequestOf r) _ (in_one _)
  behind (Some (MarkerOf b)) = or_false _ ∙ behind_one (MarkerOf b) _ (in_one _)
  behind (Some ResetDone) = or_false _ ∙ behind_one ResetDone _ (in_one _)

pub delivered_alike : (w : World) (e c : ℕ) (x : Subject) (one : Sent) → Invariant w → (w.part e).message c ≡ Some x → x ≢ ResetDone
    → sent_of w.mappings (w.part e) x ≡ one ∷ [] → IsDeliveredAlike w e c x one
delivered_alike w e c x one i h ne is =
    record {
      stands = ap (λ z. slice_get z (length before)) s.whole ∙ get_at before one s.behind;
      permitted =
          ap (λ z. not (list_any (holds_back Free one.message) z))
          (ap (take (length before)) s.whole ∙ take-append_seam before (one ∷ s.behind))
          ∙ ap not
          (any_gathered (holds_back Free one.message) c flying
          ∙ any_same c (λ d. list_any (holds_back Free one.message) (flying d)) (λ d. Labels.holds_back p (kind_of p x) (p.message d))
          (λ d l. behind w.mappings p x one.message kind ne (p.message d)));
    }
  where
    p : Endpoint
    p = w.part e

    flying : ℕ → List Sent
    flying d = flying_of w.mappings (w.part e) ((w.part e).message d)

    before : List Sent
    before = gather c (λ d. flying_of w.mappings (w.part e) ((w.part e).message d))

    kind : kind_by one.message ≡ kind_of (w.part e) x
    kind = read_off w.mappings p x one (subst (λ z. Contains z one) (sym is) (in_one one))

    s : Split w.messages (λ d. flying_of w.mappings (w.part e) ((w.part e).message d)) (λ k. if k == c then [] else flying k) c one
    s =
        split w.messages flying (λ k. if k == c then [] else flying k) c one (sent_low w.messages p c x ((i.parts e).resets.unsent c) h)
        (ap (flying_of w.mappings p) h ∙ is) (first c) other
      where
        first : (k : ℕ) → (if k == k then [] else flying k) ≡ []
        first k = ap (λ (b : Bool). if b then [] else flying k) (eq-eqb k k refl)

        other : (k : ℕ) → k ≢ c → (if k == c then [] else flying k) ≡ flying k
        other k apart = ap (λ (b : Bool). if b then [] else flying k) (never (k == c) (λ same. apart (eqb-true k c same)))

pub deliveries_are_one : DeliveriesAreOne
deliveries_are_one rule config steps e c x one h ne is = delivered_alike (world_after rule config steps) e c x one (always rule config steps) h ne is
