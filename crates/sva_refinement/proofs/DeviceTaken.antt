-- The invalidations in a device's hands, by ITag: what leaves them as they are.
use Rattle.std.proofs.Common.{◌≡◌, refl, ap, ◌∙◌, ℕ, Bool}
use Rattle.std.specs.Prelude.{Option, Some, None, List}
use Rattle.sva_model.specs.Words.{tabulate, holds_of}
use Rattle.sva_model.specs.State.{Mappings, OrderState, Endpoint}
use Rattle.sva_model.specs.State.OrderState.{Queued, Sent, Taken, Lapsed, Completing, Done, Void}
use Rattle.sva_model.specs.StateChanges.{binding_of, extent_of}
use Rattle.sva_model.specs.Wire.{TakenWire, chain, taken_by, is_noted}
use Rattle.sva_labels.proofs.Lists.{tabulate_same}

-- what the device keeps of the invalidation that bears an ITag
abbrev pub taken_seen : Mappings → Endpoint → (order : ℕ) → Option TakenWire
taken_seen ms p k = taken_by ms p k (p.order_state k)

abbrev pub taken_wire : Mappings → Endpoint → List (Option TakenWire)
taken_wire ms p = tabulate 32 (λ t. chain (taken_seen ms p) (p.at_itag t))

-- does the order wait for the use in the slot?
abbrev pub notes : Mappings → Endpoint → (order uses slot : ℕ) → Bool
notes ms p k uses t = holds_of (is_noted ms p k uses) (p.at_slot t)

-- what is kept of a taken order is alike
pub record SameTaken (ms other : Mappings) (p q : Endpoint) (k uses : ℕ) : Type 0 where
  pub pasid : q.pasid (binding_of (q.order k)) ≡ p.pasid (binding_of (p.order k))
  pub extent : extent_of (q.order k) ≡ extent_of (p.order k)
  pub slots : (t : ℕ) → notes other q k uses t ≡ notes ms p k uses t

pub taken_by_same :
    (ms other : Mappings) (p q : Endpoint) (k : ℕ) (s : OrderState) → ((uses : ℕ) → s ≡ Taken uses → SameTaken ms other p q k uses)
    → taken_by other q k s ≡ taken_by ms p k s
taken_by_same ms other p q k Queued h = refl
taken_by_same ms other p q k Sent h = refl
taken_by_same ms other p q k (Taken uses) h =
    let same = h uses refl in
    let slots : tabulate 16 (notes other q k uses) ≡ tabulate 16 (notes ms p k uses) =
    tabulate_same 16 (notes other q k uses) (notes ms p k uses) (λ t l. same.slots t) in
    λ i. Some (record { pasid = same.pasid i; extent = same.extent i; slots = slots i })
taken_by_same ms other p q k Lapsed h = refl
taken_by_same ms other p q k (Completing count left) h = refl
taken_by_same ms other p q k Done h = refl
taken_by_same ms other p q k Void h = refl

-- so the table is, where ITags and the orders that bear one stay as they are
pub taken_same :
    (ms other : Mappings) (p q : Endpoint) → ((t : ℕ) → q.at_itag t ≡ p.at_itag t)
    → ((t k : ℕ) → p.at_itag t ≡ Some k → q.order_state k ≡ p.order_state k)
    → ((t k uses : ℕ) → p.at_itag t ≡ Some k → p.order_state k ≡ Taken uses → SameTaken ms other p q k uses)
    → taken_wire other q ≡ taken_wire ms p
taken_same ms other p q itags states same =
    tabulate_same 32 (λ t. chain (taken_seen other q) (q.at_itag t)) (λ t. chain (taken_seen ms p) (p.at_itag t))
    (λ t l. ap (λ o. chain (taken_seen other q) o) (itags t) ∙ go (p.at_itag t) (states t) (λ k uses. same t k uses))
  where
    go :
        (o : Option ℕ) → ((k : ℕ) → o ≡ Some k → q.order_state k ≡ p.order_state k)
        → ((k uses : ℕ) → o ≡ Some k → p.order_state k ≡ Taken uses → SameTaken ms other p q k uses)
        → chain (taken_seen other q) o ≡ chain (taken_seen ms p) o
    go None s h = refl
    go (Some k) s h = ap (taken_by other q k) (s k refl) ∙ taken_by_same ms other p q k (p.order_state k) (λ uses e. h k uses refl e)
