-- What the labels of an endpoint's step find in what its device keeps: they find the records that bear them.
use Rattle.std.proofs.Common.{◌≡◌, refl, ap, sym, ◌∙◌, ℕ, zero, suc, ◌<◌, ◌≤◌, Bool, true, false, arith, get_or}
use Rattle.std.specs.Prelude.{Option, Some, None, option_map, ◌&&◌, not, ◌==◌, nat_lt, is_none, map}
use Rattle.std.specs.List.{find}
use Rattle.std.proofs.lemmas.Bool.Decides.{nat_tests}
use Rattle.std.proofs.lemmas.Bool.{ltb-false, ltb-true}
use Rattle.sva_model.specs.Words as words
use Rattle.sva_model.specs.Words.{any_below, lowest, select, tabulate, holds_of, the}
use Rattle.sva_model.specs.State.{Mappings, Endpoint}
use Rattle.sva_model.specs.State.PasidState.{Off}
use Rattle.sva_model.specs.States.{is_on, is_ending, is_unreleased}
use Rattle.sva_model.specs.Labels
use Rattle.sva_model.specs.Wire.{chain, is_before, state_of_pasid, request_wire, cached_wire, use_wire, taken_by, group_wire, device_wire}
use Rattle.sva_labels.proofs.Words.{lowest_below, any_below-true, any_below-intro, some_the}
use Rattle.sva_laws.proofs.Labels as Bears
use Rattle.sva_laws.proofs.Invariant.{PartInvariant}
use Rattle.sva_laws.proofs.Passed.{bearer_of}
use Rattle.sva_laws.proofs.Orders.{active_unreleased}
use Rattle.sva_labels.proofs.Tests.{both_same, same_inside}
use Rattle.sva_labels.proofs.Lists.{tabulate_past, tabulate_at}
use Rattle.sva_labels.specs.Finding.{pasid_state, is_at_page, cached, group_at, use_at, tag_at, taken_at}
use Rattle.sva_refinement.proofs.Lookups.{find_one, find_none, find_sorted, alone_select, and_two}

-- The state of a PASID is that of the binding which bears it; one outside 1 to 32 has none.

none_past : (p : Endpoint) → Bears.Labels p → (t : ℕ) → 32 < t → p.at_pasid t ≡ None
none_past p la t l = go (p.at_pasid t) refl
  where
    go : (o : Option ℕ) → p.at_pasid t ≡ o → o ≡ None
    go None h = refl
    go (Some b) h = absurd (let x = la.pasid_low t b h in omega (arith, x.1))

none_zero : (p : Endpoint) → Bears.Labels p → p.at_pasid 0 ≡ None
none_zero p la = go (p.at_pasid 0) refl
  where
    go : (o : Option ℕ) → p.at_pasid 0 ≡ o → o ≡ None
    go None h = refl
    go (Some b) h = absurd (let x = la.pasid_low 0 b h in omega (arith, x.0))

pub pasid_seen : (ms : Mappings) (p : Endpoint) → Bears.Labels p → (t : ℕ) → pasid_state (device_wire ms p) t ≡ state_of_pasid p (p.at_pasid t)
pasid_seen ms p la zero = sym (ap (state_of_pasid p) (none_zero p la))
pasid_seen ms p la (suc t) = go (nat_lt t 32) refl
  where
    go : (b : Bool) → nat_lt t 32 ≡ b → pasid_state (device_wire ms p) (suc t) ≡ state_of_pasid p (p.at_pasid (suc t))
    go true h = tabulate_at 32 (λ x. state_of_pasid p (p.at_pasid (suc x))) t Off (ltb-true t 32 h)
    go false h =
        let l : 32 ≤ t = ltb-false t 32 h in
        tabulate_past 32 (λ x. state_of_pasid p (p.at_pasid (suc x))) t Off l
        ∙ sym (ap (state_of_pasid p) (none_past p la (suc t) (omega arith)))

started_by : (p : Endpoint) (o : Option ℕ) → is_on (state_of_pasid p o) ≡ holds_of (λ b. is_on (p.pasid_state b)) o
started_by p None = refl
started_by p (Some b) = refl

ending_by : (p : Endpoint) (o : Option ℕ) → is_ending (state_of_pasid p o) ≡ holds_of (λ b. is_ending (p.pasid_state b)) o
ending_by p None = refl
ending_by p (Some b) = refl

pub started_seen : (ms : Mappings) (p : Endpoint) → Bears.Labels p → (t : ℕ) → is_on (pasid_state (device_wire ms p) t) ≡ Labels.is_started p t
started_seen ms p la t = ap is_on (pasid_seen ms p la t) ∙ started_by p (p.at_pasid t)

pub ending_seen : (ms : Mappings) (p : Endpoint) → Bears.Labels p → (t : ℕ) → is_ending (pasid_state (device_wire ms p) t) ≡ Labels.is_told_to_stop p t
ending_seen ms p la t = ap is_ending (pasid_seen ms p la t) ∙ ending_by p (p.at_pasid t)

-- A table of labels that ends where no label is borne.

table_seen :
    {A : Type 0} (n : ℕ) (at : ℕ → Option ℕ) (f : Option ℕ → Option A) → f None ≡ None → ((t k : ℕ) → at t ≡ Some k → t < n) → (t : ℕ)
    → get_or (tabulate n (λ x. f (at x))) t None ≡ f (at t)
table_seen {A = A} n at f none low t = go (nat_lt t n) refl
  where
    nothing : n ≤ t → (o : Option ℕ) → at t ≡ o → o ≡ None
    nothing l None h = refl
    nothing l (Some k) h = absurd (let m = low t k h in omega (arith, m, l))

    go : (b : Bool) → nat_lt t n ≡ b → get_or (tabulate n (λ x. f (at x))) t None ≡ f (at t)
    go true h = tabulate_at n (λ x. f (at x)) t None (ltb-true t n h)
    go false h = tabulate_past n (λ x. f (at x)) t None (ltb-false t n h) ∙ sym (ap f (nothing (ltb-false t n h) (at t) refl) ∙ none)

pub tag_seen : (ms : Mappings) (p : Endpoint) → Bears.Labels p → (t : ℕ) → tag_at (device_wire ms p) t ≡ option_map (request_wire p) (p.at_tag t)
tag_seen ms p la t = table_seen 32 p.at_tag (option_map (request_wire p)) refl la.tag_low t

pub use_seen : (ms : Mappings) (p : Endpoint) → Bears.Labels p → (t : ℕ) → use_at (device_wire ms p) t ≡ option_map (use_wire ms p) (p.at_slot t)
use_seen ms p la t = table_seen 16 p.at_slot (option_map (use_wire ms p)) refl la.slot_low t

pub taken_seen :
    (ms : Mappings) (p : Endpoint) → Bears.Labels p → (t : ℕ)
    → taken_at (device_wire ms p) t ≡ chain (λ k. taken_by ms p k (p.order_state k)) (p.at_itag t)
taken_seen ms p la t = table_seen 32 p.at_itag (chain (λ k. taken_by ms p k (p.order_state k))) refl la.itag_low t

pub group_seen :
    (ms : Mappings) (p : Endpoint) → ((t g : ℕ) → p.at_index t ≡ Some g → t < 32) → (t : ℕ)
    → group_at (device_wire ms p) t ≡ option_map (group_wire p) (p.at_index t)
group_seen ms p low t = table_seen 32 p.at_index (option_map (group_wire p)) refl low t

-- The translation that is cached for a page of a PASID.

and_three : (x : Bool) (a b c d : ℕ) → (x && a == b && c == d) ≡ true → (x ≡ true) × (a ≡ b) × (c ≡ d)
and_three x a b c d h = grind (arith, nat_tests)

all_three : (x : Bool) (a b c d : ℕ) → x ≡ true → a ≡ b → c ≡ d → (x && a == b && c == d) ≡ true
all_three x a b c d h k l = grind (arith, nat_tests)

-- a request whose answer is cached at a page of a PASID is one of the bearer's
holder :
    (ms : Mappings) (x g n e : ℕ) (p : Endpoint) → PartInvariant ms x g n e p → (t q r : ℕ) → words.is_some (p.held r) ≡ true
    → is_at_page t q (cached_wire ms p r) ≡ true → (p.at_pasid t ≡ Some (p.request_binding r)) × (p.request_page r ≡ q)
holder ms x g n e p i t q r s h =
    let same = and_two (p.pasid (p.request_binding r)) t (p.request_page r) q h in
    let u : is_unreleased (p.stage (p.request_binding r)) ≡ true =
    active_unreleased (p.stage (p.request_binding r)) (i.owners.held r (the (p.held r)) (some_the (p.held r) s)) in
    (sym (ap p.at_pasid same.0) ∙ i.labels.bears_pasid (p.request_binding r) u, same.1)

pub one_holder :
    (ms : Mappings) (x g n e : ℕ) (p : Endpoint) → PartInvariant ms x g n e p → (t q r s : ℕ) → words.is_some (p.held r) ≡ true
    → words.is_some (p.held s) ≡ true → is_at_page t q (cached_wire ms p r) ≡ true → is_at_page t q (cached_wire ms p s) ≡ true → r ≡ s
one_holder ms x g n e p i t q r s a b h k =
    let one = holder ms x g n e p i t q r a h in
    let two = holder ms x g n e p i t q s b k in
    let same : p.request_binding r ≡ p.request_binding s = same_inside (sym one.0 ∙ two.0) in
    i.requests.one_held r s (the (p.held r)) (the (p.held s)) (some_the (p.held r) a) (some_the (p.held s) b) same (one.1 ∙ sym two.1)

cache_find :
    (ms : Mappings) (x g n e : ℕ) (p : Endpoint) → PartInvariant ms x g n e p → (t q : ℕ)
    → cached (device_wire ms p) t q ≡ find (is_at_page t q) (map (cached_wire ms p) (select p.requests (λ r. words.is_some (p.held r))))
cache_find ms x g n e p i t q =
    find_sorted is_before (is_at_page t q) (map (cached_wire ms p) (select p.requests (λ r. words.is_some (p.held r))))
    (alone_select p.requests (λ r. words.is_some (p.held r)) (cached_wire ms p) (is_at_page t q)
    (λ j k l m a b h f. one_holder ms x g n e p i t q j k a b h f))

-- where something is cached, it is the one request's answer
pub cached_seen :
    (ms : Mappings) (x g n e : ℕ) (p : Endpoint) → PartInvariant ms x g n e p → (t q : ℕ) → Labels.is_cached p t q ≡ true
    → cached (device_wire ms p) t q ≡ Some (cached_wire ms p (Labels.cached p (Labels.bearer p t) q))
cached_seen ms x g n e p i t q h =
    let b = Labels.bearer p t in
    let bears = bearer_of p t (λ d. any_below p.requests (Labels.is_held_at p d q)) h in
    let some = any_below-true p.requests (Labels.is_held_at p b q) bears.1 in
    let low = lowest_below p.requests (Labels.is_held_at p b q) some.0 some.1 some.2 in
    let r = Labels.cached p b q in
    let three = and_three (words.is_some (p.held r)) (p.request_binding r) b (p.request_page r) q low.1 in
    let passes : is_at_page t q (cached_wire ms p r) ≡ true =
    both_same (p.pasid (p.request_binding r)) t (p.request_page r) q (ap p.pasid three.1 ∙ (i.labels.pasid_bears t b bears.0).0) three.2 in
    cache_find ms x g n e p i t q
    ∙ find_one p.requests (λ r. words.is_some (p.held r)) (cached_wire ms p) (is_at_page t q) r low.0 three.0 passes
    (λ j l s k. one_holder ms x g n e p i t q j r s three.0 k passes)

pub none_cached :
    (ms : Mappings) (x g n e : ℕ) (p : Endpoint) → PartInvariant ms x g n e p → (t q : ℕ) → Labels.is_cached p t q ≡ false
    → cached (device_wire ms p) t q ≡ None
none_cached ms x g n e p i t q h =
    cache_find ms x g n e p i t q
    ∙ find_none p.requests (λ r. words.is_some (p.held r)) (cached_wire ms p) (is_at_page t q)
    (λ r l s. other r l s (is_at_page t q (cached_wire ms p r)) refl)
  where
    other : (r : ℕ) → r < p.requests → words.is_some (p.held r) ≡ true → (b : Bool) → is_at_page t q (cached_wire ms p r) ≡ b → b ≡ false
    other r l s false k = refl
    other r l s true k =
        let y = holder ms x g n e p i t q r s k in
        let found : any_below p.requests (Labels.is_held_at p (p.request_binding r) q) ≡ true =
        any_below-intro p.requests (Labels.is_held_at p (p.request_binding r) q) r l
        (all_three (words.is_some (p.held r)) (p.request_binding r) (p.request_binding r) (p.request_page r) q s refl y.1)
        in
        absurd (cc (sym h ∙ ap (holds_of (λ d. any_below p.requests (Labels.is_held_at p d q))) y.0 ∙ found))

pub is_cached_seen :
    (ms : Mappings) (x g n e : ℕ) (p : Endpoint) → PartInvariant ms x g n e p → (t q : ℕ)
    → is_none (cached (device_wire ms p) t q) ≡ not (Labels.is_cached p t q)
is_cached_seen ms x g n e p i t q = go (Labels.is_cached p t q) refl
  where
    go : (b : Bool) → Labels.is_cached p t q ≡ b → is_none (cached (device_wire ms p) t q) ≡ not b
    go true h = ap is_none (cached_seen ms x g n e p i t q h)
    go false h = ap is_none (none_cached ms x g n e p i t q h)
