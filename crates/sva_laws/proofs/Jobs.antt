-- Jobs, hands and the host's groups: each group that is a job has one entry in the job table, and each group that is in a
-- worker's hand is the one of which that worker holds the job. A step keeps it as a whole; between two acts of it, it may
-- fail. Here are the four things that a step may do to it, on the tables alone.
use Rattle.std.proofs.Common.{◌≡◌, ◌≢◌, ◌⊎◌, inl, inr, refl, ap, sym, subst, ◌∙◌, ℕ, suc, ◌<◌, Bool, true, false, arith}
use Rattle.std.specs.Prelude.{Option, Some, None}
use Rattle.sva_model.specs.Words.{put}
use Rattle.sva_model.specs.State.{JobName, HostGroupState}
use Rattle.sva_model.specs.State.HostGroupState.{NotFiled, PartFiled, Job, InHand, Replied, Discarded}
use Rattle.sva_labels.proofs.Words.{put-same, put-other, ℕ_cases}
use Rattle.sva_laws.proofs.Invariant.{IsHeldBy}

-- was its last request filed, or did a reset drop it?
abbrev pub is_past : HostGroupState → Bool
is_past NotFiled = false
is_past PartFiled = false
is_past _ = true

-- of n jobs: their table, the workers' hands, and the host's state of each group of each endpoint
pub record Jobs (n : ℕ) (job : ℕ → JobName) (hand : ℕ → Option ℕ) (host : ℕ → ℕ → HostGroupState) : Type 0 where
  pub queued : (e g : ℕ) → host e g ≡ Job → (j : ℕ) × (j < n) × ((job j).endpoint ≡ e) × ((job j).group ≡ g)
  pub held : (e g x : ℕ) → IsHeldBy (host e g) x → (j : ℕ) × (hand x ≡ Some j) × ((job j).endpoint ≡ e) × ((job j).group ≡ g)
  pub past : (j : ℕ) → j < n → is_past (host (job j).endpoint (job j).group) ≡ true
  pub once : (j k : ℕ) → j < n → k < n → (job j).endpoint ≡ (job k).endpoint → (job j).group ≡ (job k).group → j ≡ k

-- what leaves the jobs of an endpoint where they are: what is past stays so, and no group becomes a job or comes to a hand
pub record Still (old new : ℕ → HostGroupState) : Type 0 where
  pub job : (g : ℕ) → new g ≡ Job → old g ≡ Job
  pub held : (g x : ℕ) → IsHeldBy (new g) x → IsHeldBy (old g) x
  pub past : (g : ℕ) → is_past (old g) ≡ true → is_past (new g) ≡ true

pub unchanged : (h : ℕ → HostGroupState) → Still h h
unchanged h = record { job = λ g k. k; held = λ g x k. k; past = λ g k. k }

pub still_jobs : (n : ℕ) (job : ℕ → JobName) (hand : ℕ → Option ℕ) (h k : ℕ → ℕ → HostGroupState) → ((e : ℕ) → Still (h e) (k e)) → Jobs n job hand h
    → Jobs n job hand k
still_jobs n job hand h k s j =
    record {
      queued = λ e g q. j.queued e g ((s e).job g q);
      held = λ e g x q. j.held e g x ((s e).held g x q);
      past = λ a l. (s (job a).endpoint).past (job a).group (j.past a l);
      once = j.once;
    }

-- one group changes
abbrev pub Others : (h k : ℕ → ℕ → HostGroupState) → (e g : ℕ) → Type 0
Others h k e g = (d f : ℕ) → (d ≢ e) ⊎ (f ≢ g) → k d f ≡ h d f

pub same_or_other : (d e f g : ℕ) → ((d ≡ e) × (f ≡ g)) ⊎ ((d ≢ e) ⊎ (f ≢ g))
same_or_other d e f g = go (ℕ_cases d e) (ℕ_cases f g)
  where
    go : (d ≡ e) ⊎ (d ≢ e) → (f ≡ g) ⊎ (f ≢ g) → ((d ≡ e) × (f ≡ g)) ⊎ ((d ≢ e) ⊎ (f ≢ g))
    go (inl a) (inl b) = inl (a, b)
    go (inr a) b = inr (inl a)
    go (inl a) (inr b) = inr (inr b)

is_there : (h : ℕ → ℕ → HostGroupState) (d e f g : ℕ) (s : HostGroupState) → d ≡ e → f ≡ g → h e g ≡ s → h d f ≡ s
is_there h d e f g s a b i = ap (λ z. h z f) a ∙ ap (λ z. h e z) b ∙ i

-- what a job's group is past stays past where the changed group is past then
past_then : (h k : ℕ → ℕ → HostGroupState) (e g : ℕ) (s : HostGroupState) → k e g ≡ s → is_past s ≡ true → Others h k e g → (d f : ℕ)
    → is_past (h d f) ≡ true → is_past (k d f) ≡ true
past_then h k e g s i p o d f was = go (same_or_other d e f g)
  where
    go : ((d ≡ e) × (f ≡ g)) ⊎ ((d ≢ e) ⊎ (f ≢ g)) → is_past (k d f) ≡ true
    go (inl x) = ap is_past (is_there k d e f g s x.0 x.1 i) ∙ p
    go (inr x) = ap is_past (o d f x) ∙ was

-- the last request of a group is filed, and the group is a job
pub filed : (n : ℕ) (job : ℕ → JobName) (hand : ℕ → Option ℕ) (h k : ℕ → ℕ → HostGroupState) (e g : ℕ) → ((x j : ℕ) → hand x ≡ Some j → j < n)
    → is_past (h e g) ≡ false → k e g ≡ Job → Others h k e g → Jobs n job hand h → Jobs (suc n) (put job n (record { endpoint = e; group = g })) hand k
filed n job hand h k e g made new i o j =
    record {
      queued = λ d f q. queued d f q (same_or_other d e f g);
      held = λ d f x q. held d f x q (same_or_other d e f g);
      past = λ a l. past a l (ℕ_cases a n);
      once = λ a b l m x y. once a b l m x y (ℕ_cases a n) (ℕ_cases b n);
    }
  where
    entry : JobName
    entry = record { endpoint = e; group = g }

    table : ℕ → JobName
    table = put job n entry

    old : (a : ℕ) → a ≢ n → table a ≡ job a
    old a ne = put-other job n entry a ne

    at_n : (a : ℕ) → a ≡ n → table a ≡ entry
    at_n a x = ap table x ∙ put-same job n entry

    apart : (a : ℕ) → a < n → a ≢ n
    apart a l x = absurd (omega arith)

    queued : (d f : ℕ) → k d f ≡ Job → ((d ≡ e) × (f ≡ g)) ⊎ ((d ≢ e) ⊎ (f ≢ g)) → (a : ℕ) × (a < suc n) × ((table a).endpoint ≡ d) × ((table a).group ≡ f)
    queued d f q (inl x) = (n, omega arith, ap (λ z. z.endpoint) (put-same job n entry) ∙ sym x.0, ap (λ z. z.group) (put-same job n entry) ∙ sym x.1)
    queued d f q (inr x) =
        let a = j.queued d f (sym (o d f x) ∙ q) in
        let low = a.1 in
        (a.0, omega arith, ap (λ z. z.endpoint) (old a.0 (apart a.0 a.1)) ∙ a.2, ap (λ z. z.group) (old a.0 (apart a.0 a.1)) ∙ a.3)

    not_job : (s : HostGroupState) (x : ℕ) → s ≡ Job → IsHeldBy s x → ⊥
    not_job s x a b = grind arith

    held : (d f x : ℕ) → IsHeldBy (k d f) x → ((d ≡ e) × (f ≡ g)) ⊎ ((d ≢ e) ⊎ (f ≢ g)) → (a : ℕ) × (hand x ≡ Some a) × ((table a).endpoint ≡ d)
        × ((table a).group ≡ f)
    held d f x q (inl y) = absurd (not_job (k d f) x (is_there k d e f g Job y.0 y.1 i) q)
    held d f x q (inr y) =
        let a = j.held d f x (subst (λ s. IsHeldBy s x) (o d f y) q) in
        let ne = apart a.0 (made x a.0 a.1) in
        (a.0, a.1, ap (λ z. z.endpoint) (old a.0 ne) ∙ a.2, ap (λ z. z.group) (old a.0 ne) ∙ a.3)

    past : (a : ℕ) → a < suc n → (a ≡ n) ⊎ (a ≢ n) → is_past (k (table a).endpoint (table a).group) ≡ true
    past a l (inl x) = ap (λ z. is_past (k z.endpoint z.group)) (at_n a x) ∙ ap is_past i
    past a l (inr ne) = ap (λ z. is_past (k z.endpoint z.group)) (old a ne)
        ∙ past_then h k e g Job i refl o (job a).endpoint (job a).group (j.past a (omega arith))

    -- no entry before was of the group
    none : (a : ℕ) → a < n → (job a).endpoint ≡ e → (job a).group ≡ g → ⊥
    none a l x y = absurd (cc (sym new ∙ sym (ap (λ z. is_past (h z g)) x) ∙ sym (ap (λ z. is_past (h (job a).endpoint z)) y) ∙ j.past a l))

    once : (a b : ℕ) → a < suc n → b < suc n → (table a).endpoint ≡ (table b).endpoint → (table a).group ≡ (table b).group → (a ≡ n) ⊎ (a ≢ n)
        → (b ≡ n) ⊎ (b ≢ n) → a ≡ b
    once a b l m x y (inl p) (inl q) = p ∙ sym q
    once a b l m x y (inr p) (inr q) =
        j.once a b (omega arith) (omega arith) (ap (λ z. z.endpoint) (sym (old a p)) ∙ x ∙ ap (λ z. z.endpoint) (old b q))
        (ap (λ z. z.group) (sym (old a p)) ∙ y ∙ ap (λ z. z.group) (old b q))
    once a b l m x y (inl p) (inr q) =
        absurd (none b (omega arith) (ap (λ z. z.endpoint) (sym (old b q)) ∙ sym x ∙ ap (λ z. z.endpoint) (at_n a p))
        (ap (λ z. z.group) (sym (old b q)) ∙ sym y ∙ ap (λ z. z.group) (at_n a p)))
    once a b l m x y (inr p) (inl q) =
        absurd (none a (omega arith) (ap (λ z. z.endpoint) (sym (old a p)) ∙ x ∙ ap (λ z. z.endpoint) (at_n b q)) (ap (λ z. z.group) (sym (old a p))
        ∙ y ∙ ap (λ z. z.group) (at_n b q)))

-- a worker whose hand is empty takes a job
pub taken : (n : ℕ) (job : ℕ → JobName) (hand : ℕ → Option ℕ) (h k : ℕ → ℕ → HostGroupState) (x j : ℕ) → hand x ≡ None
    → k (job j).endpoint (job j).group ≡ InHand x → Others h k (job j).endpoint (job j).group → Jobs n job hand h → Jobs n job (put hand x (Some j)) k
taken n job hand h k x j empty i o js =
    record {
      queued = λ d f q. queued d f q (same_or_other d (job j).endpoint f (job j).group);
      held = λ d f y q. held d f y q (same_or_other d (job j).endpoint f (job j).group);
      past = λ a l. past_then h k (job j).endpoint (job j).group (InHand x) i refl o (job a).endpoint (job a).group (js.past a l);
      once = js.once;
    }
  where
    queued : (d f : ℕ) → k d f ≡ Job → ((d ≡ (job j).endpoint) × (f ≡ (job j).group)) ⊎ ((d ≢ (job j).endpoint) ⊎ (f ≢ (job j).group)) → (a : ℕ)
        × (a < n) × ((job a).endpoint ≡ d) × ((job a).group ≡ f)
    queued d f q (inl y) = absurd (cc (sym (is_there k d (job j).endpoint f (job j).group (InHand x) y.0 y.1 i) ∙ q))
    queued d f q (inr y) = js.queued d f (sym (o d f y) ∙ q)

    holder : (s : HostGroupState) (y : ℕ) → s ≡ InHand x → IsHeldBy s y → y ≡ x
    holder s y a b = grind arith

    held : (d f y : ℕ) → IsHeldBy (k d f) y → ((d ≡ (job j).endpoint) × (f ≡ (job j).group)) ⊎ ((d ≢ (job j).endpoint) ⊎ (f ≢ (job j).group))
        → (a : ℕ) × (put hand x (Some j) y ≡ Some a) × ((job a).endpoint ≡ d) × ((job a).group ≡ f)
    held d f y q (inl z) = (
      j,
      ap (put hand x (Some j)) (holder (k d f) y (is_there k d (job j).endpoint f (job j).group (InHand x) z.0 z.1 i) q)
          ∙ put-same hand x (Some j),
      sym z.0,
      sym z.1,
    )
    held d f y q (inr z) =
        let a = js.held d f y (subst (λ s. IsHeldBy s y) (o d f z) q) in
        (a.0, put-other hand x (Some j) y (λ e. absurd (cc (sym empty ∙ sym (ap hand e) ∙ a.1))) ∙ a.1, a.2, a.3)

-- a worker lets its job go, and the group is answered or dropped
abbrev pub is_answered : HostGroupState → Bool
is_answered Replied = true
is_answered Discarded = true
is_answered _ = false

pub answered : (n : ℕ) (job : ℕ → JobName) (hand : ℕ → Option ℕ) (h k : ℕ → ℕ → HostGroupState) (x j : ℕ) → hand x ≡ Some j
    → is_answered (k (job j).endpoint (job j).group) ≡ true → Others h k (job j).endpoint (job j).group → Jobs n job hand h → Jobs n job (put hand x None) k
answered n job hand h k x j full i o js =
    record {
      queued = λ d f q. queued d f q (same_or_other d (job j).endpoint f (job j).group);
      held = λ d f y q. held d f y q (same_or_other d (job j).endpoint f (job j).group);
      past = λ a l. past_then h k (job j).endpoint (job j).group (k (job j).endpoint (job j).group) refl
          (answered_past (k (job j).endpoint (job j).group) i) o (job a).endpoint (job a).group (js.past a l);
      once = js.once;
    }
  where
    answered_past : (s : HostGroupState) → is_answered s ≡ true → is_past s ≡ true
    answered_past s a = grind arith

    not_job : (s : HostGroupState) → is_answered s ≡ true → s ≢ Job
    not_job s a b = grind arith

    not_held : (s : HostGroupState) (y : ℕ) → is_answered s ≡ true → IsHeldBy s y → ⊥
    not_held s y a b = grind arith

    here : (d f : ℕ) → d ≡ (job j).endpoint → f ≡ (job j).group → is_answered (k d f) ≡ true
    here d f a b = ap is_answered (is_there k d (job j).endpoint f (job j).group (k (job j).endpoint (job j).group) a b refl) ∙ i

    queued : (d f : ℕ) → k d f ≡ Job → ((d ≡ (job j).endpoint) × (f ≡ (job j).group)) ⊎ ((d ≢ (job j).endpoint) ⊎ (f ≢ (job j).group)) → (a : ℕ)
        × (a < n) × ((job a).endpoint ≡ d) × ((job a).group ≡ f)
    queued d f q (inl y) = absurd (not_job (k d f) (here d f y.0 y.1) q)
    queued d f q (inr y) = js.queued d f (sym (o d f y) ∙ q)

    some_same : (a b : ℕ) → Some a ≡ Some b → a ≡ b
    some_same a b e = grind arith

    other_hand : (d f y a : ℕ) → (d ≢ (job j).endpoint) ⊎ (f ≢ (job j).group) → hand y ≡ Some a → (job a).endpoint ≡ d → (job a).group ≡ f → y ≢ x
    other_hand d f y a (inl ne) m p q e = ne (sym p ∙ ap (λ z. (job z).endpoint) (some_same a j (sym m ∙ ap hand e ∙ full)))
    other_hand d f y a (inr ne) m p q e = ne (sym q ∙ ap (λ z. (job z).group) (some_same a j (sym m ∙ ap hand e ∙ full)))

    held : (d f y : ℕ) → IsHeldBy (k d f) y → ((d ≡ (job j).endpoint) × (f ≡ (job j).group)) ⊎ ((d ≢ (job j).endpoint) ⊎ (f ≢ (job j).group))
        → (a : ℕ) × (put hand x None y ≡ Some a) × ((job a).endpoint ≡ d) × ((job a).group ≡ f)
    held d f y q (inl z) = absurd (not_held (k d f) y (here d f z.0 z.1) q)
    held d f y q (inr z) =
        let a = js.held d f y (subst (λ s. IsHeldBy s y) (o d f z) q) in
        (a.0, put-other hand x None y (other_hand d f y a.0 z a.1 a.2 a.3) ∙ a.1, a.2, a.3)
