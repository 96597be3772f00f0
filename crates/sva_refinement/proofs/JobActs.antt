-- Jobs and hands after an act of an endpoint. A job shows what is filed of its group, and nothing is filed any more of a group
-- that is a job, or was one.
use Rattle.std.proofs.Common.{◌≡◌, ◌≢◌, ◌⊎◌, inl, inr, refl, ap, sym, ◌∙◌, ℕ, suc, ◌<◌, Bool, true, false, arith}
use Rattle.std.specs.Prelude.{Option, Some, None, option_map, ◌&&◌, not, ◌==◌, map, filter, drop}
use Rattle.std.proofs.lemmas.Bool.Decides.{nat_tests}
use Rattle.sva_model.specs.Words.{put, select}
use Rattle.sva_model.specs.State.{HostGroupState, Mappings, Endpoint, World}
use Rattle.sva_model.specs.State.HostGroupState.{InHand}
use Rattle.sva_model.specs.States.{is_job}
use Rattle.sva_model.specs.StateChanges.{discarded}
use Rattle.sva_model.specs.Acts.{LocalAct, act_alone, act}
use Rattle.sva_model.specs.Acts.Act.{AtEndpoint}
use Rattle.sva_model.specs.Labels
use Rattle.sva_model.specs.Wire.{AskWire, number, ask_wire, asks_wire, group_job, job_wire, wire}
use Rattle.sva_labels.proofs.Words.{put-same, put-other, ℕ_cases}
use Rattle.sva_laws.proofs.Legal.{LegalLocalAct}
use Rattle.sva_laws.proofs.Bounds.{Bounds}
use Rattle.sva_laws.proofs.Invariant.{Invariant, IsHeldBy}
use Rattle.sva_laws.proofs.Jobs.{is_past}
use Rattle.sva_labels.proofs.Lists.{tabulate_same}
use Rattle.sva_refinement.proofs.Selected.{select_seen, select_filtered, select_less, map_twice}
use Rattle.sva_refinement.proofs.Picked.{picked_drop}
use Rattle.sva_refinement.proofs.Flights.{part_after}
use Rattle.sva_refinement.proofs.HostGroupsFiled.{filing_same as filing_kept}
use Rattle.sva_refinement.proofs.HostGroupsFiled.{group_of_same as group_of_kept}

-- what is filed is made
abbrev pub FilesMade : Endpoint → Type 0
FilesMade p = (k : ℕ) → k < p.filings → p.filing k < p.page_requests

-- a request is filed in a group that isn't a job yet, and that no reset has dropped
abbrev pub FilesOpen : Endpoint → LocalAct → Type 0
FilesOpen p (LocalAct.File r) = is_past (p.host_group (p.group_of r)) ≡ false
FilesOpen p _ = Unit {0}

-- each job is of a group of which all is filed
abbrev pub JobsPast : World → Type 0
JobsPast w = (j : ℕ) → j < w.jobs → is_past ((w.part (w.job j).endpoint).host_group (w.job j).group) ≡ true

-- The entry of a group that is past.

under_kept : (p : Endpoint) (n : ℕ) (o : LocalAct) (g : ℕ) → FilesOpen p o → is_past (p.host_group g) ≡ true → (act_alone p n o).filed_under g ≡ p.filed_under g
under_kept p n o g f h = grind (arith, nat_tests)

index_kept : (p : Endpoint) (n : ℕ) (o : LocalAct) (g : ℕ) → g < p.groups → (act_alone p n o).index g ≡ p.index g
index_kept p n o g l = grind (arith, nat_tests)

page_kept : (p : Endpoint) (n : ℕ) (o : LocalAct) (r : ℕ) → r < p.page_requests → (act_alone p n o).asked_page r ≡ p.asked_page r
page_kept p n o r l = grind (arith, nat_tests)

read_kept : (p : Endpoint) (n : ℕ) (o : LocalAct) (r : ℕ) → r < p.page_requests → (act_alone p n o).asks_read r ≡ p.asks_read r
read_kept p n o r l = grind (arith, nat_tests)

write_kept : (p : Endpoint) (n : ℕ) (o : LocalAct) (r : ℕ) → r < p.page_requests → (act_alone p n o).asks_write r ≡ p.asks_write r
write_kept p n o r l = grind (arith, nat_tests)

pub ask_kept : (p : Endpoint) (n : ℕ) (o : LocalAct) (r : ℕ) → r < p.page_requests → ask_wire (act_alone p n o) r ≡ ask_wire p r
ask_kept p n o r l = λ i. record { page = page_kept p n o r l i; read = read_kept p n o r l i; write = write_kept p n o r l i }

-- nothing is filed, or one more, which is of another group
filed_more :
    (p : Endpoint) (n : ℕ) (o : LocalAct) (g : ℕ) → FilesOpen p o → is_past (p.host_group g) ≡ true
    → ((act_alone p n o).filings ≡ p.filings)
    ⊎ (((act_alone p n o).filings ≡ suc p.filings) × (((act_alone p n o).group_of ((act_alone p n o).filing p.filings) == g) ≡ false))
filed_more p n (LocalAct.File r) g f h =
    inr (refl, ap (λ x. p.group_of x == g) (put-same p.filing p.filings r) ∙ other)
  where
    other : (p.group_of r == g) ≡ false
    other = grind (arith, nat_tests)
filed_more p n o g f h = inl (grind arith)

asks_kept : (p : Endpoint) (n : ℕ) (o : LocalAct) (g : ℕ) → FilesMade p → FilesOpen p o → is_past (p.host_group g) ≡ true → asks_wire (act_alone p n o) g
    ≡ asks_wire p g
asks_kept p n o g made f h =
    map_twice (ask_wire (act_alone p n o)) (act_alone p n o).filing
    (select (act_alone p n o).filings (λ k. (act_alone p n o).group_of ((act_alone p n o).filing k) == g))
    ∙ same_many (filed_more p n o g f h)
    ∙ select_seen p.filings (λ k. (act_alone p n o).group_of ((act_alone p n o).filing k) == g) (λ k. p.group_of (p.filing k) == g)
    (λ k. ask_wire (act_alone p n o) ((act_alone p n o).filing k)) (λ k. ask_wire p (p.filing k))
    (λ k l. ap (λ r. (act_alone p n o).group_of r == g) (filing_kept p n o k l) ∙ ap (λ x. x == g) (group_of_kept p n o (p.filing k) (made k l)))
    (λ k l t. ap (ask_wire (act_alone p n o)) (filing_kept p n o k l) ∙ ask_kept p n o (p.filing k) (made k l))
    ∙ sym (map_twice (ask_wire p) p.filing (select p.filings (λ k. p.group_of (p.filing k) == g)))
  where
    entry : ℕ → AskWire
    entry k = ask_wire (act_alone p n o) ((act_alone p n o).filing k)

    same_many :
        ((act_alone p n o).filings ≡ p.filings)
        ⊎ (((act_alone p n o).filings ≡ suc p.filings) × (((act_alone p n o).group_of ((act_alone p n o).filing p.filings) == g) ≡ false))
        → map entry (select (act_alone p n o).filings (λ k. (act_alone p n o).group_of ((act_alone p n o).filing k) == g))
        ≡ map entry (select p.filings (λ k. (act_alone p n o).group_of ((act_alone p n o).filing k) == g))
    same_many (inl e) = ap (λ m. map entry (select m (λ k. (act_alone p n o).group_of ((act_alone p n o).filing k) == g))) e
    same_many (inr e) =
        ap (λ m. map entry (select m (λ k. (act_alone p n o).group_of ((act_alone p n o).filing k) == g))) e.0
        ∙ select_less p.filings (λ k. (act_alone p n o).group_of ((act_alone p n o).filing k) == g) entry e.1

past_made : (g : ℕ) (p : Endpoint) → Bounds g p → (x : ℕ) → is_past (p.host_group x) ≡ true → x < p.groups
past_made g p bo x h = grind (arith, bo.host_group x)

pub group_kept :
    (first e g : ℕ) (p : Endpoint) (n : ℕ) (o : LocalAct) (x : ℕ) → Bounds g p → FilesMade p → FilesOpen p o → is_past (p.host_group x) ≡ true
    → group_job first e (act_alone p n o) x ≡ group_job first e p x
group_kept first e g p n o x bo made f h =
    λ i.
    record {
      endpoint = e;
      binding = number first (under_kept p n o x f h i);
      index = index_kept p n o x (past_made g p bo x h) i;
      asks = asks_kept p n o x made f h i;
    }

-- so what a job shows stays
pub job_kept :
    (w : World) (e : ℕ) (o : LocalAct) (j : ℕ) → Invariant w → FilesMade (w.part e) → FilesOpen (w.part e) o
    → is_past ((w.part (w.job j).endpoint).host_group (w.job j).group) ≡ true → job_wire (act w (AtEndpoint e o)) j ≡ job_wire w j
job_kept w e o j i made f h = go (ℕ_cases (w.job j).endpoint e)
  where
    go : ((w.job j).endpoint ≡ e) ⊎ ((w.job j).endpoint ≢ e) → job_wire (act w (AtEndpoint e o)) j ≡ job_wire w j
    go (inl k) =
        (λ t. group_job w.config.first (k t) (put w.part e (part_after w e o) (k t)) (w.job j).group)
        ∙ ap (λ p. group_job w.config.first e p (w.job j).group) (put-same w.part e (part_after w e o))
        ∙ group_kept w.config.first e w.bindings (w.part e) w.messages o (w.job j).group (i.parts e).bounds made f
        (sym (ap (λ x. is_past ((w.part x).host_group (w.job j).group)) k) ∙ h)
        ∙ sym (λ t. group_job w.config.first (k t) (w.part (k t)) (w.job j).group)
    go (inr ne) = ap (λ p. group_job w.config.first (w.job j).endpoint p (w.job j).group) (put-other w.part e (part_after w e o) (w.job j).endpoint ne)

-- Hands.

held_past : (h : HostGroupState) (x : ℕ) → IsHeldBy h x → is_past h ≡ true
held_past h x k = grind arith

pub hands_same : (w : World) (e : ℕ) (o : LocalAct) → Invariant w → FilesMade (w.part e) → FilesOpen (w.part e) o → (wire (act w (AtEndpoint e o))).hands
    ≡ (wire w).hands
hands_same w e o i made f = tabulate_same w.config.workers _ _ (λ x l. go x (w.hand x) refl)
  where
    go : (x : ℕ) (h : Option ℕ) → w.hand x ≡ h → option_map (job_wire (act w (AtEndpoint e o))) h ≡ option_map (job_wire w) h
    go x None k = refl
    go x (Some j) k = ap (λ z. Some z) (job_kept w e o j i made f (held_past ((w.part (w.job j).endpoint).host_group (w.job j).group) x (i.hands.held x j k)))

-- Jobs.

abbrev pub keeps_jobs : LocalAct → Bool
keeps_jobs LocalAct.Reset = false
keeps_jobs (LocalAct.Hand g x) = false
keeps_jobs _ = true

-- what is past stays a job, or isn't one
still_job :
    (ms : Mappings) (b : ℕ) (p : Endpoint) (n : ℕ) (o : LocalAct) (g : ℕ) → LegalLocalAct ms b p o → FilesOpen p o → keeps_jobs o ≡ true
    → is_past (p.host_group g) ≡ true → is_job ((act_alone p n o).host_group g) ≡ is_job (p.host_group g)
still_job ms b p n o g l f k h = grind (arith, nat_tests)

pub jobs_same :
    (w : World) (e : ℕ) (o : LocalAct) → Invariant w → LegalLocalAct w.mappings w.bindings (w.part e) o → JobsPast w → FilesMade (w.part e)
    → FilesOpen (w.part e) o → keeps_jobs o ≡ true → (wire (act w (AtEndpoint e o))).jobs ≡ (wire w).jobs
jobs_same w e o i legal past made f k =
    select_seen w.jobs _ _ _ _ (λ j l. passes j l (ℕ_cases (w.job j).endpoint e)) (λ j l t. job_kept w e o j i made f (past j l))
  where
    passes :
        (j : ℕ) → j < w.jobs → ((w.job j).endpoint ≡ e) ⊎ ((w.job j).endpoint ≢ e)
        → is_job ((put w.part e (part_after w e o) (w.job j).endpoint).host_group (w.job j).group)
        ≡ is_job ((w.part (w.job j).endpoint).host_group (w.job j).group)
    passes j l (inl h) =
        ap (λ x. is_job ((put w.part e (part_after w e o) x).host_group (w.job j).group)) h
        ∙ ap (λ p. is_job (p.host_group (w.job j).group)) (put-same w.part e (part_after w e o))
        ∙ still_job w.mappings w.bindings (w.part e) w.messages o (w.job j).group legal f k
        (sym (ap (λ x. is_past ((w.part x).host_group (w.job j).group)) h) ∙ past j l)
        ∙ sym (ap (λ x. is_job ((w.part x).host_group (w.job j).group)) h)
    passes j l (inr ne) = ap (λ p. is_job (p.host_group (w.job j).group)) (put-other w.part e (part_after w e o) (w.job j).endpoint ne)

-- A reset drops the jobs of its endpoint.
pub jobs_dropped :
    (w : World) (e : ℕ) → Invariant w → FilesMade (w.part e)
    → (wire (act w (AtEndpoint e LocalAct.Reset))).jobs ≡ filter (λ job. not (job.endpoint == e)) (wire w).jobs
jobs_dropped w e i made =
    select_seen w.jobs _ _ _ _ (λ j l. passes j (ℕ_cases (w.job j).endpoint e))
    (λ j l t. job_kept w e LocalAct.Reset j i made tt (past ((w.part (w.job j).endpoint).host_group (w.job j).group) ((w.job j).endpoint == e) t))
    ∙ sym (select_filtered w.jobs (Labels.is_queued_job w) (job_wire w) (λ job. not (job.endpoint == e)))
  where
    past : (h : HostGroupState) (b : Bool) → (is_job h && not b) ≡ true → is_past h ≡ true
    past h b k = grind arith

    none : (h : HostGroupState) → is_job (discarded h) ≡ false
    none h = grind arith

    same : (a b : ℕ) → a ≡ b → (t : Bool) → false ≡ (t && not (a == b))
    same a b h t = grind (arith, nat_tests)

    other : (a b : ℕ) → a ≢ b → (t : Bool) → t ≡ (t && not (a == b))
    other a b h t = grind (arith, nat_tests)

    passes :
        (j : ℕ) → ((w.job j).endpoint ≡ e) ⊎ ((w.job j).endpoint ≢ e)
        → is_job ((put w.part e (part_after w e LocalAct.Reset) (w.job j).endpoint).host_group (w.job j).group)
        ≡ (is_job ((w.part (w.job j).endpoint).host_group (w.job j).group) && not ((w.job j).endpoint == e))
    passes j (inl h) =
        ap (λ x. is_job ((put w.part e (part_after w e LocalAct.Reset) x).host_group (w.job j).group)) h
        ∙ ap (λ p. is_job (p.host_group (w.job j).group)) (put-same w.part e (part_after w e LocalAct.Reset))
        ∙ none ((w.part e).host_group (w.job j).group)
        ∙ same (w.job j).endpoint e h (is_job ((w.part (w.job j).endpoint).host_group (w.job j).group))
    passes j (inr ne) =
        ap (λ p. is_job (p.host_group (w.job j).group)) (put-other w.part e (part_after w e LocalAct.Reset) (w.job j).endpoint ne)
        ∙ other (w.job j).endpoint e ne (is_job ((w.part (w.job j).endpoint).host_group (w.job j).group))

-- The group that is handed out is that of the first job in the queue, and of no other.
pub record HandsFirst (w : World) (e g j : ℕ) : Type 0 where
  pub made : j < w.jobs
  pub queued : Labels.is_queued_job w j ≡ true
  pub first : (k : ℕ) → k < j → Labels.is_queued_job w k ≡ false
  pub endpoint : (w.job j).endpoint ≡ e
  pub group : (w.job j).group ≡ g
  pub once : (k : ℕ) → k < w.jobs → (w.job k).endpoint ≡ e → (w.job k).group ≡ g → k ≡ j

pub jobs_handed :
    (w : World) (e g x j : ℕ) → Invariant w → JobsPast w → FilesMade (w.part e) → HandsFirst w e g j
    → (wire (act w (AtEndpoint e (LocalAct.Hand g x)))).jobs ≡ drop 1 (wire w).jobs
jobs_handed w e g x j i past made f =
    picked_drop w.jobs j (job_wire w) (job_wire (act w (AtEndpoint e o))) (Labels.is_queued_job w) after f.made f.queued f.first handed
    (λ k l ne. stays k (ℕ_cases (w.job k).endpoint e) (λ h m. ne (f.once k l h m)))
    (λ k l t. job_kept w e o k i made tt (past k l))
  where
    o : LocalAct
    o = LocalAct.Hand g x

    after : ℕ → Bool
    after = Labels.is_queued_job (act w (AtEndpoint e o))

    handed : after j ≡ false
    handed =
        ap (λ z. is_job ((put w.part e (part_after w e o) z).host_group (w.job j).group)) f.endpoint
        ∙ ap (λ p. is_job (p.host_group (w.job j).group)) (put-same w.part e (part_after w e o))
        ∙ ap (λ z. is_job (put (w.part e).host_group g (InHand x) z)) f.group
        ∙ ap is_job (put-same (w.part e).host_group g (InHand x))

    stays : (k : ℕ) → ((w.job k).endpoint ≡ e) ⊎ ((w.job k).endpoint ≢ e) → ((w.job k).endpoint ≡ e → (w.job k).group ≢ g) → after k
        ≡ Labels.is_queued_job w k
    stays k (inl h) ne =
        ap (λ z. is_job ((put w.part e (part_after w e o) z).host_group (w.job k).group)) h
        ∙ ap (λ p. is_job (p.host_group (w.job k).group)) (put-same w.part e (part_after w e o))
        ∙ ap is_job (put-other (w.part e).host_group g (InHand x) (w.job k).group (ne h))
        ∙ sym (ap (λ z. is_job ((w.part z).host_group (w.job k).group)) h)
    stays k (inr h) ne = ap (λ p. is_job (p.host_group (w.job k).group)) (put-other w.part e (part_after w e o) (w.job k).endpoint h)
