-- The acts of the world that give a name to a binding or a job, and those of workers' hands, are the moves that they are.
use Rattle.std.proofs.Common.{◌≡◌, ◌≢◌, refl, ap, ◌∙◌, ℕ, suc, ◌+◌, ◌<◌, Bool, false, arith}
use Rattle.std.specs.Prelude.{Option, Some, None, option_map, [], ◌∷◌, ◌++◌, map}
use Rattle.sva_model.specs.Words.{put, select}
use Rattle.sva_model.specs.State.{JobName, World}
use Rattle.sva_model.specs.State.HostGroupState.{Job}
use Rattle.sva_model.specs.States.{is_unreleased, is_job}
use Rattle.sva_model.specs.Acts.{act}
use Rattle.sva_model.specs.Acts.Act.{NewBinding, NewJob, Hold, LetGo}
use Rattle.sva_model.specs.Labels
use Rattle.sva_model.specs.Wire.{binding_wire, group_job, job_wire, wire}
use Rattle.sva_labels.proofs.Words.{put-same, put-other}
use Rattle.sva_laws.proofs.Invariant.{Invariant}
use Rattle.sva_labels.proofs.Lists.{tabulate_same, tabulate_set}
use Rattle.sva_labels.specs.Moves.{moved}
use Rattle.sva_refinement.proofs.Named.{act_move}
use Rattle.sva_refinement.proofs.Selected.{select_seen, select_less, select_one}

apart : (j n : ℕ) → j < n → j ≢ n
apart j n l h = absurd (omega arith)

-- A binding that is only named isn't bound yet.

pub binding_named : (w : World) (e : ℕ) → Invariant w → wire (act w (NewBinding e)) ≡ moved (wire w) (act_move w (NewBinding e))
binding_named w e i =
    let more : w.config.first + suc w.bindings ≡ w.config.first + w.bindings + 1 = omega arith in
    λ k. record (wire w) { bindings = bindings k; next_binding = more k }
  where
    unbound : (b : ℕ) → is_unreleased ((w.part (put w.endpoint_of w.bindings e b)).stage w.bindings) ≡ false
    unbound b = ap is_unreleased ((i.parts (put w.endpoint_of w.bindings e b)).bounds.stage w.bindings (omega arith))

    bindings : (wire (act w (NewBinding e))).bindings ≡ (wire w).bindings
    bindings =
        select_less w.bindings (λ b. is_unreleased ((w.part (put w.endpoint_of w.bindings e b)).stage b))
        (λ b. binding_wire w.config.first (put w.endpoint_of w.bindings e b) (w.part (put w.endpoint_of w.bindings e b)) b) (unbound w.bindings)
        ∙ select_seen w.bindings _ _ _ _
        (λ b l. ap (λ x. is_unreleased ((w.part x).stage b)) (put-other w.endpoint_of w.bindings e b (apart b w.bindings l)))
        (λ b l t. ap (λ x. binding_wire w.config.first x (w.part x) b) (put-other w.endpoint_of w.bindings e b (apart b w.bindings l)))

-- A group whose last request was filed is a job.

pub job_named : (w : World) (e g : ℕ) → Invariant w → (w.part e).host_group g ≡ Job → wire (act w (NewJob e g)) ≡ moved (wire w) (act_move w (NewJob e g))
job_named w e g i h = λ k. record (wire w) { jobs = jobs k; hands = hands k }
  where
    new : JobName
    new = record { endpoint = e; group = g }

    shown : JobName → Bool
    shown x = is_job ((w.part x.endpoint).host_group x.group)

    jobs : (wire (act w (NewJob e g))).jobs ≡ (wire w).jobs ++ group_job w.config.first e (w.part e) g ∷ []
    jobs =
        select_one w.jobs (Labels.is_queued_job (act w (NewJob e g))) (job_wire (act w (NewJob e g))) (ap shown (put-same w.job w.jobs new) ∙ ap is_job h)
        ∙ ap (λ x. map (job_wire (act w (NewJob e g)))
        (select w.jobs (Labels.is_queued_job (act w (NewJob e g)))) ++ group_job w.config.first x.endpoint (w.part x.endpoint) x.group ∷ [])
        (put-same w.job w.jobs new)
        ∙ ap (λ xs. xs ++ group_job w.config.first e (w.part e) g ∷ [])
        (select_seen w.jobs _ _ _ _
        (λ j l. ap shown (put-other w.job w.jobs new j (apart j w.jobs l)))
        (λ j l t. ap (λ x. group_job w.config.first x.endpoint (w.part x.endpoint) x.group) (put-other w.job w.jobs new j (apart j w.jobs l))))

    hands : (wire (act w (NewJob e g))).hands ≡ (wire w).hands
    hands = tabulate_same w.config.workers _ _ (λ x l. go x (w.hand x) refl)
      where
        go : (x : ℕ) (o : Option ℕ) → w.hand x ≡ o → option_map (job_wire (act w (NewJob e g))) o ≡ option_map (job_wire w) o
        go x None k = refl
        go x (Some j) k =
            ap (λ z. Some (group_job w.config.first z.endpoint (w.part z.endpoint) z.group))
            (put-other w.job w.jobs new j (apart j w.jobs (i.hands.made x j k)))

-- A worker takes a job into its hand, and lets it go.

pub job_held : (w : World) (x j : ℕ) → wire (act w (Hold x j)) ≡ moved (wire w) (act_move w (Hold x j))
job_held w x j =
    let hands =
    tabulate_set w.config.workers (λ y. option_map (job_wire w) (w.hand y)) (λ y. option_map (job_wire w) (put w.hand x (Some j) y)) x
    (Some (job_wire w j)) (ap (option_map (job_wire w)) (put-same w.hand x (Some j)))
    (λ y ne. ap (option_map (job_wire w)) (put-other w.hand x (Some j) y ne)) in
    λ k. record (wire w) { hands = hands k }

pub job_let_go : (w : World) (x : ℕ) → wire (act w (LetGo x)) ≡ moved (wire w) (act_move w (LetGo x))
job_let_go w x =
    let hands =
    tabulate_set w.config.workers (λ y. option_map (job_wire w) (w.hand y)) (λ y. option_map (job_wire w) (put w.hand x None y)) x None
    (ap (option_map (job_wire w)) (put-same w.hand x None)) (λ y ne. ap (option_map (job_wire w)) (put-other w.hand x None y ne)) in
    λ k. record (wire w) { hands = hands k }
