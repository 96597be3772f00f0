-- What a host with its table of jobs keeps before the first step.
use Rattle.std.proofs.Common.{◌≡◌, refl, ap, sym, ◌∙◌, subst, ℕ, zero, suc, ◌+◌, ◌≤◌, arith}
use Rattle.std.specs.Prelude.{None}
use Rattle.sva_step.specs.declared.limits.Config.{Config}
use Rattle.sva_model.specs.Words.{tabulate}
use Rattle.sva_model.specs.Wire.{Wire}
use Rattle.sva_labels.specs.Finding.{idle}
use Rattle.sva_labels.specs.Host.{first_wire}
use Rattle.sva_labels.specs.Waiting.{waiting}
use Rattle.sva_labels.proofs.WaitingSteps.{none_waiting}
use Rattle.sva_prq.specs.JobTable.{JobTable, no_jobs}
use Rattle.sva_parts_by_labels.specs.JobTable.{hands_seen}
use Rattle.sva_parts_by_labels.specs.JobTableLaws.{IsSound}
use Rattle.sva_parts_by_labels.proofs.JobTableSound.{first_sound}
use Rattle.sva_host.specs.Seen.{with_job_table}
use Rattle.sva_host.specs.Inner.{wire_of, AreHoused, IsHost}
use Rattle.sva_host.specs.declared.host.Host.TheInside.{Inside}
use Rattle.sva_host.proofs.Parts.{with_own}

empty_hands : (n : ℕ) → n ≤ 4 → hands_seen n no_jobs ≡ tabulate n (λ x. None)
unfolding tabulate
empty_hands zero few = refl
empty_hands (suc zero) few = refl
empty_hands (suc (suc zero)) few = refl
empty_hands (suc (suc (suc zero))) few = refl
empty_hands (suc (suc (suc (suc zero)))) few = refl
empty_hands (suc (suc (suc (suc (suc n))))) few = absurd (omega arith)

pub opened_apart : (config : Config) → config.workers ≤ 4 → with_job_table config.workers no_jobs (first_wire config) ≡ first_wire config
opened_apart config few = λ i. record (first_wire config) { parts = with_own config.endpoints idle refl i; hands = empty_hands config.workers few i }

pub opened_seen : (host : Inside) (config : Config) → config.workers ≤ 4 → host.state ≡ first_wire config → host.job_table ≡ no_jobs
    → host.workers ≡ config.workers
    → wire_of host ≡ first_wire config
opened_seen host config few state job_table workers = (λ i. with_job_table (workers i) (job_table i) (state i)) ∙ opened_apart config few

none_filed : (config : Config) (next : ℕ) → next ≡ 0 → next + waiting (first_wire config) ≤ config.first
none_filed config next none = omega (arith, none, none_waiting config)

pub opened : (host : Inside) (config : Config) → config.workers ≤ 4 → host.state ≡ first_wire config → host.job_table ≡ no_jobs
    → host.workers ≡ config.workers → IsHost host
opened host config few state job_table workers =
    record {
      apart = state ∙ sym (opened_apart config few) ∙ (λ i. with_job_table (sym workers i) no_jobs (sym state i));
      few = subst (λ (n : ℕ). n ≤ 4) (sym workers) few;
      sound = subst (λ (s : JobTable). IsSound host.workers s) (sym job_table) (first_sound host.workers);
      serials = subst (λ (w : Wire). host.job_table.groups.next + waiting w ≤ w.next_message) (sym state)
          (none_filed config host.job_table.groups.next (ap (λ (s : JobTable). s.groups.next) job_table));
      housed = subst (AreHoused host.state) (sym job_table) (λ e past. refl);
    }
