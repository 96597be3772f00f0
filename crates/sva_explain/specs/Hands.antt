-- What is said of workers' hands: one that is full, and one that is empty.
use Rattle.std.specs.Prelude.{ℕ, Option, Some, None, List, [], ◌++◌, codes}
use Rattle.sva_step.specs.declared.steps.Step.{Step}
use Rattle.sva_step.specs.declared.steps.Step.TheVariants as step
use Rattle.sva_model.specs.Wire.{JobWire, Wire}
use Rattle.sva_labels.specs.Finding.{held_by}
use Rattle.sva_lines.specs.Pieces.{field, line_end}
use Rattle.sva_explain.specs.Accepted.{is_accepted}
use Rattle.sva_explain.specs.declared.blockers.levels.Level.{Level}
use Rattle.sva_explain.specs.declared.blockers.levels.Level.TheVariants.{First}
use Rattle.sva_explain.specs.Lines.{bracket, indent, start}
use Rattle.sva_explain.specs.Requests.{invalid_text}

-- `worker 0 has group 1 of binding 0`
abbrev pub hand_text : Level → (worker : ℕ) → JobWire → List ℕ
hand_text level worker job =
    indent level ++ field (codes "worker ") worker ++ field (codes " has group ") job.index ++ field (codes " of binding ") job.binding

-- `worker 0 has group 1 of binding 0 in hand [answer 0 invalid]`
abbrev pub hand_line : Level → Wire → (worker : ℕ) → JobWire → List ℕ
hand_line level wire worker job = hand_text level worker job ++ codes " in hand" ++ invalid_text wire worker ++ line_end

abbrev pub full_lines : Wire → (worker : ℕ) → Option JobWire → List ℕ
full_lines wire worker None = []
full_lines wire worker (Some job) = hand_line First wire worker job

-- HandsFull: the job in hand
abbrev pub hands_full : Wire → Step → List ℕ
hands_full wire (step.Take worker) = full_lines wire worker (held_by wire worker)
hands_full wire other = []

-- `worker 0 has no job in hand [take 0]`
abbrev pub empty_line : Level → Wire → (worker : ℕ) → List ℕ
empty_line level wire worker =
    start level (codes "worker ") worker ++ codes " has no job in hand" ++ bracket (is_accepted wire (step.Take worker)) (codes " [take ") worker ++ line_end

abbrev pub no_job_line : Level → List ℕ
no_job_line level = indent level ++ codes "no job is queued" ++ line_end

-- NoJob: none is queued, or none in hand
abbrev pub no_job : Wire → Step → List ℕ
no_job wire (step.Reply worker verdict) = empty_line First wire worker
no_job wire other = no_job_line First
