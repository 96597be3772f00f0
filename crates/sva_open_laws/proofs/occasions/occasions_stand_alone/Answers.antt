use Rattle.sva_open_laws.proofs.OccasionRuns.{always_safe_apart, first_safe_apart, found_apart, left_out, occasion_law, runs_apart, runs_safe_apart}
use Rattle.sva_open_laws.proofs.OccasionSafety.{safe_apart}
use Rattle.sva_open_laws.proofs.occasions.occasions_stand_alone.Goals as goal

pub returns-clause-out : goal.returns-clause-out
returns-clause-out c = left_out

pub returns-clause-acts : goal.returns-clause-acts
returns-clause-acts c = occasion_law

pub returns-clause-safe : goal.returns-clause-safe
returns-clause-safe c = safe_apart

pub returns-clause-runs : goal.returns-clause-runs
returns-clause-runs c = runs_apart

pub returns-clause-along : goal.returns-clause-along
returns-clause-along c = runs_safe_apart

pub returns-clause-always : goal.returns-clause-always
returns-clause-always c = always_safe_apart

pub returns-clause-first : goal.returns-clause-first
returns-clause-first c = first_safe_apart

pub returns-clause-found : goal.returns-clause-found
returns-clause-found c = found_apart
