use Rattle.sva_open_laws.proofs.PageAlone.{one_page}
use Rattle.sva_open_laws.proofs.PageRuns.{always_safe_apart, page_law, runs_apart, runs_safe_apart}
use Rattle.sva_open_laws.proofs.PageSafety.{safe_apart}
use Rattle.sva_open_laws.proofs.pages.pages_stand_alone.Goals as goal

pub returns-clause-alone : goal.returns-clause-alone
returns-clause-alone c = one_page

pub returns-clause-acts : goal.returns-clause-acts
returns-clause-acts c = page_law

pub returns-clause-safe : goal.returns-clause-safe
returns-clause-safe c = safe_apart

pub returns-clause-runs : goal.returns-clause-runs
returns-clause-runs c = runs_apart

pub returns-clause-along : goal.returns-clause-along
returns-clause-along c = runs_safe_apart

pub returns-clause-always : goal.returns-clause-always
returns-clause-always c = always_safe_apart
