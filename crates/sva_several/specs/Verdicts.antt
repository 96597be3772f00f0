-- What is said of several texts: of how many each verdict, and the status.
use Rattle.std.specs.Prelude.{ℕ, ◌+◌, ◌||◌, ◌&&◌, nat_lt, if◌then◌else◌, Bool, true, false, List, [], ◌∷◌, Result, Ok, Err}
use Rattle.std.specs.declared.alloc.AllocError.{AllocError}
use Rattle.sva_race_reports.specs.declared.judging.Judged.TheVariants as judged
use Rattle.sva_driver_reports.specs.declared.reports.Ruling.TheVariants as ruling
use Rattle.sva_several.specs.declared.searching.Said.{Said}
use Rattle.sva_several.specs.declared.searching.Search.{Search}
use Rattle.sva_several.specs.declared.searching.Search.TheVariants.{Drivers}
use Rattle.sva_several.specs.declared.verdicts.Verdict.{Verdict}
use Rattle.sva_several.specs.declared.verdicts.Verdict.TheVariants.{Judged, Ruled, Done, Wrong, Memory, Unread}

abbrev pub verdict_of : Result Said AllocError → Verdict
verdict_of (Ok said) = said.verdict
verdict_of (Err fault) = Memory

abbrev pub is_same : Verdict → Verdict → Bool
is_same (Judged judged.Holds) (Judged judged.Holds) = true
is_same (Judged judged.Fails) (Judged judged.Fails) = true
is_same (Judged judged.Unknown) (Judged judged.Unknown) = true
is_same (Ruled ruling.Safe) (Ruled ruling.Safe) = true
is_same (Ruled ruling.Untried) (Ruled ruling.Untried) = true
is_same (Ruled ruling.Right) (Ruled ruling.Right) = true
is_same (Ruled ruling.Unsafe) (Ruled ruling.Unsafe) = true
is_same (Ruled ruling.Stuck) (Ruled ruling.Stuck) = true
is_same (Ruled ruling.CutOff) (Ruled ruling.CutOff) = true
is_same Done Done = true
is_same Wrong Wrong = true
is_same Memory Memory = true
is_same Unread Unread = true
is_same one other = false

abbrev pub one_if : Bool → ℕ
one_if so = if so then 1 else 0

-- of how many texts this is said
unfoldable pub count : Verdict → List (Result Said AllocError) → ℕ
count verdict [] = 0
count verdict (found ∷ rest) = one_if (is_same verdict (verdict_of found)) + count verdict rest

abbrev pub is_there : Verdict → List (Result Said AllocError) → Bool
is_there verdict all = nat_lt 0 (count verdict all)

abbrev pub is_one_bad : List (Result Said AllocError) → Bool
is_one_bad all = is_there (Judged judged.Fails) all || is_there (Ruled ruling.Unsafe) all || is_there (Ruled ruling.Stuck) all

abbrev pub is_one_open : List (Result Said AllocError) → Bool
is_one_open all = is_there (Judged judged.Unknown) all || is_there (Ruled ruling.CutOff) all

-- a verdict that says nothing has a status of its own
abbrev pub is_strict : Search → Bool
is_strict (Drivers most all strict) = strict
is_strict search = false

abbrev pub is_one_untried : Search → List (Result Said AllocError) → Bool
is_one_untried search all = is_strict search && is_there (Ruled ruling.Untried) all

-- one can't be read, else memory lacked for one, else one is wrong, else one fails or isn't safe, else one isn't known, else, if that is told,
-- in one nothing was ever tried
abbrev pub status_of : Search → List (Result Said AllocError) → ℕ
status_of search all =
    if is_there Unread all then 2 else if is_there Memory all then 6 else if is_there Wrong all then 1 else
    if is_one_bad all then 4 else if is_one_open all then 5 else if is_one_untried search all then 8 else 0
