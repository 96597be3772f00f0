-- What a line comes to that is taken.
use Rattle.std.proofs.Common.{◌≡◌, ◌∙◌, ap, refl, subst, sym, ℕ, ◌+◌, false, not, List, [], ◌∷◌, ◌++◌, append-nil, append_assoc}
use Rattle.std.proofs.Common.{if◌then◌else◌, Option, Some, None}
use Rattle.std.specs.Prelude.{Bool, true, OnOk, Result, Ok, Err, codes, cond, drop, is_none}
use Rattle.sva_model.specs.Wire.{Wire}
use Rattle.sva_grammar.specs.Grammar.{◌>>=◌}
use Rattle.sva_reports.specs.Report.{counts_text}
use Rattle.sva_grammar.specs.Replies.{ended, reply_text}
use Rattle.sva_snapshot.specs.Explaining.{Explaining}
use Rattle.sva_script.specs.declared.faults.Stop.{Stop}
use Rattle.sva_script.specs.declared.faults.Stop.TheVariants as stop
use Rattle.sva_script.specs.declared.faults.Wrong.{Wrong}
use Rattle.sva_script.specs.declared.given.Told.{Told}
use Rattle.sva_script.specs.Expect.{expected_of}
use Rattle.sva_script.specs.Lines.{Parts, expected_begins, parts_of}
use Rattle.sva_script.specs.Names.{Known}
use Rattle.sva_script_runs.specs.declared.running.Taken.{Taken}
use Rattle.sva_script_reading.specs.Lines.{LineRead, Plain, expected_in, expected_text, line_read, named, plain_text, step_in}
use Rattle.sva_script_reading.specs.Messages.{Link, link_of}
use Rattle.sva_script_runs.specs.Runs.{Running, Takes, TakesRead, TellsStep, behind, read_at}
use Rattle.std.specs.declared.alloc.AllocError.{AllocError}
use Rattle.sva_frames.specs.declared.pool.Counts.{Counts as FrameCounts}
use Rattle.sva_address_spaces.specs.Steps.{Counted}
use Rattle.sva_script_reading.specs.Faults.{fault_text}
use Rattle.sva_script_reading.specs.Said.{Said, bad, faults_text, faulty}
use Rattle.sva_script_reading.specs.Begins.{fault_of}
use Rattle.sva_reports.specs.Counts.{counts_at}
use Rattle.sva_script_reports.specs.Scripts.{At, answer_at, compared, held_at, judged, plain_read, plain_step, step_line, test_read}
use Rattle.sva_script_reports.specs.Scripts.{is_expected, miss_text, test_made, test_step, told_step}
use Rattle.sva_script_reports.specs.Lines.{AnswersLine, Compares, StepsPlain, behind_line, held_by, stopped}
use Rattle.sva_script_reports.specs.declared.testing.Compared.TheVariants.{Differs}

ok_inj : {A E : Type 0} {a b : A} → ◌≡◌ {A = Result A E} (Ok a) (Ok b) → a ≡ b
ok_inj is = cc is

-- ---- The plain scenario

plain_by : (before after : Running) (line : ℕ) (words : List (List ℕ)) (text expected out : List ℕ) (rest : List ℕ → At → Said)
    (read : Result LineRead Wrong) (taken : Option Taken) → TakesRead before line (parts_of words) after text expected read (Ok taken)
    → plain_read before line words out rest read ≡ rest (out ++ (if is_none taken then [] else ended text)) (behind_line after)
plain_by before after line words text expected out rest (Ok read) taken takes = by_step read.step taken takes.0 takes.1 takes.2
  where
    by_step : (step : Option Plain) (taken : Option Taken) → TellsStep before.seen step taken → after ≡ behind before line (parts_of words).name step
        → text ≡ plain_text step
        → rest (out ++ step_line step) (record { is_config = false; running = behind before line (parts_of words).name step })
        ≡ rest (out ++ (if is_none taken then [] else ended text)) (behind_line after)
    by_step None None tells is same = ap (λ running. rest (out ++ []) (behind_line running)) (sym is)
    by_step (Some plain) (Some found) tells is same =
        ap (λ running. rest (out ++ ended plain.text) (behind_line running)) (sym is)
        ∙ ap (λ own. rest (out ++ ended own) (behind_line after)) (sym same)
    by_step None (Some found) tells is same = absurd tells
    by_step (Some plain) None tells is same = absurd tells
plain_by before after line words text expected out rest (Err wrong) taken takes = absurd takes.0

pub plain_done : (before after : Running) (line : ℕ) (words : List (List ℕ)) (text expected out : List ℕ) (rest : List ℕ → At → Said) (taken : Option Taken)
    → Takes before line (parts_of words) after text expected (Ok taken)
    → plain_step before line words out rest ≡ rest (out ++ (if is_none taken then [] else ended text)) (behind_line after)
plain_done before after line words text expected out rest taken takes =
    plain_by before after line words text expected out rest (read_at before (parts_of words)) taken takes

wrong_by : (before after : Running) (line : ℕ) (words : List (List ℕ)) (text expected out : List ℕ) (rest : List ℕ → At → Said)
    (read : Result LineRead Wrong) (wrong : Wrong) → TakesRead before line (parts_of words) after text expected read (Err (stop.Wrong wrong))
    → plain_read before line words out rest read ≡ faulty (fault_of before.known line words wrong ∷ [])
wrong_by before after line words text expected out rest (Ok read) wrong takes = absurd takes
wrong_by before after line words text expected out rest (Err found) wrong takes = ap (λ w. faulty (fault_of before.known line words w ∷ [])) (sym takes.0)

pub plain_wrong : (before after : Running) (line : ℕ) (words : List (List ℕ)) (text expected out : List ℕ) (rest : List ℕ → At → Said) (wrong : Wrong)
    → Takes before line (parts_of words) after text expected (Err (stop.Wrong wrong))
    → plain_step before line words out rest ≡ faulty (fault_of before.known line words wrong ∷ [])
plain_wrong before after line words text expected out rest wrong takes =
    wrong_by before after line words text expected out rest (read_at before (parts_of words)) wrong takes

-- ---- The test

test_wrong_by : (explained : Explaining) (before after : Running) (line : ℕ) (words : List (List ℕ)) (text expected : List ℕ) (count : ℕ)
    (rest : ℕ → Bool → At → Said)
    (read : Result LineRead Wrong) (wrong : Wrong) → TakesRead before line (parts_of words) after text expected read (Err (stop.Wrong wrong))
    → test_read explained before line words count rest read ≡ faulty (fault_of before.known line words wrong ∷ [])
test_wrong_by explained before after line words text expected count rest (Ok read) wrong takes = absurd takes
test_wrong_by explained before after line words text expected count rest (Err found) wrong takes =
    ap (λ w. faulty (fault_of before.known line words w ∷ [])) (sym takes.0)

pub test_wrong : (explained : Explaining) (before after : Running) (line : ℕ) (words : List (List ℕ)) (text expected : List ℕ) (count : ℕ)
    (rest : ℕ → Bool → At → Said) (wrong : Wrong)
    → Takes before line (parts_of words) after text expected (Err (stop.Wrong wrong))
    → test_step explained before line words count rest ≡ faulty (fault_of before.known line words wrong ∷ [])
test_wrong explained before after line words text expected count rest wrong takes =
    test_wrong_by explained before after line words text expected count rest (read_at before (parts_of words)) wrong takes

-- an answer is expected of a line that was read exactly where one is written
expected_kind : (known : Known) (at : ℕ) (words : Option (List (List ℕ))) (found : Option (List ℕ)) → expected_in known at words ≡ Ok found
    → is_none words ≡ is_none found
expected_kind known at None found is = ap is_none (ok_inj is)
expected_kind known at (Some words) found is = by_text (expected_of at known words) is
  where
    by_text : (text : Result (List ℕ) Wrong) → (text >>= λ t. Ok (Some t)) ≡ Ok found → false ≡ is_none found
    by_text (Ok text) is = ap is_none (ok_inj is)
    by_text (Err wrong) is = absurd (cc is)

pub expected_part : (named : Result (Unit {0}) Wrong) (step : Result (Option Plain) Wrong) (expected : Result (Option (List ℕ)) Wrong) (read : LineRead)
    → (named >>= λ _. step >>= λ s. expected >>= λ e. Ok (record { step = s; expected = e })) ≡ Ok read
    → expected ≡ Ok read.expected
expected_part (Ok done) (Ok step) (Ok expected) read is = ap (λ (r : LineRead). Ok r.expected) (ok_inj is)
expected_part (Ok done) (Ok step) (Err wrong) read is = absurd (cc is)
expected_part (Ok done) (Err wrong) expected read is = absurd (cc is)
expected_part (Err wrong) step expected read is = absurd (cc is)

read_kind : (known : Known) (link : Link) (parts : Parts) (read : LineRead) → line_read known link parts ≡ Ok read
    → is_none parts.expected ≡ is_none read.expected
read_kind known link parts read is =
    expected_kind known (expected_begins parts) parts.expected read.expected
    (expected_part (named known parts.name) (step_in known link parts) (expected_in known (expected_begins parts) parts.expected) read is)

-- what the call was answered
abbrev pub answered : Wire → Option Taken → List ℕ
answered wire None = counts_at wire
answered wire (Some taken) = reply_text taken.told.reply

abbrev pub step_told : Option Taken → (text : List ℕ) → List ℕ
step_told None text = codes "end"
step_told (Some taken) text = text

answer_is : (before : Running) (step : Option Plain) (taken : Option Taken) → TellsStep before.seen step taken
    → answer_at before.seen step ≡ answered before.seen taken
answer_is before None None tells = refl
answer_is before (Some plain) (Some taken) tells = ap (λ (told : Told). reply_text told.reply) (sym tells.told)
answer_is before None (Some taken) tells = absurd tells
answer_is before (Some plain) None tells = absurd tells

told_is : (before : Running) (step : Option Plain) (taken : Option Taken) (text : List ℕ) → TellsStep before.seen step taken → text ≡ plain_text step
    → told_step step ≡ step_told taken text
told_is before None None text tells same = refl
told_is before (Some plain) (Some taken) text tells same = sym same
told_is before None (Some taken) text tells same = absurd tells
told_is before (Some plain) None text tells same = absurd tells

-- the last line has no step, and nothing is taken of it
last_is : (before : Running) (step : Option Plain) (taken : Option Taken) → TellsStep before.seen step taken → is_none step ≡ is_none taken
last_is before None None tells = refl
last_is before (Some plain) (Some taken) tells = refl
last_is before None (Some taken) tells = absurd tells
last_is before (Some plain) None tells = absurd tells

-- what holds the step back that was taken
abbrev pub whys_of : (explained : Explaining) → Wire → Option Taken → List ℕ
whys_of explained wire None = []
whys_of explained wire (Some taken) = explained wire taken.step taken.told.reply

whys_are : (explained : Explaining) (before after : Running) (line : ℕ) (name : Option (List ℕ)) (step : Option Plain) (taken : Option Taken)
    → TellsStep before.seen step taken
    → after ≡ behind before line name step → held_at explained before.seen step ≡ whys_of explained after.seen taken
whys_are explained before after line name None None tells is = refl
whys_are explained before after line name (Some plain) (Some taken) tells is =
    λ i. explained (sym is i).seen (sym tells.is_step i) (sym (ap (λ (t : Told). t.reply) tells.told) i)
whys_are explained before after line name None (Some taken) tells is = absurd tells
whys_are explained before after line name (Some plain) None tells is = absurd tells

by_expected : (line : ℕ) (told answer whys expected : List ℕ) (count : ℕ) (rest : ℕ → Said) (found : Option (List ℕ)) → expected ≡ expected_text found
    → compared count line told answer whys rest found ≡ test_made (not (is_none found)) line told answer whys expected count rest
by_expected line told answer whys expected count rest None is = refl
by_expected line told answer whys expected count rest (Some text) is = ap (λ own. judged count line told answer whys (drop 1 own) rest) (sym is)

made_by : (explained : Explaining) (before after : Running) (line : ℕ) (words : List (List ℕ)) (text expected : List ℕ) (count : ℕ)
    (rest : ℕ → Bool → At → Said)
    (read : Result LineRead Wrong) (taken : Option Taken) → read_at before (parts_of words) ≡ read
    → TakesRead before line (parts_of words) after text expected read (Ok taken)
    → test_read explained before line words count rest read
    ≡ test_made (not (is_none (parts_of words).expected)) line (step_told taken text) (answered before.seen taken)
    (whys_of explained after.seen taken) expected count
    (λ more. rest more (is_none taken) (behind_line after))
made_by explained before after line words text expected count rest (Ok read) taken is takes =
    let kind = read_kind before.known (link_of (Some before.seen)) (parts_of words) read is in
    let last = last_is before read.step taken takes.0 in
    ap (λ running. compared count line (told_step read.step) (answer_at before.seen read.step) (held_at explained before.seen read.step)
    (λ more. rest more (is_none read.step) (behind_line running)) read.expected) (sym takes.1)
    ∙ by_expected line (told_step read.step) (answer_at before.seen read.step) (held_at explained before.seen read.step) expected count
    (λ more. rest more (is_none read.step) (behind_line after)) read.expected takes.3
    ∙ (λ i. test_made (not (sym kind i)) line (told_is before read.step taken text takes.0 takes.2 i) (answer_is before read.step taken takes.0 i)
    (whys_are explained before after line (parts_of words).name read.step taken takes.0 takes.1 i) expected count
    (λ more. rest more (last i) (behind_line after)))
made_by explained before after line words text expected count rest (Err wrong) taken is takes = absurd takes.0

pub test_done : (explained : Explaining) (before after : Running) (line : ℕ) (words : List (List ℕ)) (text expected : List ℕ) (count : ℕ)
    (rest : ℕ → Bool → At → Said)
    (taken : Option Taken)
    → Takes before line (parts_of words) after text expected (Ok taken)
    → test_step explained before line words count rest
    ≡ test_made (not (is_none (parts_of words).expected)) line (step_told taken text) (answered before.seen taken)
    (whys_of explained after.seen taken) expected count
    (λ more. rest more (is_none taken) (behind_line after))
test_done explained before after line words text expected count rest taken takes =
    made_by explained before after line words text expected count rest (read_at before (parts_of words)) taken refl takes

-- ---- A line that is wrong

unchanged_by : (before after : Running) (line : ℕ) (parts : Parts) (text expected : List ℕ) (read : Result LineRead Wrong) (wrong : Wrong)
    → TakesRead before line parts after text expected read (Err (stop.Wrong wrong)) → after ≡ before
unchanged_by before after line parts text expected (Ok read) wrong takes = absurd takes
unchanged_by before after line parts text expected (Err found) wrong takes = takes.1

pub unchanged : (before after : Running) (line : ℕ) (parts : Parts) (text expected : List ℕ) (wrong : Wrong)
    → Takes before line parts after text expected (Err (stop.Wrong wrong)) → after ≡ before
unchanged before after line parts text expected wrong takes = unchanged_by before after line parts text expected (read_at before parts) wrong takes

-- what was appended of it
pub told_wrong : (before after : Running) (line : ℕ) (words : List (List ℕ)) (known : Known) (wrong : Wrong) (old new : List ℕ) → after ≡ before
    → known ≡ after.known
    → new ≡ old ++ fault_text (fault_of known line words wrong) → new ≡ old ++ faults_text (fault_of before.known line words wrong ∷ [])
told_wrong before after line words known wrong old new same is told =
    told ∙ ap (λ k. old ++ fault_text (fault_of k line words wrong)) (is ∙ ap (λ (r : Running). r.known) same)
    ∙ ap (λ l. old ++ l) (sym (append-nil (fault_text (fault_of before.known line words wrong))))

pub plain_failed : (before after : Running) (line : ℕ) (words given : List (List ℕ)) (text expected old cleared new : List ℕ) (known : Known) (wrong : Wrong)
    → given ≡ words → Takes before line (parts_of given) after text expected (Err (stop.Wrong wrong)) → cleared ≡ [] → known ≡ after.known
    → new ≡ cleared ++ fault_text (fault_of known line given wrong)
    → StepsPlain before line words old new after (Ok false)
plain_failed before after line words given text expected old cleared new known wrong same takes none is told =
    subst (λ ws. StepsPlain before line ws old new after (Ok false)) same (
      faulty (fault_of before.known line given wrong ∷ []),
      (
        refl,
        told_wrong before after line given known wrong cleared new (unchanged before after line (parts_of given) text expected wrong takes) is told
            ∙ ap (λ l. l ++ faults_text (fault_of before.known line given wrong ∷ [])) none,
      ),
      λ out rest. plain_wrong before after line given text expected out rest wrong takes,
    )

-- the same of a test
pub line_failed : (explained : Explaining) (before after : Running) (line : ℕ) (words given : List (List ℕ)) (told answer expected old new : List ℕ)
    (is_last : Bool) (known : Known)
    (taken : Taken) (wrong : Wrong)
    → given ≡ words → AnswersLine explained before line given after told answer expected taken (Err (stop.Wrong wrong)) → known ≡ after.known
    → new ≡ old ++ fault_text (fault_of known line given wrong)
    → Compares explained before line words old new is_last after (Ok Differs)
line_failed explained before after line words given told answer expected old new is_last known taken wrong same answers is appended =
    subst (λ ws. Compares explained before line ws old new is_last after (Ok Differs)) same (
      faulty (fault_of before.known line given wrong ∷ []),
      refl,
      told_wrong before after line given known wrong old new answers.0 is appended,
      answers.1,
    )

-- an answer that differs, and what holds the step back
pub line_differs : (explained : Explaining) (before after : Running) (line : ℕ) (words given : List (List ℕ))
    (told answer expected shown old missed new : List ℕ) (is_last : Bool)
    (taken : Taken)
    → given ≡ words → AnswersLine explained before line given after told answer expected taken (Ok is_last) → is_none (parts_of given).expected ≡ false
    → shown ≡ drop 1 expected → is_expected shown answer ≡ false → missed ≡ old ++ miss_text line told shown answer
    → new ≡ missed ++ held_by explained is_last after.seen taken
    → Compares explained before line words old new is_last after (Ok Differs)
line_differs explained before after line words given told answer expected shown old missed new is_last taken same answers some is differs told_so behind_it =
    let whys = held_by explained is_last after.seen taken in
    subst (λ ws. Compares explained before line ws old new is_last after (Ok Differs)) same (
      bad (miss_text line told shown answer ++ whys),
      refl,
      behind_it ∙ ap (λ l. l ++ whys) told_so ∙ append_assoc old (miss_text line told shown answer) whys,
      λ count rest.
          answers count rest
          ∙ ap (λ b. test_made (not b) line told answer whys expected count (λ more. rest more is_last (behind_line after))) some
          ∙ ap (λ text. judged count line told answer whys text (λ more. rest more is_last (behind_line after))) (sym is)
          ∙ ap (λ t. cond t (rest (count + 1) is_last (behind_line after)) (bad (miss_text line told shown answer ++ whys))) differs,
    )

-- a step's line that was taken
pub step_answered : (explained : Explaining) (before after : Running) (line : ℕ) (words : List (List ℕ)) (text expected cleared answer : List ℕ) (taken : Taken)
    → Takes before line (parts_of words) after text expected (Ok (Some taken)) → cleared ≡ [] → answer ≡ cleared ++ reply_text taken.told.reply
    → AnswersLine explained before line words after text answer expected taken (Ok false)
step_answered explained before after line words text expected cleared answer taken takes none is count rest =
    test_done explained before after line words text expected count rest (Some taken) takes
    ∙ ap (λ a. test_made (not (is_none (parts_of words).expected)) line text a (explained after.seen taken.step taken.told.reply) expected count
    (λ more. rest more false (behind_line after)))
    (sym (is ∙ ap (λ l. l ++ reply_text taken.told.reply) none))

ended_by : (before after : Running) (line : ℕ) (parts : Parts) (text expected : List ℕ) (read : Result LineRead Wrong)
    → TakesRead before line parts after text expected read (Ok None) → (after ≡ before) × (text ≡ [])
ended_by before after line parts text expected (Ok read) takes = by_step read.step takes.0 takes.1 takes.2
  where
    by_step : (step : Option Plain) → TellsStep before.seen step None → after ≡ behind before line parts.name step → text ≡ plain_text step
        → (after ≡ before) × (text ≡ [])
    by_step None tells is same = (is, same)
    by_step (Some plain) tells is same = absurd tells
ended_by before after line parts text expected (Err wrong) takes = absurd takes.0

-- the last line
pub end_answered : (explained : Explaining) (before after : Running) (line : ℕ) (words : List (List ℕ)) (text expected cleared told answer : List ℕ)
    (found : FrameCounts)
    (stale : Taken)
    → Takes before line (parts_of words) after text expected (Ok None) → cleared ≡ [] → Counted after.seen.places found → told ≡ text ++ codes "end"
    → answer ≡ cleared ++ counts_text (record { free = found.free; mapped = found.mapped; withheld = found.withheld })
    → AnswersLine explained before line words after told answer expected stale (Ok true)
end_answered explained before after line words text expected cleared told answer found stale takes none counted ends is count rest =
    let same = ended_by before after line (parts_of words) text expected (read_at before (parts_of words)) takes in
    let all : answer ≡ counts_at before.seen =
    is ∙ ap (λ l. l ++ counts_text (record { free = found.free; mapped = found.mapped; withheld = found.withheld })) none
    ∙ (λ i. counts_text (record { free = counted.free i; mapped = counted.mapped i; withheld = counted.withheld i }))
    ∙ ap (λ (r : Running). counts_at r.seen) same.0 in
    test_done explained before after line words text expected count rest None takes
    ∙ (λ i. test_made (not (is_none (parts_of words).expected)) line (sym (ends ∙ ap (λ l. l ++ codes "end") same.1) i) (sym all i) [] expected count
    (λ more. rest more true (behind_line after)))

-- unless memory lacked
pub answers_if : (explained : Explaining) (before after : Running) (line : ℕ) (words : List (List ℕ)) (told answer expected : List ℕ) (taken : Taken)
    (is_last : Bool) {P : Type 0}
    (put : Result (Unit {0}) AllocError) (result : Result Bool Stop) → result ≡ stopped is_last put → OnOk put P
    → (P → AnswersLine explained before line words after told answer expected taken (Ok is_last))
    → AnswersLine explained before line words after told answer expected taken result
answers_if explained before after line words told answer expected taken is_last (Ok done) result is holds by =
    subst (AnswersLine explained before line words after told answer expected taken) (sym is) (by holds)
answers_if explained before after line words told answer expected taken is_last (Err lack) result is holds by =
    subst (AnswersLine explained before line words after told answer expected taken) (sym is) tt
