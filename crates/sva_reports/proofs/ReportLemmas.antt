-- Lemmas on the report of some steps as it is written, line by line.
use Rattle.std.proofs.Common.{◌≡◌, ◌<◌, ◌≤◌, ◌^◌, ◌∙◌, ap, sym, subst, arith, ◌*◌, ℕ, suc, List, [], ◌∷◌, ◌++◌, append-nil, append_assoc}
use Rattle.std.proofs.Common.{length, get_or, refl, Bool, true, false, Option, Result, Ok, Err}
use Rattle.std.specs.Prelude.{codes, decimal}
use Rattle.std.specs.Result.{IsErr}
use Rattle.std.specs.Io.KnownBytes.{Appends}
use Rattle.std.proofs.KnownBytes.{Appends-nil, Appends-trans}
use Rattle.std.proofs.lemmas.List.{length-append}
use Rattle.std.proofs.lemmas.List.Concat.{flat_map-cons}
use Rattle.std.proofs.lemmas.Fmt.{length-decimal-le}
use Rattle.sva_step.specs.declared.limits.Config.{Config}
use Rattle.sva_step.specs.declared.answers.Answer.{Answer}
use Rattle.sva_step.specs.declared.answers.Answer.TheVariants as answer
use Rattle.sva_step.specs.declared.refusals.Refusal.{Refusal}
use Rattle.sva_step.specs.declared.refusals.Refusal.TheVariants.{BadConfig, OutOfMemory}
use Rattle.sva_step.specs.declared.steps.Step.{Step}
use Rattle.sva_step.specs.Refusals.{name_of, number_of, refusal_text}
use Rattle.sva_step.specs.Texts.{answer_text, frames_text}
use Rattle.sva_step.proofs.RefusalLemmas.{number_of-le}
use Rattle.sva_model.specs.State.PasidRule.{PerSpace}
use Rattle.sva_model.specs.State.{World}
use Rattle.sva_model.specs.Claims.{Fits}
use Rattle.sva_model.specs.Steps.{Counts, Reply, reply, replies, next, run, counts, world_after}
use Rattle.sva_model.specs.Wire.{Wire, wire}
use Rattle.sva_core.specs.Reached.{FollowsAt, Follows}
use Rattle.sva_streams.specs.declared.streams.DriveFault.{DriveFault}
use Rattle.sva_reports.specs.Report.{counts_text, steps_report}
use Rattle.sva_grammar.specs.Replies.{ended, reply_text}
use Rattle.sva_streams.specs.Streams.{AppendsPrefix, Holds, Writes}
use Rattle.sva_streams.proofs.StreamLemmas.{AppendsPrefix-after, AppendsPrefix-longer}

-- ---- One line after another

steps_report-step : (w : World) (step : Step) (steps : List Step)
    → steps_report w (step ∷ steps) ≡ ended (reply_text (reply w step)) ++ steps_report (next w step) steps
unfolding steps_report replies
steps_report-step w step steps =
    ap (λ l. l ++ ended (counts_text (counts (run (next w step) steps))))
    (flat_map-cons (λ r. ended (reply_text r)) (reply w step) (replies (next w step) steps))
    ∙ append_assoc (ended (reply_text (reply w step))) _ _

steps_report-end : (w : World) → steps_report w [] ≡ ended (counts_text (counts w))
unfolding steps_report replies
steps_report-end w = refl

run_one : (w : World) (steps : List Step) (step : Step) → run w (steps ++ step ∷ []) ≡ next (run w steps) step
run_one w [] step = refl
run_one w (first ∷ steps) step = run_one (next w first) steps step

-- a step that wasn't refused for want of memory is the definitions'
followed : (w : World) (step : Step) (result : Reply) (after : Wire) → (result ≡ Err OutOfMemory → ⊥) → FollowsAt w step result after
    → (result ≡ reply w step) × (after ≡ wire (next w step))
followed w step (Ok a) after ne h = h
followed w step (Err OutOfMemory) after ne h = absurd (ne refl)
followed w step (Err _) after ne h = h

-- what the host keeps is the world's after the steps that were taken; what is written, what is held back, and the report of the steps that
-- are left, are the whole
pub record Reporting (config : Config) (seen : Wire) (left : List Step) (whole : List ℕ) (old now : Option (List ℕ)) (held : List ℕ) : Type 0 where
  pub fits : Fits config
  pub taken : List Step
  pub is_seen : seen ≡ wire (world_after PerSpace config taken)
  pub written : List ℕ
  pub appended : Appends old now written
  pub rest : (written ++ held) ++ steps_report (world_after PerSpace config taken) left ≡ whole

pub reporting_start : (config : Config) (taken steps : List Step) (seen : Wire) (known : Option (List ℕ)) (held : List ℕ) → held ≡ [] → Fits config
    → seen ≡ wire (world_after PerSpace config taken)
    → Reporting config seen steps (steps_report (world_after PerSpace config taken) steps) known known held
reporting_start config taken steps seen known held none f e =
    record {
      fits = f;
      taken = taken;
      is_seen = e;
      written = [];
      appended = Appends-nil known;
      rest = ap (λ l. l ++ steps_report (world_after PerSpace config taken) steps) none;
    }

-- the line of the next step, and the report of those behind it
line_and_rest : (w : World) (step : Step) (left : List Step) (result : Reply) → result ≡ reply w step
    → ended (reply_text result) ++ steps_report (next w step) left ≡ steps_report w (step ∷ left)
line_and_rest w step left result e = ap (λ r. ended (reply_text r) ++ steps_report (next w step) left) e ∙ sym (steps_report-step w step left)

-- what is sent and what is left of a text behind what was held back
moved : (written sent left held text rest : List ℕ) → sent ++ left ≡ held ++ text
    → ((written ++ sent) ++ left) ++ rest ≡ (written ++ held) ++ (text ++ rest)
moved written sent left held text rest is =
    ap (λ l. l ++ rest) (append_assoc written sent left ∙ ap (λ l. written ++ l) is ∙ sym (append_assoc written held text))
    ∙ append_assoc (written ++ held) text rest

pub reporting_step : (config : Config) (before after : Wire) (step : Step) (left : List Step) (whole : List ℕ) (old now new : Option (List ℕ))
    (held more : List ℕ) (result : Reply)
    → Reporting config before (step ∷ left) whole old now held → (result ≡ Err OutOfMemory → ⊥) → Follows before step result after
    → Holds now new held more (ended (reply_text result)) (Ok (tt {0})) → Reporting config after left whole old new more
reporting_step config before after step left whole old now new held more result r ne follows holds =
    let w = world_after PerSpace config r.taken in
    let one = run_one _ r.taken step in
    let is = followed w step result after ne (follows config r.taken r.fits r.is_seen) in
    record {
      fits = r.fits;
      taken = r.taken ++ step ∷ [];
      is_seen = is.1 ∙ ap wire (sym one);
      written = r.written ++ holds.0;
      appended = Appends-trans old now new r.written holds.0 r.appended holds.1;
      rest =
          moved r.written holds.0 more held (ended (reply_text result)) _ holds.2
          ∙ ap (λ v. (r.written ++ held) ++ (ended (reply_text result) ++ steps_report v left)) one
          ∙ ap (λ l. (r.written ++ held) ++ l) (line_and_rest w step left result is.0)
          ∙ r.rest;
    }

-- a prefix of what is held back and of the next line is written, and so a prefix of the whole
pub reporting_cut : (config : Config) (before after : Wire) (step : Step) (left : List Step) (whole : List ℕ) (old now new : Option (List ℕ))
    (held : List ℕ) (result : Reply)
    → Reporting config before (step ∷ left) whole old now held → (result ≡ Err OutOfMemory → ⊥) → Follows before step result after
    → AppendsPrefix now new (held ++ ended (reply_text result)) → AppendsPrefix old new whole
reporting_cut config before after step left whole old now new held result r ne follows front =
    let w = world_after PerSpace config r.taken in
    let is = followed w step result after ne (follows config r.taken r.fits r.is_seen) in
    let line = ended (reply_text result) in
    let all = ap (λ l. l ++ steps_report (next w step) left) (sym (append_assoc r.written held line))
    ∙ append_assoc (r.written ++ held) line (steps_report (next w step) left)
    ∙ ap (λ l. (r.written ++ held) ++ l) (line_and_rest w step left result is.0) ∙ r.rest in
    subst (AppendsPrefix old new) all
    (AppendsPrefix-longer old new (r.written ++ (held ++ line)) (steps_report (next w step) left)
    (AppendsPrefix-after old now new r.written (held ++ line) r.appended front))

writes_after : {A : Type 0} (old now new : Option (List ℕ)) (first more : List ℕ) (result : Result A DriveFault) → Appends old now first
    → Writes now new more result
    → Writes old new (first ++ more) result
writes_after old now new first more (Ok x) p q = Appends-trans old now new first more p q
writes_after old now new first more (Err fault) p q = AppendsPrefix-after old now new first more p q

as_prefix : {A : Type 0} (old new : Option (List ℕ)) (bytes : List ℕ) (result : Result A DriveFault) → Writes old new bytes result → AppendsPrefix old new bytes
as_prefix old new bytes (Ok x) p = (bytes, [], append-nil bytes, p)
as_prefix old new bytes (Err fault) p = p

-- what is held back is written, and with it a prefix of the whole
pub reporting_stop : {A : Type 0} (config : Config) (seen : Wire) (left : List Step) (whole : List ℕ) (old now new : Option (List ℕ)) (held : List ℕ)
    (result : Result A DriveFault) → Reporting config seen left whole old now held → Writes now new held result
    → AppendsPrefix old new whole
reporting_stop config seen left whole old now new held result r flushed =
    subst (AppendsPrefix old new) r.rest
    (AppendsPrefix-longer old new (r.written ++ held) (steps_report (world_after PerSpace config r.taken) left)
    (as_prefix old new (r.written ++ held) result (writes_after old now new r.written held result r.appended flushed)))

-- the counts that were found are those of each world that is seen so
abbrev pub Counted : Wire → Counts → Type 0
Counted seen found = (config : Config) (taken : List Step) → Fits config → seen ≡ wire (world_after PerSpace config taken)
    → (found.free ≡ (counts (world_after PerSpace config taken)).free) × (found.mapped ≡ (counts (world_after PerSpace config taken)).mapped)
    × (found.withheld ≡ (counts (world_after PerSpace config taken)).withheld)

pub reporting_end : {A : Type 0} (config : Config) (seen : Wire) (whole : List ℕ) (old now new : Option (List ℕ)) (held : List ℕ) (found : Counts)
    (result : Result A DriveFault)
    → Reporting config seen [] whole old now held → Counted seen found → Writes now new (held ++ ended (counts_text found)) result
    → Writes old new whole result
reporting_end config seen whole old now new held found result r of line =
    let w = world_after PerSpace config r.taken in
    let same = of config r.taken r.fits r.is_seen in
    let counted : found ≡ counts w = λ i. record { free = same.0 i; mapped = same.1 i; withheld = same.2 i } in
    let all = sym (append_assoc r.written held (ended (counts_text found))) ∙ ap (λ c. (r.written ++ held) ++ ended (counts_text c)) counted
    ∙ ap (λ l. (r.written ++ held) ++ l) (sym (steps_report-end w)) ∙ r.rest in
    subst (λ bytes. Writes old new bytes result) all
    (writes_after old now new r.written (held ++ ended (counts_text found)) result r.appended line)

-- ---- How long a line is

decimal_short : (n : ℕ) → n < 2 ^ 64 → length (decimal n) ≤ 20
decimal_short n small = length-decimal-le 20 n (omega arith) (omega arith) small

name_short : (refusal : Refusal) → length (name_of refusal) ≤ 32
name_short BadConfig = omega arith
name_short _ = omega arith

pub refusal_short : (refusal : Refusal) → length (refusal_text refusal) ≤ 1024
refusal_short refusal =
    let number = number_of-le refusal in
    let digits = decimal_short (number_of refusal) (omega arith) in
    let name = name_short refusal in
    simp length-append (omega arith)

-- What the type of answers says of those that have numbers: each is one of 64 bits, and a list of frames has 48 at most.
pub record HasRanges (P : Answer → Type 0) : Type 0 where
  pub space : (n : ℕ) → P (answer.Space n) → n < 2 ^ 64
  pub frame : (n : ℕ) → P (answer.Frame n) → n < 2 ^ 64
  pub free : (frames : List ℕ) → P (answer.FreeFrames frames) → (length frames ≤ 48) × ((i : ℕ) → i < length frames → get_or frames i 0 < 2 ^ 64)
  pub withheld : (frames : List ℕ) → P (answer.WithheldFrames frames) → (length frames ≤ 48) × ((i : ℕ) → i < length frames → get_or frames i 0 < 2 ^ 64)
  pub binding : (n m : ℕ) → P (answer.Binding n m) → (n < 2 ^ 64) × (m < 2 ^ 64)
  pub itag : (n : ℕ) → P (answer.Itag n) → n < 2 ^ 64
  pub job : (n m k : ℕ) → P (answer.JobTaken n m k) → (n < 2 ^ 64) × (m < 2 ^ 64) × (k < 2 ^ 64)
  pub success : (n : ℕ) → P (answer.Success n) → n < 2 ^ 64
  pub tag : (n : ℕ) → P (answer.Tag n) → n < 2 ^ 64
  pub in_use : (n m : ℕ) → P (answer.Use n m) → (n < 2 ^ 64) × (m < 2 ^ 64)
  pub group : (n : ℕ) → P (answer.Group n) → n < 2 ^ 64
  pub sent : (n : ℕ) → P (answer.Sent n) → n < 2 ^ 64
  pub freed : (n : ℕ) → P (answer.Freed n) → n < 2 ^ 64
  pub range_free : (n : ℕ) → P (answer.RangeFree n) → n < 2 ^ 64
  pub range_withheld : (n : ℕ) → P (answer.RangeWithheld n) → n < 2 ^ 64
  pub bearer : (n m : ℕ) → P (answer.Bearer n m) → (n < 2 ^ 64) × (m < 2 ^ 64)

frames_short : (frames : List ℕ) → ((i : ℕ) → i < length frames → get_or frames i 0 < 2 ^ 64) → length (frames_text frames) ≤ 21 * length frames
frames_short [] h = omega arith
frames_short (frame ∷ frames) h =
    let first = decimal_short frame (h 0 (omega arith)) in
    let rest = frames_short frames (λ i below. h (suc i) (omega arith)) in
    let joined = ap length (flat_map-cons (λ f. codes " " ++ decimal f) frame frames) in
    let split = length-append (codes " " ++ decimal frame) (frames_text frames) in
    let word = length-append (codes " ") (decimal frame) in
    omega arith

pub answer_short : (P : Answer → Type 0) → HasRanges P → (a : Answer) → P a → length (answer_text a) ≤ 1024
answer_short P r (answer.Space n) h = let d = decimal_short n (r.space n h) in simp length-append (omega arith)
answer_short P r (answer.Frame n) h = let d = decimal_short n (r.frame n h) in simp length-append (omega arith)
answer_short P r (answer.FreeFrames frames) h = let f = r.free frames h in let d = frames_short frames f.1 in simp length-append (omega arith)
answer_short P r (answer.WithheldFrames frames) h = let f = r.withheld frames h in let d = frames_short frames f.1 in simp length-append (omega arith)
answer_short P r (answer.Binding n m) h =
    let f = r.binding n m h in let d = decimal_short n f.0 in let e = decimal_short m f.1 in simp length-append (omega arith)
answer_short P r (answer.Itag n) h = let d = decimal_short n (r.itag n h) in simp length-append (omega arith)
answer_short P r (answer.JobTaken n m k) h =
    let f = r.job n m k h in
    let d = decimal_short n f.0 in
    let e = decimal_short m f.1 in
    let i = decimal_short k f.2 in
    simp length-append (omega arith)
answer_short P r (answer.Success n) h = let d = decimal_short n (r.success n h) in simp length-append (omega arith)
answer_short P r (answer.Tag n) h = let d = decimal_short n (r.tag n h) in simp length-append (omega arith)
answer_short P r (answer.Use n m) h =
    let f = r.in_use n m h in let d = decimal_short n f.0 in let e = decimal_short m f.1 in simp length-append (omega arith)
answer_short P r (answer.Group n) h = let d = decimal_short n (r.group n h) in simp length-append (omega arith)
answer_short P r (answer.Sent n) h = let d = decimal_short n (r.sent n h) in simp length-append (omega arith)
answer_short P r (answer.Freed n) h = let d = decimal_short n (r.freed n h) in simp length-append (omega arith)
answer_short P r (answer.RangeFree n) h = let d = decimal_short n (r.range_free n h) in simp length-append (omega arith)
answer_short P r (answer.RangeWithheld n) h = let d = decimal_short n (r.range_withheld n h) in simp length-append (omega arith)
answer_short P r (answer.Bearer n m) h =
    let f = r.bearer n m h in let d = decimal_short n f.0 in let e = decimal_short m f.1 in simp length-append (omega arith)
answer_short P r _ h = omega arith

pub reply_short : (P : Reply → Type 0) → HasRanges (λ a. P (Ok a)) → (result : Reply) → P result → length (reply_text result) ≤ 1024
reply_short P r (Ok a) h = answer_short (λ a. P (Ok a)) r a h
reply_short P r (Err refusal) h = refusal_short refusal

-- a test that a fact makes true is false where the fact isn't so
pub not_so : (test : Bool) (P : Type 0) → (P → test ≡ true) → test ≡ false → P → ⊥
not_so test P told off p = absurd (cc (told p))

-- a fault stands where a prefix of what was held back and of the line was written
pub holds_front : {A : Type 0} (old new : Option (List ℕ)) (held left text : List ℕ) (result : Result A DriveFault) → IsErr result
    → AppendsPrefix old new (held ++ text) → Holds old new held left text result
holds_front old new held left text (Ok x) e front = absurd (cc)
holds_front old new held left text (Err fault) e front = front
