-- What is told of an act that comes by itself, and of what a line finds, has no line end in it.
use Rattle.std.proofs.Common.{◌≡◌, ◌∙◌, ap, arith, cond, refl, ℕ, zero, suc, ◌+◌, ◌/◌, ◌%◌, ◌==◌, ◌||◌, Bool, true, false, List, [], ◌∷◌, ◌++◌}
use Rattle.std.proofs.Common.{codes, decimal, Option, Some, None}
use Rattle.std.proofs.lemmas.Bool.Decides.{nat_tests}
use Rattle.std.proofs.lemmas.List.Folds.{list_any-append}
use Rattle.std.specs.Fmt.{digit_glyph, digits, digits_onto}
use Rattle.std.specs.List.{list_any}
use Rattle.std.specs.Prelude.{count_by, if◌then◌else◌, nat_lt, replicate, slice_get, take}
use Rattle.sva_open.specs.World.{Part}
use Rattle.sva_open.specs.declared.acts.LocalAct.{LocalAct}
use Rattle.sva_open.specs.declared.acts.LocalAct.TheVariants as local
use Rattle.sva_open.specs.declared.frames.Translation.{Translation}
use Rattle.sva_open.specs.declared.messages.Sent.{Sent}
use Rattle.sva_open.specs.declared.naming.Kind.{Kind}
use Rattle.sva_open.specs.declared.naming.Kind.TheVariants as kind
use Rattle.sva_open.specs.declared.rows.KeptEntry.{KeptEntry}
use Rattle.sva_open.specs.declared.works.Group.{Group}
use Rattle.sva_open.specs.declared.drivers.Saying.{Saying}
use Rattle.sva_open.specs.declared.drivers.Saying.TheVariants as saying
use Rattle.sva_open.specs.Finding.{is_draining, is_taken, is_use, kind_of}
use Rattle.sva_judge.specs.Choices.{is_found}
use Rattle.sva_judge.specs.Spots.{Spot}
use Rattle.sva_judge.specs.declared.choices.Doing.{Doing}
use Rattle.sva_judge.specs.declared.choices.Doing.TheVariants as doing
use Rattle.sva_driver_words.specs.Pieces.{access_text, and_number, and_older, code_text, kind_text, last_text, with_endpoint, with_page, with_pasid}
use Rattle.sva_driver_reports.specs.Events.{delivered_text, entry_forgotten, local_text, more_request, older_messages, page_forgotten}
use Rattle.sva_driver_reports.specs.Witness.{answer_of, answer_text, who_text}
use Rattle.sva_driver_reports.specs.Witnesses.{IsOneLine}

-- ---- Pieces

pub both : (first second : List ℕ) → IsOneLine first → IsOneLine second → IsOneLine (first ++ second)
both first second a b = list_any-append (λ byte. byte == 10) first second ∙ ap (λ t. t || list_any (λ byte. byte == 10) second) a ∙ b

pub either : (test : Bool) (one other : List ℕ) → IsOneLine one → IsOneLine other → IsOneLine (if test then one else other)
either true one other a b = a
either false one other a b = b

pub none_of : (a b : Bool) → (a || b) ≡ false → (a ≡ false) × (b ≡ false)
none_of true b is = absurd (cc is)
none_of false b is = (refl, is)

pub blanks_one : (count : ℕ) → IsOneLine (replicate count 32)
blanks_one zero = refl
blanks_one (suc count) = blanks_one count

-- ---- Numbers

glyph_one : (digit : ℕ) → (digit_glyph false digit == 10) ≡ false
glyph_one digit = by_test (nat_lt digit 10)
  where
    by_test : (test : Bool) → (cond test (48 + digit) (87 + digit) == 10) ≡ false
    by_test true = grind (arith, nat_tests)
    by_test false = grind (arith, nat_tests)

digits_one : (places number : ℕ) (text : List ℕ) → IsOneLine text → IsOneLine (digits_onto places 10 false number text)
digits_one zero number text h = h
digits_one (suc places) number text h =
    let digit = digit_glyph false (number % 10) in
    let last : IsOneLine (digit ∷ text) = ap (λ t. t || list_any (λ byte. byte == 10) text) (glyph_one (number % 10)) ∙ h in
    either (number / 10 == 0) (digit ∷ text) (digits_onto places 10 false (number / 10) (digit ∷ text)) last
    (digits_one places (number / 10) (digit ∷ text) last)

pub decimal_one : (number : ℕ) → IsOneLine (decimal number)
unfolding digits
decimal_one number = digits_one 64 number [] refl

number_one : (number : ℕ) → IsOneLine (and_number number)
number_one number = both (codes " ") (decimal number) refl (decimal_one number)

endpoint_one : (word : List ℕ) (endpoint : ℕ) → IsOneLine word → IsOneLine (with_endpoint word endpoint)
endpoint_one word endpoint h = both word (and_number endpoint) h (number_one endpoint)

pasid_one : (word : List ℕ) (endpoint pasid : ℕ) → IsOneLine word → IsOneLine (with_pasid word endpoint pasid)
pasid_one word endpoint pasid h = both (with_endpoint word endpoint) (and_number pasid) (endpoint_one word endpoint h) (number_one pasid)

page_one : (word : List ℕ) (endpoint pasid page : ℕ) → IsOneLine word → IsOneLine (with_page word endpoint pasid page)
page_one word endpoint pasid page h = both (with_pasid word endpoint pasid) (and_number page) (pasid_one word endpoint pasid h) (number_one page)

older_one : (older : ℕ) → IsOneLine (and_older older)
older_one older = either (older == 0) [] (and_number older) refl (number_one older)

access_one : (write : Bool) → IsOneLine (access_text write)
access_one true = refl
access_one false = refl

last_one : (last : Bool) → IsOneLine (last_text last)
last_one true = refl
last_one false = refl

code_one : (fails : Bool) → IsOneLine (code_text fails)
code_one true = refl
code_one false = refl

kind_one : (it : Kind) → IsOneLine (kind_text it)
kind_one kind.Start = refl
kind_one kind.Stop = refl
kind_one kind.Reset = refl
kind_one kind.Completion = refl
kind_one kind.Invalidate = refl
kind_one kind.Response = refl
kind_one kind.Request = refl
kind_one kind.Invalidated = refl
kind_one kind.PageRequest = refl
kind_one kind.Marker = refl
kind_one kind.Status = refl
kind_one kind.ResetDone = refl
kind_one kind.Barrier = refl
kind_one kind.Passed = refl

-- ---- Acts that come by themselves

delivered_one : (part : Part) (endpoint place : ℕ) (one : Option Sent) → IsOneLine (delivered_text part endpoint place one)
delivered_one part endpoint place None = refl
delivered_one part endpoint place (Some one) =
    let word = kind_text (kind_of one.message) in
    let older = older_messages part.flight place one in
    both (codes "deliver ") (with_endpoint word endpoint ++ and_older older) refl
    (both (with_endpoint word endpoint) (and_older older) (endpoint_one word endpoint (kind_one (kind_of one.message))) (older_one older))

more_one : (endpoint index page : ℕ) (write last : Bool) (group : Option (Option Group)) → IsOneLine (more_request endpoint index page write last group)
more_one endpoint index page write last None = refl
more_one endpoint index page write last (Some None) = refl
more_one endpoint index page write last (Some (Some group)) =
    let page_text = with_page (codes "fault") endpoint group.pasid page in
    both (page_text ++ access_text write ++ and_number index) (last_text last)
    (both (page_text ++ access_text write) (and_number index)
    (both page_text (access_text write) (page_one (codes "fault") endpoint group.pasid page refl) (access_one write)) (number_one index)) (last_one last)

entry_one : (endpoint : ℕ) (kept : Option KeptEntry) → IsOneLine (entry_forgotten endpoint kept)
entry_one endpoint None = refl
entry_one endpoint (Some kept) = pasid_one (codes "forget") endpoint kept.pasid refl

forgotten_one : (endpoint : ℕ) (kept : Option Translation) → IsOneLine (page_forgotten endpoint kept)
forgotten_one endpoint None = refl
forgotten_one endpoint (Some kept) = page_one (codes "forget") endpoint kept.pasid kept.page refl

pub act_one : (part : Part) (endpoint : ℕ) (its : LocalAct) → IsOneLine (local_text part endpoint its)
act_one part endpoint (local.Deliver place) = delivered_one part endpoint place (slice_get part.flight place)
act_one part endpoint local.Pump = endpoint_one (codes "pump") endpoint refl
act_one part endpoint (local.PumpAt place) = pasid_one (codes "pump") endpoint place refl
act_one part endpoint (local.Expire itag silent) = pasid_one (codes "expire") endpoint itag refl
act_one part endpoint local.Write = endpoint_one (codes "write") endpoint refl
act_one part endpoint local.Serve = endpoint_one (codes "serve") endpoint refl
act_one part endpoint (local.Respond pasid index fails) =
    both (with_page (codes "respond") endpoint pasid index) (code_text fails) (page_one (codes "respond") endpoint pasid index refl) (code_one fails)
act_one part endpoint (local.End place) =
    let older = count_by is_use (take place part.works) in
    both (with_endpoint (codes "end") endpoint) (and_older older) (endpoint_one (codes "end") endpoint refl) (older_one older)
act_one part endpoint (local.Finish place) =
    let older = count_by is_taken (take place part.works) in
    both (with_endpoint (codes "finish") endpoint) (and_older older) (endpoint_one (codes "finish") endpoint refl) (older_one older)
act_one part endpoint (local.Pass place) =
    let older = count_by is_draining (take place part.works) in
    both (with_endpoint (codes "pass") endpoint) (and_older older) (endpoint_one (codes "pass") endpoint refl) (older_one older)
act_one part endpoint (local.Quit pasid) = pasid_one (codes "quit") endpoint pasid refl
act_one part endpoint local.Leave = endpoint_one (codes "gone") endpoint refl
act_one part endpoint (local.More index page write last) = more_one endpoint index page write last (slice_get part.groups index)
act_one part endpoint (local.Ask pasid page) = page_one (codes "ask") endpoint pasid page refl
act_one part endpoint (local.Use pasid page) = page_one (codes "use") endpoint pasid page refl
act_one part endpoint (local.Fault pasid page write last) =
    let page_text = with_page (codes "fault") endpoint pasid page in
    both (page_text ++ access_text write ++ codes " new") (last_text last)
    (both (page_text ++ access_text write) (codes " new")
    (both page_text (access_text write) (page_one (codes "fault") endpoint pasid page refl) (access_one write)) refl) (last_one last)
act_one part endpoint (local.Evict pasid page) = page_one (codes "evict") endpoint pasid page refl
act_one part endpoint (local.ForgetEntry place) = entry_one endpoint (slice_get part.kept_entries place)
act_one part endpoint (local.Forget place) = forgotten_one endpoint (slice_get part.kept place)
act_one part endpoint _ = refl

pub who_one : (own : Doing) (at : ℕ) → IsOneLine (who_text own at)
who_one doing.Line at = refl
who_one doing.Deliver at = refl
who_one doing.Pump at = endpoint_one (codes "unit") at refl
who_one doing.PumpAt at = endpoint_one (codes "unit") at refl
who_one doing.Expire at = endpoint_one (codes "unit") at refl
who_one doing.Write at = endpoint_one (codes "unit") at refl
who_one doing.ForgetEntry at = endpoint_one (codes "unit") at refl
who_one doing.Forget at = endpoint_one (codes "unit") at refl
who_one doing.Serve at = refl
who_one doing.Answer at = refl
who_one doing.Fail at = refl
who_one _ at = endpoint_one (codes "endpoint") at refl

-- ---- What a line finds

found_one : (found : Bool) → IsOneLine (answer_text found)
found_one true = refl
found_one false = refl

pub answer_one : (spot : Spot) (says : Saying) → IsOneLine (answer_of spot says)
answer_one spot (saying.Looks its so) = found_one (is_found spot its so)
answer_one spot _ = refl
