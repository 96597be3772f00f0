-- First in, first out, and the size of the queue.
use Rattle.std.proofs.Common.{◌≡◌, ◌+◌, ◌≤◌, Bool, true, false, Option, None, List, [], ◌∷◌, ◌++◌, length, nat_le, if◌then◌else◌, refl, ap, sym, ◌∙◌}
use Rattle.std.proofs.Common.{append_assoc, append-nil, length-append, length-drop, arith}
use Rattle.std.specs.List.{AllByRecursion as ByRecursion}
use Rattle.std.proofs.lemmas.List.{take-append-drop}
use Rattle.std.proofs.lemmas.List.Elements.{recursion_from_All, All-replicate}
use Rattle.std.proofs.lemmas.Bool.Decides.{nat_tests}
use Rattle.sva_itags.specs.Tags.{AreTags, IsPlace}
use Rattle.sva_itags.proofs.CallerLemmas.{after-tags}
use Rattle.sva_itags.specs.Calls.{Call as TagCall, after as tag_after, after_all as tags_after}
use Rattle.sva_itags.specs.Calls.Call.{Take as Take_tag, Arrived as Arrived_tag}
use Rattle.sva_itags.specs.declared.itags.Busy.{Busy}
use Rattle.sva_queue.specs.declared.descriptors.Descriptor.{Descriptor}
use Rattle.sva_queue.specs.declared.descriptors.Pumped.{Pumped}
use Rattle.sva_queue.specs.declared.descriptors.Pumped.TheVariants.{Issued, Done, Blocked, Idle}
use Rattle.sva_queue.specs.Queue.{Queue, empty, with_more, next_of, after_answer}
use Rattle.sva_queue.specs.Calls.{Call, after, after_all, IsCounted, AlwaysFits, entering, taken_off, leaving, all_entering, all_leaving, FirstInFirstOut}
use Rattle.sva_queue.specs.Calls.{tag_calls_by, tag_calls_of, all_tag_calls, TagsByCalls}
use Rattle.sva_queue.specs.Calls.Call.{Submit, Pump, Arrived, BeginReset, EndReset}

-- ---- one call
submit_step : (queue : Queue) (more : List Descriptor) (b : Bool) → queue.descriptors ++ (if b then more else [])
    ≡ (if b then with_more more queue else queue).descriptors
submit_step queue more true = refl
submit_step queue more false = append-nil queue.descriptors

pump_step : (answer : Pumped) (queue : Queue) → queue.descriptors ≡ taken_off answer queue.descriptors ++ (after_answer answer queue).descriptors
pump_step (Issued tag) queue = sym (take-append-drop 1 queue.descriptors)
pump_step (Done cookie) queue = sym (take-append-drop 1 queue.descriptors)
pump_step Blocked queue = refl
pump_step Idle queue = refl

pub one_step : (call : Call) (queue : Queue) → queue.descriptors ++ entering queue call ≡ leaving queue call ++ (after queue call).descriptors
one_step (Submit more) queue = submit_step queue more (nat_le (length queue.descriptors + length more) 64)
one_step (Pump e) queue = append-nil queue.descriptors ∙ pump_step (next_of queue e) queue
one_step (Arrived v n) queue = append-nil queue.descriptors
one_step BeginReset queue = refl
one_step EndReset queue = append-nil queue.descriptors

-- ---- all calls
in_order : (calls : List Call) (queue : Queue) → queue.descriptors ++ all_entering queue calls ≡ all_leaving queue calls
    ++ (after_all queue calls).descriptors
in_order [] queue = append-nil queue.descriptors
in_order (call ∷ calls) queue =
    let rest = all_entering (after queue call) calls in
    sym (append_assoc queue.descriptors (entering queue call) rest)
    ∙ ap (λ xs. xs ++ rest) (one_step call queue)
    ∙ append_assoc (leaving queue call) (after queue call).descriptors rest
    ∙ ap (λ xs. leaving queue call ++ xs) (in_order calls (after queue call))
    ∙ sym (append_assoc (leaving queue call) (all_leaving (after queue call) calls) (after_all queue (call ∷ calls)).descriptors)

pub first_in_first_out : FirstInFirstOut
first_in_first_out calls = in_order calls empty

-- ---- the size of the queue, and its tags
submit_fits : (queue : Queue) (more : List Descriptor) (b : Bool) → b ≡ nat_le (length queue.descriptors + length more) 64 → length queue.descriptors
    ≤ 64 → length (if b then with_more more queue else queue).descriptors ≤ 64
submit_fits queue more true e h =
    let fits : length queue.descriptors + length more ≤ 64 = grind (arith, nat_tests) in
    omega (arith, length-append queue.descriptors more)
submit_fits queue more false e h = h

pump_fits : (answer : Pumped) (queue : Queue) → length queue.descriptors ≤ 64 → length (after_answer answer queue).descriptors ≤ 64
pump_fits (Issued tag) queue h = omega (arith, length-drop 1 queue.descriptors)
pump_fits (Done cookie) queue h = omega (arith, length-drop 1 queue.descriptors)
pump_fits Blocked queue h = h
pump_fits Idle queue h = h

call_fits : (call : Call) (queue : Queue) → length queue.descriptors ≤ 64 → length (after queue call).descriptors ≤ 64
call_fits (Submit more) queue h = submit_fits queue more (nat_le (length queue.descriptors + length more) 64) refl h
call_fits (Pump e) queue h = pump_fits (next_of queue e) queue h
call_fits (Arrived v n) queue h = h
call_fits BeginReset queue h = omega arith
call_fits EndReset queue h = h

submit_tags : (queue : Queue) (more : List Descriptor) (b : Bool) → AreTags queue.tags → AreTags (if b then with_more more queue else queue).tags
submit_tags queue more true h = h
submit_tags queue more false h = h

pump_tags : (answer : Pumped) (queue : Queue) → AreTags queue.tags → AreTags (after_answer answer queue).tags
pump_tags (Issued tag) queue h = after-tags Take_tag queue.tags tt h
pump_tags (Done cookie) queue h = h
pump_tags Blocked queue h = h
pump_tags Idle queue h = h

call_tags : (call : Call) (queue : Queue) → IsCounted call → AreTags queue.tags → AreTags (after queue call).tags
call_tags (Submit more) queue p h = submit_tags queue more (nat_le (length queue.descriptors + length more) 64) h
call_tags (Pump e) queue p h = pump_tags (next_of queue e) queue h
call_tags (Arrived v n) queue p h = after-tags (Arrived_tag v n) queue.tags p h
call_tags BeginReset queue p h = h
call_tags EndReset queue p h = (refl, All-replicate IsPlace 32 None tt)

all_fit : (calls : List Call) (queue : Queue) → ByRecursion IsCounted calls → length queue.descriptors ≤ 64 → AreTags queue.tags
    → (length (after_all queue calls).descriptors ≤ 64) × AreTags (after_all queue calls).tags
all_fit [] queue p h t = (h, t)
all_fit (call ∷ calls) queue p h t = all_fit calls (after queue call) p.1 (call_fits call queue h) (call_tags call queue p.0 t)

pub always_fits : AlwaysFits
always_fits calls p =
    all_fit calls empty (recursion_from_All IsCounted calls p) (omega arith) (refl, All-replicate IsPlace 32 None tt)

-- ---- what changes the tags
tags_after-append : (xs ys : List TagCall) (tags : List (Option Busy)) → tags_after tags (xs ++ ys) ≡ tags_after (tags_after tags xs) ys
tags_after-append [] ys tags = refl
tags_after-append (x ∷ xs) ys tags = tags_after-append xs ys (tag_after tags x)

submit_step_tags : (queue : Queue) (more : List Descriptor) (b : Bool) → (if b then with_more more queue else queue).tags ≡ queue.tags
submit_step_tags queue more true = refl
submit_step_tags queue more false = refl

pump_step_tags : (answer : Pumped) (queue : Queue) → (after_answer answer queue).tags ≡ tags_after queue.tags (tag_calls_by answer)
pump_step_tags (Issued tag) queue = refl
pump_step_tags (Done cookie) queue = refl
pump_step_tags Blocked queue = refl
pump_step_tags Idle queue = refl

one_step_tags : (call : Call) (queue : Queue) → (after queue call).tags ≡ tags_after queue.tags (tag_calls_of queue call)
one_step_tags (Submit more) queue = submit_step_tags queue more (nat_le (length queue.descriptors + length more) 64)
one_step_tags (Pump e) queue = pump_step_tags (next_of queue e) queue
one_step_tags (Arrived v n) queue = refl
one_step_tags BeginReset queue = refl
one_step_tags EndReset queue = refl

by_calls : (calls : List Call) (queue : Queue) → (after_all queue calls).tags ≡ tags_after queue.tags (all_tag_calls queue calls)
by_calls [] queue = refl
by_calls (call ∷ calls) queue =
    by_calls calls (after queue call)
    ∙ ap (λ tags. tags_after tags (all_tag_calls (after queue call) calls)) (one_step_tags call queue)
    ∙ sym (tags_after-append (tag_calls_of queue call) (all_tag_calls (after queue call) calls) queue.tags)

pub tags_by_calls : TagsByCalls
tags_by_calls calls = by_calls calls empty
