-- A line that is read as a step begins with the step's name.
use Rattle.std.proofs.Common.{◌≡◌, sym, subst, ℕ, List, Bool, true, false, cond, length, refl, Result, Ok, Err}
use Rattle.std.specs.Prelude.{codes, if◌then◌else◌, ◌==◌}
use Rattle.std.specs.Str.{bytes_eq}
use Rattle.std.proofs.lemmas.Slice.Eq.{bytes_eq-Decides}
use Rattle.sva_step.specs.declared.steps.Step.{Step}
use Rattle.sva_step.specs.declared.steps.Step.TheVariants.{Space, DropSpace, Map, Unmap, UnmapRange, Look, Bearer}
use Rattle.sva_step.specs.declared.steps.Step.TheVariants.{Bind, Unbind, Advance, Pump, Serve, Reset, Take, Reply}
use Rattle.sva_step.specs.declared.steps.Step.TheVariants.{Ask, BeginUse, EndUse, Evict, Fault, Finish, Quit, Deliver}
use Rattle.sva_grammar.specs.declared.faults.Cause.{Cause}
use Rattle.sva_grammar.specs.declared.faults.Cause.TheVariants.{UnknownStep}
use Rattle.sva_grammar.specs.Grammar.{◌>>=◌, access, flags, group, has_words, has_words_or, is_last, number, one_number, vector, verdict, word}
use Rattle.sva_grammar.specs.Grammar.{step_of, host_step, endpoint_step}
use Rattle.sva_grammar.specs.Grammar.{space_step, drop_step, map_step, unmap_step, unmapr_step, look_step, bearer_step}
use Rattle.sva_grammar.specs.Grammar.{bind_step, unbind_step, advance_step, pump_step, serve_step, reset_step, take_step, answer_step}
use Rattle.sva_grammar.specs.Grammar.{ask_step, use_step, end_step, evict_step, fault_step, finish_step, quit_step, deliver_step}
use Rattle.sva_grammar.specs.Laws.{LinesAreNamed, step_name}

-- a step that was read bears this name
Bears : {E : Type 0} → List ℕ → Result Step E → Type 0
Bears name (Ok step) = name ≡ step_name step
Bears name (Err fault) = Unit {0}

through : {A : Type 0} (name : List ℕ) (read : Result A Cause) (next : A → Result Step Cause) → ((x : A) → Bears name (next x)) → Bears name (read >>= next)
unfolding Bears
through name (Ok x) next h = h x
through name (Err cause) next h = tt

space_bears : (words : List (List ℕ)) → Bears (codes "space") (space_step words)
unfolding space_step Bears
space_bears words = through _ (has_words 1 words) (λ _. Ok Space) (λ _. refl)

drop_bears : (words : List (List ℕ)) → Bears (codes "drop") (drop_step words)
unfolding drop_step Bears
drop_bears words = through _ (one_number words) (λ space. Ok (DropSpace space)) (λ space. refl)

map_bears : (words : List (List ℕ)) → Bears (codes "map") (map_step words)
unfolding map_step Bears
map_bears words =
    through _ (has_words 4 words) _
    (λ _. through _ (number (word 1 words)) _
    (λ space. through _ (number (word 2 words)) _
    (λ page. through _ (access (word 3 words)) (λ write. Ok (Map space page write)) (λ write. refl))))

unmap_bears : (words : List (List ℕ)) → Bears (codes "unmap") (unmap_step words)
unfolding unmap_step Bears
unmap_bears words =
    through _ (has_words_or 3 4 words) _
    (λ _. through _ (number (word 1 words)) _
    (λ space. through _ (number (word 2 words)) _
    (λ page. through _ (if length words == 4 then number (word 3 words) else Ok 1) (λ count. Ok (Unmap space page count)) (λ count. refl))))

unmapr_bears : (words : List (List ℕ)) → Bears (codes "unmapr") (unmapr_step words)
unfolding unmapr_step Bears
unmapr_bears words =
    through _ (has_words 4 words) _
    (λ _. through _ (number (word 1 words)) _
    (λ space. through _ (number (word 2 words)) _
    (λ page. through _ (number (word 3 words)) (λ order. Ok (UnmapRange space page order)) (λ order. refl))))

look_bears : (words : List (List ℕ)) → Bears (codes "look") (look_step words)
unfolding look_step Bears
look_bears words = through _ (one_number words) (λ frame. Ok (Look frame)) (λ frame. refl)

bearer_bears : (words : List (List ℕ)) → Bears (codes "bearer") (bearer_step words)
unfolding bearer_step Bears
bearer_bears words = through _ (one_number words) (λ pasid. Ok (Bearer pasid)) (λ pasid. refl)

bind_bears : (words : List (List ℕ)) → Bears (codes "bind") (bind_step words)
unfolding bind_step Bears
bind_bears words =
    through _ (has_words 3 words) _
    (λ _. through _ (number (word 1 words)) _
    (λ endpoint. through _ (number (word 2 words)) (λ space. Ok (Bind endpoint space)) (λ space. refl)))

unbind_bears : (words : List (List ℕ)) → Bears (codes "unbind") (unbind_step words)
unfolding unbind_step Bears
unbind_bears words = through _ (one_number words) (λ binding. Ok (Unbind binding)) (λ binding. refl)

advance_bears : (words : List (List ℕ)) → Bears (codes "advance") (advance_step words)
unfolding advance_step Bears
advance_bears words = through _ (one_number words) (λ binding. Ok (Advance binding)) (λ binding. refl)

pump_bears : (words : List (List ℕ)) → Bears (codes "pump") (pump_step words)
unfolding pump_step Bears
pump_bears words = through _ (one_number words) (λ endpoint. Ok (Pump endpoint)) (λ endpoint. refl)

serve_bears : (words : List (List ℕ)) → Bears (codes "serve") (serve_step words)
unfolding serve_step Bears
serve_bears words = through _ (one_number words) (λ endpoint. Ok (Serve endpoint)) (λ endpoint. refl)

reset_bears : (words : List (List ℕ)) → Bears (codes "reset") (reset_step words)
unfolding reset_step Bears
reset_bears words = through _ (one_number words) (λ endpoint. Ok (Reset endpoint)) (λ endpoint. refl)

take_bears : (words : List (List ℕ)) → Bears (codes "take") (take_step words)
unfolding take_step Bears
take_bears words = through _ (one_number words) (λ worker. Ok (Take worker)) (λ worker. refl)

answer_bears : (words : List (List ℕ)) → Bears (codes "answer") (answer_step words)
unfolding answer_step Bears
answer_bears words =
    through _ (has_words 3 words) _
    (λ _. through _ (number (word 1 words)) _
    (λ worker. through _ (verdict (word 2 words)) (λ said. Ok (Reply worker said)) (λ said. refl)))

ask_bears : (words : List (List ℕ)) → Bears (codes "ask") (ask_step words)
unfolding ask_step Bears
ask_bears words =
    through _ (has_words 4 words) _
    (λ _. through _ (number (word 1 words)) _
    (λ endpoint. through _ (number (word 2 words)) _
    (λ pasid. through _ (number (word 3 words)) (λ page. Ok (Ask endpoint pasid page)) (λ page. refl))))

use_bears : (words : List (List ℕ)) → Bears (codes "use") (use_step words)
unfolding use_step Bears
use_bears words =
    through _ (has_words 5 words) _
    (λ _. through _ (number (word 1 words)) _
    (λ endpoint. through _ (number (word 2 words)) _
    (λ pasid. through _ (number (word 3 words)) _
    (λ page. through _ (access (word 4 words)) (λ write. Ok (BeginUse endpoint pasid page write)) (λ write. refl)))))

end_bears : (words : List (List ℕ)) → Bears (codes "end") (end_step words)
unfolding end_step Bears
end_bears words =
    through _ (has_words 3 words) _
    (λ _. through _ (number (word 1 words)) _
    (λ endpoint. through _ (number (word 2 words)) (λ slot. Ok (EndUse endpoint slot)) (λ slot. refl)))

evict_bears : (words : List (List ℕ)) → Bears (codes "evict") (evict_step words)
unfolding evict_step Bears
evict_bears words =
    through _ (has_words 4 words) _
    (λ _. through _ (number (word 1 words)) _
    (λ endpoint. through _ (number (word 2 words)) _
    (λ pasid. through _ (number (word 3 words)) (λ page. Ok (Evict endpoint pasid page)) (λ page. refl))))

fault_bears : (words : List (List ℕ)) → Bears (codes "fault") (fault_step words)
unfolding fault_step Bears
fault_bears words =
    through _ (has_words 7 words) _
    (λ _. through _ (number (word 1 words)) _
    (λ endpoint. through _ (number (word 2 words)) _
    (λ pasid. through _ (number (word 3 words)) _
    (λ page. through _ (flags (word 4 words)) _
    (λ bits. through _ (group (word 5 words)) _
    (λ index. through _ (is_last (word 6 words)) (λ last. Ok (Fault endpoint pasid page bits.0 bits.1 index last)) (λ last. refl)))))))

finish_bears : (words : List (List ℕ)) → Bears (codes "finish") (finish_step words)
unfolding finish_step Bears
finish_bears words =
    through _ (has_words 4 words) _
    (λ _. through _ (number (word 1 words)) _
    (λ endpoint. through _ (vector (word 2 words)) _
    (λ tags. through _ (number (word 3 words)) (λ count. Ok (Finish endpoint tags count)) (λ count. refl))))

quit_bears : (words : List (List ℕ)) → Bears (codes "quit") (quit_step words)
unfolding quit_step Bears
quit_bears words =
    through _ (has_words 3 words) _
    (λ _. through _ (number (word 1 words)) _
    (λ endpoint. through _ (number (word 2 words)) (λ pasid. Ok (Quit endpoint pasid)) (λ pasid. refl)))

deliver_bears : (words : List (List ℕ)) → Bears (codes "deliver") (deliver_step words)
unfolding deliver_step Bears
deliver_bears words = through _ (one_number words) (λ message. Ok (Deliver message)) (λ message. refl)

-- by the first of the names, or else another line
by_test : (named : Bool) (name first : List ℕ) (a b : Result Step Cause) → bytes_eq first name ≡ named → Bears name a → Bears first b
    → Bears first (cond named a b)
by_test true name first a b e p q = subst (λ w. Bears w a) (sym ((bytes_eq-Decides first name).0 e)) p
by_test false name first a b e p q = q

by_name : (name first : List ℕ) (a b : Result Step Cause) → Bears name a → Bears first b → Bears first (cond (bytes_eq first name) a b)
by_name name first a b p q = by_test _ name first a b refl p q

no_name : (first : List ℕ) → Bears first (Err UnknownStep)
unfolding Bears
no_name first = tt

endpoint_bears : (words : List (List ℕ)) → Bears (word 0 words) (endpoint_step words)
unfolding endpoint_step
endpoint_bears words =
    by_name _ _ _ _ (ask_bears words)
    (by_name _ _ _ _ (use_bears words)
    (by_name _ _ _ _ (end_bears words)
    (by_name _ _ _ _ (evict_bears words)
    (by_name _ _ _ _ (fault_bears words)
    (by_name _ _ _ _ (finish_bears words)
    (by_name _ _ _ _ (quit_bears words)
    (by_name _ _ _ _ (deliver_bears words)
    (no_name _))))))))

host_bears : (words : List (List ℕ)) → Bears (word 0 words) (host_step words)
unfolding host_step
host_bears words =
    by_name _ _ _ _ (bind_bears words)
    (by_name _ _ _ _ (unbind_bears words)
    (by_name _ _ _ _ (advance_bears words)
    (by_name _ _ _ _ (pump_bears words)
    (by_name _ _ _ _ (serve_bears words)
    (by_name _ _ _ _ (reset_bears words)
    (by_name _ _ _ _ (take_bears words)
    (by_name _ _ _ _ (answer_bears words)
    (endpoint_bears words))))))))

step_bears : (words : List (List ℕ)) → Bears (word 0 words) (step_of words)
unfolding step_of
step_bears words =
    by_name _ _ _ _ (space_bears words)
    (by_name _ _ _ _ (drop_bears words)
    (by_name _ _ _ _ (map_bears words)
    (by_name _ _ _ _ (unmap_bears words)
    (by_name _ _ _ _ (unmapr_bears words)
    (by_name _ _ _ _ (look_bears words)
    (by_name _ _ _ _ (bearer_bears words)
    (host_bears words)))))))

pub lines_are_named : LinesAreNamed
unfolding Bears
lines_are_named words step h = subst (λ read. Bears (word 0 words) read) h (step_bears words)
