-- The steps by the first letter of their names.
use Rattle.std.specs.Prelude.{ℕ, if◌then◌else◌, List, codes, Result, Err}
use Rattle.std.specs.Str.{bytes_eq}
use Rattle.sva_step.specs.declared.steps.Step.{Step}
use Rattle.sva_grammar.specs.Grammar.{word}
use Rattle.sva_grammar.specs.Grammar.{space_step, drop_step, map_step, unmap_step, unmapr_step, look_step, bearer_step}
use Rattle.sva_grammar.specs.Grammar.{bind_step, unbind_step, advance_step, pump_step, serve_step, reset_step, take_step, answer_step}
use Rattle.sva_grammar.specs.Grammar.{ask_step, use_step, end_step, evict_step, fault_step, finish_step, quit_step, deliver_step}
use Rattle.sva_grammar.specs.declared.faults.Cause.{Cause}
use Rattle.sva_grammar.specs.declared.faults.Cause.TheVariants.{UnknownStep}

unfoldable pub step_with_a : List (List ℕ) → Result Step Cause
step_with_a words =
    if bytes_eq (word 0 words) (codes "advance") then advance_step words else
    if bytes_eq (word 0 words) (codes "answer") then answer_step words else
    if bytes_eq (word 0 words) (codes "ask") then ask_step words else
    Err UnknownStep

unfoldable pub step_with_b : List (List ℕ) → Result Step Cause
step_with_b words =
    if bytes_eq (word 0 words) (codes "bearer") then bearer_step words else
    if bytes_eq (word 0 words) (codes "bind") then bind_step words else
    Err UnknownStep

unfoldable pub step_with_d : List (List ℕ) → Result Step Cause
step_with_d words =
    if bytes_eq (word 0 words) (codes "drop") then drop_step words else
    if bytes_eq (word 0 words) (codes "deliver") then deliver_step words else
    Err UnknownStep

unfoldable pub step_with_e : List (List ℕ) → Result Step Cause
step_with_e words =
    if bytes_eq (word 0 words) (codes "end") then end_step words else
    if bytes_eq (word 0 words) (codes "evict") then evict_step words else
    Err UnknownStep

unfoldable pub step_with_f : List (List ℕ) → Result Step Cause
step_with_f words =
    if bytes_eq (word 0 words) (codes "fault") then fault_step words else
    if bytes_eq (word 0 words) (codes "finish") then finish_step words else
    Err UnknownStep

unfoldable pub step_with_l : List (List ℕ) → Result Step Cause
step_with_l words =
    if bytes_eq (word 0 words) (codes "look") then look_step words else
    Err UnknownStep

unfoldable pub step_with_m : List (List ℕ) → Result Step Cause
step_with_m words =
    if bytes_eq (word 0 words) (codes "map") then map_step words else
    Err UnknownStep

unfoldable pub step_with_p : List (List ℕ) → Result Step Cause
step_with_p words =
    if bytes_eq (word 0 words) (codes "pump") then pump_step words else
    Err UnknownStep

unfoldable pub step_with_q : List (List ℕ) → Result Step Cause
step_with_q words =
    if bytes_eq (word 0 words) (codes "quit") then quit_step words else
    Err UnknownStep

unfoldable pub step_with_r : List (List ℕ) → Result Step Cause
step_with_r words =
    if bytes_eq (word 0 words) (codes "reset") then reset_step words else
    Err UnknownStep

unfoldable pub step_with_s : List (List ℕ) → Result Step Cause
step_with_s words =
    if bytes_eq (word 0 words) (codes "space") then space_step words else
    if bytes_eq (word 0 words) (codes "serve") then serve_step words else
    Err UnknownStep

unfoldable pub step_with_t : List (List ℕ) → Result Step Cause
step_with_t words =
    if bytes_eq (word 0 words) (codes "take") then take_step words else
    Err UnknownStep

unfoldable pub step_with_u : List (List ℕ) → Result Step Cause
step_with_u words =
    if bytes_eq (word 0 words) (codes "unmap") then unmap_step words else
    if bytes_eq (word 0 words) (codes "unmapr") then unmapr_step words else
    if bytes_eq (word 0 words) (codes "unbind") then unbind_step words else
    if bytes_eq (word 0 words) (codes "use") then use_step words else
    Err UnknownStep
