-- The name of a step is one of those that begin with its first letter.
use Rattle.std.proofs.Common.{◌≡◌, ◌∙◌, ap, sym, subst, refl, arith, ℕ, suc, false, List, [], ◌∷◌, Result, Err}
use Rattle.std.proofs.lemmas.Bool.Decides.{nat_tests}
use Rattle.std.specs.Prelude.{codes, ◌&&◌, if◌then◌else◌, slice_index_or, nat_eq}
use Rattle.std.specs.Str.{bytes_eq}
use Rattle.sva_step.specs.declared.steps.Step.{Step}
use Rattle.sva_grammar.specs.Grammar.{word, step_of, host_step, endpoint_step}
use Rattle.sva_grammar.specs.Grammar.{space_step, drop_step, map_step, unmap_step}
use Rattle.sva_grammar.specs.Grammar.{unmapr_step, look_step, bearer_step}
use Rattle.sva_grammar.specs.Grammar.{bind_step, unbind_step, advance_step, pump_step}
use Rattle.sva_grammar.specs.Grammar.{serve_step, reset_step, take_step, answer_step}
use Rattle.sva_grammar.specs.Grammar.{ask_step, use_step, end_step, evict_step}
use Rattle.sva_grammar.specs.Grammar.{fault_step, finish_step, quit_step, deliver_step}
use Rattle.sva_grammar.specs.Letters.{step_with_a, step_with_b, step_with_d, step_with_e}
use Rattle.sva_grammar.specs.Letters.{step_with_f, step_with_l, step_with_m}
use Rattle.sva_grammar.specs.Letters.{step_with_p, step_with_q, step_with_r, step_with_s, step_with_t, step_with_u}
use Rattle.sva_grammar.specs.declared.faults.Cause.{Cause}
use Rattle.sva_grammar.specs.declared.faults.Cause.TheVariants.{UnknownStep}

-- the step of all words, whose first one stands beside them
step_by : List ℕ → List (List ℕ) → Result Step Cause
step_by first words =
    if bytes_eq first (codes "space") then space_step words else
    if bytes_eq first (codes "drop") then drop_step words else
    if bytes_eq first (codes "map") then map_step words else
    if bytes_eq first (codes "unmap") then unmap_step words else
    if bytes_eq first (codes "unmapr") then unmapr_step words else
    if bytes_eq first (codes "look") then look_step words else
    if bytes_eq first (codes "bearer") then bearer_step words else
    if bytes_eq first (codes "bind") then bind_step words else
    if bytes_eq first (codes "unbind") then unbind_step words else
    if bytes_eq first (codes "advance") then advance_step words else
    if bytes_eq first (codes "pump") then pump_step words else
    if bytes_eq first (codes "serve") then serve_step words else
    if bytes_eq first (codes "reset") then reset_step words else
    if bytes_eq first (codes "take") then take_step words else
    if bytes_eq first (codes "answer") then answer_step words else
    if bytes_eq first (codes "ask") then ask_step words else
    if bytes_eq first (codes "use") then use_step words else
    if bytes_eq first (codes "end") then end_step words else
    if bytes_eq first (codes "evict") then evict_step words else
    if bytes_eq first (codes "fault") then fault_step words else
    if bytes_eq first (codes "finish") then finish_step words else
    if bytes_eq first (codes "quit") then quit_step words else
    if bytes_eq first (codes "deliver") then deliver_step words else
    Err UnknownStep

whole : (words : List (List ℕ)) → step_of words ≡ step_by (word 0 words) words
unfolding step_of host_step endpoint_step step_by
whole words = refl

-- the first word begins with a letter
abbrev pub Begins : List (List ℕ) → (letter : ℕ) → Type 0
Begins words letter = slice_index_or (word 0 words) 0 0 ≡ letter

-- a word that has a first letter begins with it
begins : (word : List ℕ) (n : ℕ) → slice_index_or word 0 0 ≡ suc n → (rest : List ℕ) × (word ≡ suc n ∷ rest)
begins [] n h = absurd (cc)
begins (one ∷ rest) n h = (rest, ap (λ it. it ∷ rest) h)

a_by : List ℕ → List (List ℕ) → Result Step Cause
a_by first words =
    if bytes_eq first (codes "advance") then advance_step words else
    if bytes_eq first (codes "answer") then answer_step words else
    if bytes_eq first (codes "ask") then ask_step words else
    Err UnknownStep

pub begins_with_a : (words : List (List ℕ)) → Begins words 97 → step_with_a words ≡ step_of words
unfolding step_with_a step_by a_by
begins_with_a words h =
    let (rest, is) = begins (word 0 words) 96 h in
    subst (λ first. a_by first words ≡ step_by first words) (sym is) refl ∙ sym (whole words)

b_by : List ℕ → List (List ℕ) → Result Step Cause
b_by first words =
    if bytes_eq first (codes "bearer") then bearer_step words else
    if bytes_eq first (codes "bind") then bind_step words else
    Err UnknownStep

pub begins_with_b : (words : List (List ℕ)) → Begins words 98 → step_with_b words ≡ step_of words
unfolding step_with_b step_by b_by
begins_with_b words h =
    let (rest, is) = begins (word 0 words) 97 h in
    subst (λ first. b_by first words ≡ step_by first words) (sym is) refl ∙ sym (whole words)

d_by : List ℕ → List (List ℕ) → Result Step Cause
d_by first words =
    if bytes_eq first (codes "drop") then drop_step words else
    if bytes_eq first (codes "deliver") then deliver_step words else
    Err UnknownStep

pub begins_with_d : (words : List (List ℕ)) → Begins words 100 → step_with_d words ≡ step_of words
unfolding step_with_d step_by d_by
begins_with_d words h =
    let (rest, is) = begins (word 0 words) 99 h in
    subst (λ first. d_by first words ≡ step_by first words) (sym is) refl ∙ sym (whole words)

e_by : List ℕ → List (List ℕ) → Result Step Cause
e_by first words =
    if bytes_eq first (codes "end") then end_step words else
    if bytes_eq first (codes "evict") then evict_step words else
    Err UnknownStep

pub begins_with_e : (words : List (List ℕ)) → Begins words 101 → step_with_e words ≡ step_of words
unfolding step_with_e step_by e_by
begins_with_e words h =
    let (rest, is) = begins (word 0 words) 100 h in
    subst (λ first. e_by first words ≡ step_by first words) (sym is) refl ∙ sym (whole words)

f_by : List ℕ → List (List ℕ) → Result Step Cause
f_by first words =
    if bytes_eq first (codes "fault") then fault_step words else
    if bytes_eq first (codes "finish") then finish_step words else
    Err UnknownStep

pub begins_with_f : (words : List (List ℕ)) → Begins words 102 → step_with_f words ≡ step_of words
unfolding step_with_f step_by f_by
begins_with_f words h =
    let (rest, is) = begins (word 0 words) 101 h in
    subst (λ first. f_by first words ≡ step_by first words) (sym is) refl ∙ sym (whole words)

l_by : List ℕ → List (List ℕ) → Result Step Cause
l_by first words =
    if bytes_eq first (codes "look") then look_step words else
    Err UnknownStep

pub begins_with_l : (words : List (List ℕ)) → Begins words 108 → step_with_l words ≡ step_of words
unfolding step_with_l step_by l_by
begins_with_l words h =
    let (rest, is) = begins (word 0 words) 107 h in
    subst (λ first. l_by first words ≡ step_by first words) (sym is) refl ∙ sym (whole words)

m_by : List ℕ → List (List ℕ) → Result Step Cause
m_by first words =
    if bytes_eq first (codes "map") then map_step words else
    Err UnknownStep

pub begins_with_m : (words : List (List ℕ)) → Begins words 109 → step_with_m words ≡ step_of words
unfolding step_with_m step_by m_by
begins_with_m words h =
    let (rest, is) = begins (word 0 words) 108 h in
    subst (λ first. m_by first words ≡ step_by first words) (sym is) refl ∙ sym (whole words)

p_by : List ℕ → List (List ℕ) → Result Step Cause
p_by first words =
    if bytes_eq first (codes "pump") then pump_step words else
    Err UnknownStep

pub begins_with_p : (words : List (List ℕ)) → Begins words 112 → step_with_p words ≡ step_of words
unfolding step_with_p step_by p_by
begins_with_p words h =
    let (rest, is) = begins (word 0 words) 111 h in
    subst (λ first. p_by first words ≡ step_by first words) (sym is) refl ∙ sym (whole words)

q_by : List ℕ → List (List ℕ) → Result Step Cause
q_by first words =
    if bytes_eq first (codes "quit") then quit_step words else
    Err UnknownStep

pub begins_with_q : (words : List (List ℕ)) → Begins words 113 → step_with_q words ≡ step_of words
unfolding step_with_q step_by q_by
begins_with_q words h =
    let (rest, is) = begins (word 0 words) 112 h in
    subst (λ first. q_by first words ≡ step_by first words) (sym is) refl ∙ sym (whole words)

r_by : List ℕ → List (List ℕ) → Result Step Cause
r_by first words =
    if bytes_eq first (codes "reset") then reset_step words else
    Err UnknownStep

pub begins_with_r : (words : List (List ℕ)) → Begins words 114 → step_with_r words ≡ step_of words
unfolding step_with_r step_by r_by
begins_with_r words h =
    let (rest, is) = begins (word 0 words) 113 h in
    subst (λ first. r_by first words ≡ step_by first words) (sym is) refl ∙ sym (whole words)

s_by : List ℕ → List (List ℕ) → Result Step Cause
s_by first words =
    if bytes_eq first (codes "space") then space_step words else
    if bytes_eq first (codes "serve") then serve_step words else
    Err UnknownStep

pub begins_with_s : (words : List (List ℕ)) → Begins words 115 → step_with_s words ≡ step_of words
unfolding step_with_s step_by s_by
begins_with_s words h =
    let (rest, is) = begins (word 0 words) 114 h in
    subst (λ first. s_by first words ≡ step_by first words) (sym is) refl ∙ sym (whole words)

t_by : List ℕ → List (List ℕ) → Result Step Cause
t_by first words =
    if bytes_eq first (codes "take") then take_step words else
    Err UnknownStep

pub begins_with_t : (words : List (List ℕ)) → Begins words 116 → step_with_t words ≡ step_of words
unfolding step_with_t step_by t_by
begins_with_t words h =
    let (rest, is) = begins (word 0 words) 115 h in
    subst (λ first. t_by first words ≡ step_by first words) (sym is) refl ∙ sym (whole words)

u_by : List ℕ → List (List ℕ) → Result Step Cause
u_by first words =
    if bytes_eq first (codes "unmap") then unmap_step words else
    if bytes_eq first (codes "unmapr") then unmapr_step words else
    if bytes_eq first (codes "unbind") then unbind_step words else
    if bytes_eq first (codes "use") then use_step words else
    Err UnknownStep

pub begins_with_u : (words : List (List ℕ)) → Begins words 117 → step_with_u words ≡ step_of words
unfolding step_with_u step_by u_by
begins_with_u words h =
    let (rest, is) = begins (word 0 words) 116 h in
    subst (λ first. u_by first words ≡ step_by first words) (sym is) refl ∙ sym (whole words)

-- a letter with which no step begins
pub record IsOther (letter : ℕ) : Type 0 where
  pub a : letter ≡ 97 → ⊥
  pub b : letter ≡ 98 → ⊥
  pub d : letter ≡ 100 → ⊥
  pub e : letter ≡ 101 → ⊥
  pub f : letter ≡ 102 → ⊥
  pub l : letter ≡ 108 → ⊥
  pub m : letter ≡ 109 → ⊥
  pub p : letter ≡ 112 → ⊥
  pub q : letter ≡ 113 → ⊥
  pub r : letter ≡ 114 → ⊥
  pub s : letter ≡ 115 → ⊥
  pub t : letter ≡ 116 → ⊥
  pub u : letter ≡ 117 → ⊥

passed : (one letter : ℕ) (rest name : List ℕ) (found other : Result Step Cause) → (one ≡ letter → ⊥)
    → (if bytes_eq (one ∷ rest) (letter ∷ name) then found else other) ≡ other
passed one letter rest name found other apart =
    let is : nat_eq one letter ≡ false = grind (arith, nat_tests) in
    ap (λ b. if b && bytes_eq rest name then found else other) is

none_by : (first : List ℕ) (words : List (List ℕ)) → IsOther (slice_index_or first 0 0)
    → step_by first words ≡ Err UnknownStep
unfolding step_by
none_by [] words h = refl
none_by (one ∷ rest) words h =
    passed one 115 rest _ _ _ h.s
    ∙ passed one 100 rest _ _ _ h.d
    ∙ passed one 109 rest _ _ _ h.m
    ∙ passed one 117 rest _ _ _ h.u
    ∙ passed one 117 rest _ _ _ h.u
    ∙ passed one 108 rest _ _ _ h.l
    ∙ passed one 98 rest _ _ _ h.b
    ∙ passed one 98 rest _ _ _ h.b
    ∙ passed one 117 rest _ _ _ h.u
    ∙ passed one 97 rest _ _ _ h.a
    ∙ passed one 112 rest _ _ _ h.p
    ∙ passed one 115 rest _ _ _ h.s
    ∙ passed one 114 rest _ _ _ h.r
    ∙ passed one 116 rest _ _ _ h.t
    ∙ passed one 97 rest _ _ _ h.a
    ∙ passed one 97 rest _ _ _ h.a
    ∙ passed one 117 rest _ _ _ h.u
    ∙ passed one 101 rest _ _ _ h.e
    ∙ passed one 101 rest _ _ _ h.e
    ∙ passed one 102 rest _ _ _ h.f
    ∙ passed one 102 rest _ _ _ h.f
    ∙ passed one 113 rest _ _ _ h.q
    ∙ passed one 100 rest _ _ _ h.d

pub begins_with_none : (words : List (List ℕ)) → IsOther (slice_index_or (word 0 words) 0 0)
    → Err UnknownStep ≡ step_of words
begins_with_none words h = sym (whole words ∙ none_by (word 0 words) words h)
