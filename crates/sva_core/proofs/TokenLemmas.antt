-- What a call has in hand of tokens follows its answer, as the numbers of the journal's world do.
use Rattle.std.proofs.Common.{◌≡◌, ℕ, ◌+◌, ◌<◌, ◌≤◌, List, [], ◌∷◌, ◌++◌, length, refl, sym, ap, subst, ◌∙◌, arith}
use Rattle.std.specs.Prelude.{Ok, Err, true}
use Rattle.sva_step.specs.declared.answers.Answer.{Answer}
use Rattle.sva_step.specs.declared.answers.Answer.TheVariants as answer
use Rattle.sva_step.specs.declared.limits.Config.{Config}
use Rattle.sva_step.specs.declared.steps.Step.{Step}
use Rattle.sva_step.specs.declared.steps.Step.TheVariants as step
use Rattle.sva_step.specs.Steps.{is_plain}
use Rattle.sva_model.specs.Steps.{Reply}
use Rattle.sva_core.specs.declared.journal.Entry.{Entry}
use Rattle.sva_refinement.specs.Tallies.{binds, releases, begins, ends}
use Rattle.sva_core.specs.Journal.{History, CountsFollow, with_entry, empty_of, bindings_of, uses_of}
use Rattle.sva_core.specs.Suiting.{IsBinding, IsUnbound, IsAdvanced, IsUse, IsOver, IsStill, SuitsStep, Suits}
use Rattle.sva_core.proofs.JournalEntries.{none_bound, none_used}
use Rattle.sva_core.specs.Books.{Totals, totals_of, no_totals, no_token, TokenCounts, MayReach, IsHandedIn, IsHandedOut}

pub length_more : {A : Type 0} (xs : List A) (x : A) → length (xs ++ x ∷ []) ≡ length xs + 1
length_more [] x = refl
length_more (a ∷ xs) x = omega (arith, length_more xs x)

-- of one kind of token one at most is made, which isn't in hand yet, or spent, which is
record IsOne (less more held : ℕ) : Type 0 where
  few_less : less ≤ 1
  few_more : more ≤ 1
  made : 0 < more → held ≡ 0
  spent : 0 < less → held ≡ 1

none : (held : ℕ) → IsOne 0 0 held
none held = record { few_less = omega arith; few_more = omega arith; made = λ k. absurd (omega (arith, k)); spent = λ k. absurd (omega (arith, k)) }

one_more : (held : ℕ) → held ≡ 0 → IsOne 0 1 held
one_more held h = record { few_less = omega arith; few_more = omega arith; made = λ k. h; spent = λ k. absurd (omega (arith, k)) }

one_less : (held : ℕ) → held ≡ 1 → IsOne 1 0 held
one_less held h = record { few_less = omega arith; few_more = omega arith; made = λ k. absurd (omega (arith, k)); spent = λ k. h }

record AreSuited (r : Reply) (h : TokenCounts) : Type 0 where
  bindings : IsOne (releases r) (binds r) h.bindings
  uses : IsOne (ends r) (begins r) h.uses

suit : (r : Reply) (h : TokenCounts) → IsOne (releases r) (binds r) h.bindings → IsOne (ends r) (begins r) h.uses → AreSuited r h
suit r h b u = record { bindings = b; uses = u }

still_suited : (a : Answer) (h : TokenCounts) → IsStill a → AreSuited (Ok a) h
still_suited (answer.Binding b p) h k = absurd k
still_suited answer.Released h k = absurd k
still_suited (answer.Use s f) h k = absurd k
still_suited answer.Ended h k = absurd k
still_suited answer.Dead h k = absurd k
still_suited a h k = suit (Ok a) h (none h.bindings) (none h.uses)

bind_suited : (a : Answer) (h : TokenCounts) → IsBinding a → h.bindings ≡ 0 → AreSuited (Ok a) h
bind_suited (answer.Binding b p) h k i = suit (Ok (answer.Binding b p)) h (one_more h.bindings i) (none h.uses)
bind_suited _ h k i = absurd k

unbind_suited : (a : Answer) (h : TokenCounts) → IsUnbound a → AreSuited (Ok a) h
unbind_suited answer.Stopping h k = suit (Ok answer.Stopping) h (none h.bindings) (none h.uses)
unbind_suited answer.Quiet h k = suit (Ok answer.Quiet) h (none h.bindings) (none h.uses)
unbind_suited _ h k = absurd k

advance_suited : (a : Answer) (h : TokenCounts) → IsAdvanced a → h.bindings ≡ 1 → AreSuited (Ok a) h
advance_suited answer.Released h k i = suit (Ok answer.Released) h (one_less h.bindings i) (none h.uses)
advance_suited answer.Draining h k i = suit (Ok answer.Draining) h (none h.bindings) (none h.uses)
advance_suited answer.Invalidating h k i = suit (Ok answer.Invalidating) h (none h.bindings) (none h.uses)
advance_suited answer.Quiet h k i = suit (Ok answer.Quiet) h (none h.bindings) (none h.uses)
advance_suited _ h k i = absurd k

begin_suited : (a : Answer) (h : TokenCounts) → IsUse a → h.uses ≡ 0 → AreSuited (Ok a) h
begin_suited (answer.Use s f) h k i = suit (Ok (answer.Use s f)) h (none h.bindings) (one_more h.uses i)
begin_suited _ h k i = absurd k

end_suited : (a : Answer) (h : TokenCounts) → IsOver a → h.uses ≡ 1 → AreSuited (Ok a) h
end_suited answer.Ended h k i = suit (Ok answer.Ended) h (none h.bindings) (one_less h.uses i)
end_suited answer.Dead h k i = suit (Ok answer.Dead) h (none h.bindings) (one_less h.uses i)
end_suited _ h k i = absurd k

step_suited : (s : Step) (a : Answer) (h : TokenCounts) → SuitsStep s a → IsHandedIn s h → AreSuited (Ok a) h
step_suited (step.Bind e n) a h k i = bind_suited a h k i
step_suited (step.Unbind n) a h k i = unbind_suited a h k
step_suited (step.Advance n) a h k i = advance_suited a h k i
step_suited (step.BeginUse e t q x) a h k i = begin_suited a h k i
step_suited (step.EndUse e u) a h k i = end_suited a h k i
step_suited _ a h k i = still_suited a h k

-- a plain step needs no token in hand
pub plain_handed : (s : Step) → is_plain s ≡ true → IsHandedIn s no_token
plain_handed (step.Bind e n) h = refl
plain_handed (step.Advance b) h = absurd (cc)
plain_handed (step.BeginUse e t q x) h = refl
plain_handed (step.EndUse e u) h = absurd (cc)
plain_handed _ h = tt

reply_suited : (s : Step) (r : Reply) (h : TokenCounts) → Suits s r → IsHandedIn s h → AreSuited r h
reply_suited s (Ok a) h k i = step_suited s a h k i
reply_suited s (Err e) h k i = suit (Err e) h (none h.bindings) (none h.uses)

reach : (before after less more held : ℕ) → after + less ≡ before + more → IsOne less more held → MayReach before after held
reach before after less more held e o = record {
  up = omega (arith, e, o.few_more);
  down = omega (arith, e, o.few_less);
  made = λ k. o.made (omega (arith, e, k));
  spent = λ k. o.spent (omega (arith, e, k));
}

-- the books may follow the journal, where they counted as much as its world had before
pub may_bind : (t : Totals) (h k : History) (s : Step) (r : Reply) (x : TokenCounts) → t ≡ totals_of h → CountsFollow h k r → Suits s r → IsHandedIn s x
    → MayReach t.bindings (bindings_of k) x.bindings
may_bind t h k s r x at f suits i =
    subst (λ (u : Totals). MayReach u.bindings (bindings_of k) x.bindings) (sym at)
    (reach (bindings_of h) (bindings_of k) (releases r) (binds r) x.bindings f.bindings (reply_suited s r x suits i).bindings)

pub may_use : (t : Totals) (h k : History) (s : Step) (r : Reply) (x : TokenCounts) → t ≡ totals_of h → CountsFollow h k r → Suits s r → IsHandedIn s x
    → MayReach t.uses (uses_of k) x.uses
may_use t h k s r x at f suits i =
    subst (λ (u : Totals). MayReach u.uses (uses_of k) x.uses) (sym at)
    (reach (uses_of h) (uses_of k) (ends r) (begins r) x.uses f.uses (reply_suited s r x suits i).uses)

-- they then count what the longer journal has
pub noted : (t u : Totals) (h k : History) (e : Entry) → t ≡ totals_of h → k ≡ with_entry h e
    → u ≡ record { calls = t.calls + 1; bindings = bindings_of k; uses = uses_of k } → u ≡ totals_of k
noted t u h k e at is all =
    let calls : t.calls + 1 ≡ length k.entries =
    omega (arith, ap (λ (a : Totals). a.calls) at, ap (λ (j : History). length j.entries) is, length_more h.entries e) in
    all ∙ ap (λ (n : ℕ). record { calls = n; bindings = bindings_of k; uses = uses_of k }) calls

-- and what is in hand changes as the answer says
pub handed_out : (t : Totals) (h k : History) (r : Reply) (x y : TokenCounts) → t ≡ totals_of h → CountsFollow h k r
    → y.bindings + t.bindings ≡ x.bindings + bindings_of k → y.uses + t.uses ≡ x.uses + uses_of k → IsHandedOut x y r
handed_out t h k r x y at f b u = record {
  bindings = omega (arith, ap (λ (a : Totals). a.bindings) at, f.bindings, b);
  uses = omega (arith, ap (λ (a : Totals). a.uses) at, f.uses, u);
}

-- nothing is counted of a new journal
pub empty_totals : (config : Config) → totals_of (empty_of config) ≡ no_totals
empty_totals config =
    let b = none_bound config in
    let u = none_used config in
    λ i. record { calls = 0; bindings = b i; uses = u i }
