-- How a script is played, a call more.
use Rattle.std.proofs.Common.{◌≡◌, ◌∙◌, ◌≤◌, ◌<◌, ◌-◌, ℕ, ◌+◌, suc, Bool, true, false, List, [], ◌∷◌, ◌++◌, length}
use Rattle.std.proofs.Common.{drop, slice_get, Some, None, Option, if◌then◌else◌, ap, sym, subst, arith, refl, inl, inr, ◌⊎◌, rules}
use Rattle.std.proofs.Common.{append_assoc, append-nil, length-append, drop-cons, get_or}
use Rattle.std.proofs.lemmas.List.{drop_all}
use Rattle.std.proofs.lemmas.Option.{slice_get_within, slice_get_read, get_or_from_slice_get}
use Rattle.std.specs.Borrow.{Bor}
use Rattle.std.specs.Slice.{IsItemAt}
use Rattle.sva_step.specs.declared.limits.Config.{Config}
use Rattle.sva_step.specs.declared.steps.Step.{Step}
use Rattle.sva_core.specs.declared.receipts.Receipt.{Receipt}
use Rattle.sva_fabric.specs.Receipts.{PortState}
use Rattle.sva_fabric.specs.Plays.{is_accepted, lines_behind, IsFirst, lines_after, lines_left, AreTries}
use Rattle.sva_fabric.specs.Ends.{HasStrayed}
use Rattle.sva_fabric.specs.LoopTokens.{LoopTokens}
use Rattle.sva_fabric.specs.Plays.{begins, ends, begun_by, ended_by, IsPassed, IsPlayed, HasPlayed, HasCalledOnce, IsTry, IsTurn, is_memory}
use Rattle.sva_fabric.specs.declared.loops.endings.Turn.{Turn}
use Rattle.sva_fabric.specs.declared.loops.endings.Turn.TheVariants.{Accepted, Again, Memory, Strayed}

pub tries_more : (lines : List Step) (calls : List Receipt) (r : Receipt) → AreTries lines calls → IsFirst (lines_left lines calls) r.step
    → AreTries lines (calls ++ r ∷ [])
tries_more lines [] r t first = (first, tt)
tries_more lines (c ∷ calls) r t first = (t.0, tries_more (lines_after lines c) calls r t.1 first)

pub left_more : (lines : List Step) (calls : List Receipt) (r : Receipt) → lines_left lines (calls ++ r ∷ []) ≡ lines_after (lines_left lines calls) r
left_more lines [] r = refl
left_more lines (c ∷ calls) r = left_more (lines_after lines c) calls r

pub begun_more : (calls : List Receipt) (r : Receipt) → begun_by (calls ++ r ∷ []) ≡ begun_by calls + (if is_accepted r.answer then begins r.step else 0)
begun_more [] r = omega arith
begun_more (c ∷ calls) r = let more = begun_more calls r in omega arith

pub ended_more : (calls : List Receipt) (r : Receipt) → ended_by (calls ++ r ∷ []) ≡ ended_by calls + (if is_accepted r.answer then ends r.step else 0)
ended_more [] r = omega arith
ended_more (c ∷ calls) r = let more = ended_more calls r in omega arith

-- the line that is lent is the one of its place
pub line_got : (script : List Step) (a : ℕ) (r : Option (Bor Step)) (line : Bor Step) → IsItemAt script a r → r ≡ Some line
    → slice_get script a ≡ Some line.now
line_got script a r line item some =
    let own = subst (λ o. IsItemAt script a o) some item in
    slice_get_read script (length script) a line.now refl own.3.0 own.1

-- the line that is tried, and those behind it
pub line_at : (script : List Step) (a : ℕ) (line : Step) → slice_get script a ≡ Some line → drop a script ≡ line ∷ drop (a + 1) script
line_at script a line at =
    let within : a < length script = slice_get_within script a line at in
    let is : get_or script a line ≡ line = get_or_from_slice_get script a line line at in
    let next : suc a ≡ a + 1 = omega arith in
    drop-cons script a line within ∙ ap (λ l. l ∷ drop (suc a) script) is ∙ ap (λ n. line ∷ drop n script) next

first_is : (lines rest : List Step) (line step : Step) → lines ≡ line ∷ rest → step ≡ line → IsFirst lines step
first_is lines rest line step e i = subst (λ l. IsFirst l step) (sym e) i

-- no line is left
pub lines_over : (script : List Step) (a : ℕ) (r : Option (Bor Step)) → IsItemAt script a r → ((line : Bor Step) → r ≡ Some line → ⊥)
    → length script ≤ a
lines_over script a None item none = item.3
lines_over script a (Some line) item none = absurd (none line refl)

-- a loop under way: so many lines were accepted in so many turns. Each turn made a call, or the line that is due is passed over
pub record IsPlaying (script : List Step) (accepted turn : ℕ) (before after : PortState) (h k : LoopTokens) : Type 0 where
  pub calls : List Receipt
  pub number : after.number ≡ before.number
  pub kept : after.receipts ≡ before.receipts ++ calls
  pub tries : AreTries script calls
  pub left : lines_left script calls ≡ drop accepted script
  pub few : length calls ≤ turn
  pub each : (length calls ≡ turn) ⊎ IsPassed k.passes (lines_left script calls)
  pub tickets : k.tickets + ended_by calls ≡ h.tickets + begun_by calls

-- nothing was played yet
pub playing_none : (script : List Step) (state : PortState) (h : LoopTokens) → IsPlaying script 0 0 state state h h
playing_none script state h = record {
  calls = [];
  number = refl;
  kept = sym (append-nil state.receipts);
  tries = tt;
  left = refl;
  few = omega arith;
  each = inl refl;
  tickets = refl;
}

-- a line that isn't passed over was called for in each turn so far
all_called : (passes : Step → Bool) (lines rest : List Step) (line : Step) (count turn : ℕ) → lines ≡ line ∷ rest → passes line ≡ false
    → (count ≡ turn) ⊎ IsPassed passes lines → count ≡ turn
all_called passes lines rest line count turn front asked (inl all) = all
all_called passes lines rest line count turn front asked (inr passed) =
    let is : passes line ≡ true = subst (λ (l : List Step). IsPassed passes l) front passed in
    absurd (cc (is, asked))

-- where no line is left, none is passed over
all_called_at_end : (passes : Step → Bool) (lines : List Step) (count turn : ℕ) → lines ≡ [] → (count ≡ turn) ⊎ IsPassed passes lines → count ≡ turn
all_called_at_end passes lines count turn none (inl all) = all
all_called_at_end passes lines count turn none (inr passed) = absurd (subst (λ (l : List Step). IsPassed passes l) none passed)

-- a turn that passes over its line
pub playing_still : (script : List Step) (a turn : ℕ) (before after next : PortState) (h k m : LoopTokens) (line : Step)
    → IsPlaying script a turn before after h k
    → slice_get script a ≡ Some line → k.passes line ≡ true
    → next ≡ after → m ≡ k
    → IsPlaying script a (turn + 1) before next h m
playing_still script a turn before after next h k m line p at passed e i =
    let front = p.left ∙ line_at script a line at in
    let tickets = p.tickets in
    let same : m.tickets ≡ k.tickets = ap (λ (x : LoopTokens). x.tickets) i in
    record {
      calls = p.calls;
      number = ap (λ (s : PortState). s.number) e ∙ p.number;
      kept = ap (λ (s : PortState). s.receipts) e ∙ p.kept;
      tries = p.tries;
      left = p.left;
      few = let few = p.few in omega arith;
      each = inr (subst (λ (l : List Step). IsPassed m.passes l) (sym front) (ap (λ (x : LoopTokens). x.passes line) i ∙ passed));
      tickets = omega arith;
    }

-- a turn with a call: the line was accepted, or is to be tried again
pub playing_called : (script : List Step) (a turn : ℕ) (before after next : PortState) (h k m : LoopTokens) (line : Step) (done : Bool)
    → IsPlaying script a turn before after h k
    → slice_get script a ≡ Some line → k.passes line ≡ false
    → HasCalledOnce line after next done k.tickets m.tickets
    → IsPlaying script (if done then a + 1 else a) (turn + 1) before next h m
playing_called script a turn before after next h k m line true p at asked c =
    let r = c.receipt in
    let front = line_at script a line at in
    let first : IsFirst (lines_left script p.calls) r.step =
    first_is (lines_left script p.calls) (drop (a + 1) script) line r.step (p.left ∙ front) c.of_line in
    let begun = begun_more p.calls r in
    let ended = ended_more p.calls r in
    let one : (if is_accepted r.answer then begins r.step else 0) ≡ begins line = ap (λ b. if b then begins r.step else 0) c.answered ∙ ap begins c.of_line in
    let two : (if is_accepted r.answer then ends r.step else 0) ≡ ends line = ap (λ b. if b then ends r.step else 0) c.answered ∙ ap ends c.of_line in
    let tickets = p.tickets in
    let more = c.tickets in
    let all : length p.calls ≡ turn =
    all_called k.passes (lines_left script p.calls) (drop (a + 1) script) line (length p.calls) turn (p.left ∙ front) asked p.each in
    record {
      calls = p.calls ++ r ∷ [];
      number = ap (λ (s : PortState). s.number) c.kept ∙ p.number;
      kept = ap (λ (s : PortState). s.receipts) c.kept ∙ ap (λ l. l ++ r ∷ []) p.kept ∙ append_assoc before.receipts p.calls (r ∷ []);
      tries = tries_more script p.calls r p.tries first;
      left = left_more script p.calls r ∙ ap (λ b. if b then lines_behind (lines_left script p.calls) else lines_left script p.calls) c.answered
          ∙ ap lines_behind (p.left ∙ front);
      few = omega (arith, length-append p.calls (r ∷ []));
      each = inl (omega (arith, length-append p.calls (r ∷ [])));
      tickets = omega arith;
    }
playing_called script a turn before after next h k m line false p at asked c =
    let r = c.receipt in
    let front = line_at script a line at in
    let first : IsFirst (lines_left script p.calls) r.step =
    first_is (lines_left script p.calls) (drop (a + 1) script) line r.step (p.left ∙ front) c.of_line in
    let begun = begun_more p.calls r in
    let ended = ended_more p.calls r in
    let one : (if is_accepted r.answer then begins r.step else 0) ≡ 0 = ap (λ b. if b then begins r.step else 0) c.answered in
    let two : (if is_accepted r.answer then ends r.step else 0) ≡ 0 = ap (λ b. if b then ends r.step else 0) c.answered in
    let tickets = p.tickets in
    let more = c.tickets in
    let all : length p.calls ≡ turn =
    all_called k.passes (lines_left script p.calls) (drop (a + 1) script) line (length p.calls) turn (p.left ∙ front) asked p.each in
    record {
      calls = p.calls ++ r ∷ [];
      number = ap (λ (s : PortState). s.number) c.kept ∙ p.number;
      kept = ap (λ (s : PortState). s.receipts) c.kept ∙ ap (λ l. l ++ r ∷ []) p.kept ∙ append_assoc before.receipts p.calls (r ∷ []);
      tries = tries_more script p.calls r p.tries first;
      left = left_more script p.calls r ∙ ap (λ b. if b then lines_behind (lines_left script p.calls) else lines_left script p.calls) c.answered ∙ p.left;
      few = omega (arith, length-append p.calls (r ∷ []));
      each = inl (omega (arith, length-append p.calls (r ∷ [])));
      tickets = omega arith;
    }

-- a turn after which the loop goes on to the next line
pub playing_accepted : (config : Config) (script : List Step) (a turn : ℕ) (before after next : PortState) (h k m : LoopTokens) (line : Step) (t : Turn)
    → IsPlaying script a turn before after h k → slice_get script a ≡ Some line → IsTurn config line after next k m t → t ≡ Accepted
    → IsPlaying script (a + 1) (turn + 1) before next h m
playing_accepted config script a turn before after next h k m line t p at (inl passed) is =
    let again : t ≡ Again = passed.1 in
    absurd (cc (again, is))
playing_accepted config script a turn before after next h k m line t p at (inr asked) is =
    playing_called script a turn before after next h k m line true p at asked.0
    (subst (λ (o : Turn). IsTry config line after next k.tickets m.tickets o) is asked.1)

-- a turn after which it stays at its line
pub playing_again : (config : Config) (script : List Step) (a turn : ℕ) (before after next : PortState) (h k m : LoopTokens) (line : Step) (t : Turn)
    → IsPlaying script a turn before after h k → slice_get script a ≡ Some line → IsTurn config line after next k m t → t ≡ Again
    → IsPlaying script a (turn + 1) before next h m
playing_again config script a turn before after next h k m line t p at (inl passed) is =
    playing_still script a turn before after next h k m line p at passed.0 passed.2 passed.3
playing_again config script a turn before after next h k m line t p at (inr asked) is =
    playing_called script a turn before after next h k m line false p at asked.0
    (subst (λ (o : Turn). IsTry config line after next k.tickets m.tickets o) is asked.1)

-- what a loop has played when no line is left
pub played_all : (config : Config) (script : List Step) (a turn used left : ℕ) (before after : PortState) (h k : LoopTokens)
    → IsPlaying script a turn before after h k → length script ≤ a → used ≡ turn → HasPlayed config script used left false before after h k
played_all config script a turn used left before after h k p over all =
    let none = p.left ∙ drop_all a script over in
    let count : length p.calls ≡ turn = all_called_at_end k.passes (lines_left script p.calls) (length p.calls) turn none p.each in
    record {
      calls = p.calls;
      number = p.number;
      kept = p.kept;
      tries = p.tries;
      few = omega arith;
      tickets = p.tickets;
      played = inl (omega arith, inl none);
    }

ended_by_turns : (config : Config) (passes : Step → Bool) (lines : List Step) (count turn used left : ℕ) (state : PortState)
    → (count ≡ turn) ⊎ IsPassed passes lines → used ≡ turn → left ≡ 0 → IsPlayed config passes lines count used left false state
ended_by_turns config passes lines count turn used left state (inl e) all none = inl (omega arith, inr none)
ended_by_turns config passes lines count turn used left state (inr passed) all none = inr (inl (none, passed))

-- and when no turn is left
pub played_out : (config : Config) (script : List Step) (a turn used left : ℕ) (before after : PortState) (h k : LoopTokens)
    → IsPlaying script a turn before after h k → used ≡ turn → left ≡ 0 → HasPlayed config script used left false before after h k
played_out config script a turn used left before after h k p all none = record {
  calls = p.calls;
  number = p.number;
  kept = p.kept;
  tries = p.tries;
  few = let few = p.few in omega arith;
  tickets = p.tickets;
  played = ended_by_turns config k.passes (lines_left script p.calls) (length p.calls) turn used left after p.each all none;
}

-- how it ends by a turn that asked its line and made no call
ended_by_turn : (config : Config) (passes : Step → Bool) (line : Step) (lines : List Step) (count used left t u : ℕ) (before after : PortState) (o : Turn)
    → IsTry config line before after t u o → (o ≡ Accepted → ⊥) → (o ≡ Again → ⊥) → used ≡ count + 1
    → (after ≡ before) × (u ≡ t) × IsPlayed config passes lines count used left (is_memory o) after
ended_by_turn config passes line lines count used left t u before after Accepted h a b one = absurd (a refl)
ended_by_turn config passes line lines count used left t u before after Again h a b one = absurd (b refl)
ended_by_turn config passes line lines count used left t u before after Memory h a b one = (h.0, h.1, inl one)
ended_by_turn config passes line lines count used left t u before after Strayed h a b one =
    (h.0, h.1, inr (inr (one, subst (λ (s : PortState). HasStrayed config s) (sym h.0) h.2)))

-- and when its last turn made no call
pub played_last : (config : Config) (script : List Step) (a turn used left : ℕ) (before after next : PortState) (h k m : LoopTokens) (line : Step) (o : Turn)
    → IsPlaying script a turn before after h k → slice_get script a ≡ Some line → IsTurn config line after next k m o
    → (o ≡ Accepted → ⊥) → (o ≡ Again → ⊥) → used ≡ turn + 1
    → HasPlayed config script used left (is_memory o) before next h m
played_last config script a turn used left before after next h k m line o p at (inl passed) x y one = absurd (y passed.1)
played_last config script a turn used left before after next h k m line o p at (inr asked) x y one =
    let front = p.left ∙ line_at script a line at in
    let count : length p.calls ≡ turn =
    all_called k.passes (lines_left script p.calls) (drop (a + 1) script) line (length p.calls) turn front asked.0 p.each in
    let last = ended_by_turn config m.passes line (lines_left script p.calls) (length p.calls) used left k.tickets m.tickets after next o asked.1 x y
    (omega arith) in
    let tickets = p.tickets in
    let same : m.tickets ≡ k.tickets = last.1 in
    record {
      calls = p.calls;
      number = ap (λ (s : PortState). s.number) last.0 ∙ p.number;
      kept = ap (λ (s : PortState). s.receipts) last.0 ∙ p.kept;
      tries = p.tries;
      few = omega arith;
      tickets = omega arith;
      played = last.2;
    }

-- a loop without a turn, which wanted memory
pub played_none : (config : Config) (script : List Step) (used left : ℕ) (state : PortState) (h : LoopTokens)
    → used ≡ 0 → HasPlayed config script used left true state state h h
played_none config script used left state h none = record {
  calls = [];
  number = refl;
  kept = sym (append-nil state.receipts);
  tries = tt;
  few = omega arith;
  tickets = refl;
  played = inr none;
}
