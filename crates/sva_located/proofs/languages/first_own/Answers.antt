use Rattle.std.proofs.Common.{◌≡◌, ◌∙◌, ◌+◌, List, ℕ, ap, map, true, false, rules, is_some}
use denote.Ref.{Bor}
use Rattle.sva_script_reading.proofs.BeginLemmas.{no_lines}
use Rattle.sva_script_reading.specs.Begins.{lines_from}
use Rattle.sva_located.specs.Languages.{own_of}
use Rattle.sva_located.proofs.LineLemmas.{no_own, own_met, own_passed}
use Rattle.sva_located.proofs.languages.first_own.Goals as goal

-- words as they are lent
abbrev said : List (Bor (List ℕ)) → List (List ℕ)
said words = map {A = Bor (List ℕ)} {B = List ℕ} (λ word. word.now) words

pub returns-then-is_some : goal.returns-then-is_some
returns-then-is_some c =
    let it : is_some c.own_of-own.result ≡ true = search rules in
    own_met _ (lines_from (c.next.new.self.number + 1) c.next.new.self.rest.now) (c.in-Some._number, c.in-Some.line.now) (said c.as_slice.result.now)
    c.in-Some.ensures.line (ap said c.as_slice.ensures.value ∙ c.in_ok-split.ensures) c.own_of-own.result _
    (c.own_of-own.ensures ∙ ap own_of c.head_of.ensures) it c.loop-number.invariant

pub loop-number-preserved : goal.loop-number-preserved
loop-number-preserved c =
    let none : is_some c.own_of-own.result ≡ false = search rules in
    own_passed _ (lines_from (c.next.new.self.number + 1) c.next.new.self.rest.now) (c.in-Some._number, c.in-Some.line.now) (said c.as_slice.result.now)
    c.in-Some.ensures.line (ap said c.as_slice.ensures.value ∙ c.in_ok-split.ensures) c.own_of-own.result _
    (c.own_of-own.ensures ∙ ap own_of c.head_of.ensures) none c.loop-number.invariant

pub returns : goal.returns
returns c = no_own _ _ (no_lines (c.loop-number.lines.number + 1) c.loop-number.lines.rest.now c.in_default.ensures.none) c.loop-number.invariant
