use Rattle.std.proofs.Common.{◌≡◌, ◌+◌, ◌∙◌, [], ◌∷◌, ap, sym, arith, suc, drop, take}
use Rattle.std.proofs.lemmas.List.{take_rest}
use Rattle.std.proofs.Math.Seq.{take-length}
use Rattle.sva_grammar.specs.Grammar.{lines_of}
use Rattle.sva_grammar.specs.Places.{line_len}
use Rattle.sva_grammar.proofs.LineLemmas.{lines_of-first, lines_of-last}
use Rattle.sva_grammar.proofs.words.Words.take_line.Goals as goal

pub returns-then-len-text-clause-lines : goal.returns-then-len-text-clause-lines
returns-then-len-text-clause-lines c =
    let text = c.args.text.now in
    let whole = sym c.take_first-len.ensures.len ∙ c.if-len-text.true in
    lines_of-last text c.requires whole
    ∙ ap (λ line. line ∷ []) (sym (c.take_first-len.ensures.line ∙ ap (λ n. take n text) whole ∙ take-length text))

pub returns-clause-lines : goal.returns-clause-lines
returns-clause-lines c =
    let text = c.args.text.now in
    let len = c.take_first-len.result in
    let line = c.take_first-len.new.self in
    let is : line_len text ≡ len = sym c.take_first-len.ensures.len in
    let next : suc len ≡ len + 1 = omega arith in
    lines_of-first text (omega (arith, is, c.if-len-text.false, c.take_first-len.ensures.within))
    ∙ ap (λ first. first ∷ lines_of (drop (suc (line_len text)) text)) (sym c.take_first-len.ensures.line)
    ∙ ap (λ n. line ∷ lines_of (drop (suc n) text)) is
    ∙ ap (λ n. line ∷ lines_of (drop n text)) next
    ∙ ap (λ rest. line ∷ lines_of rest) (sym (take_rest text (len + 1)))
