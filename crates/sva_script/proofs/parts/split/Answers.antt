use Rattle.std.proofs.Common.{◌∙◌, ◌++◌, [], ap, sym, append-nil, append_assoc}
use Rattle.sva_grammar.specs.Grammar.{words_of}
use Rattle.sva_script.specs.Lines.{said, said_alone}
use Rattle.sva_script.proofs.RestLemmas.{said as texts}
use Rattle.sva_script.proofs.WordLemmas.{on_ok_by, said_comment, said_last, said_more}
use Rattle.sva_script.proofs.parts.split.Goals as goal

pub returns-then-begins_comment : goal.returns-then-begins_comment
returns-then-begins_comment c =
    let none = said_comment (words_of c.loop-word.rest.now) _ c.in-Some.word.now c.in-Some.ensures.some (sym c.if-begins_comment.ensures) in
    sym (append-nil (texts c.loop-word.words.items)) ∙ ap (λ l. texts c.loop-word.words.items ++ l) (sym none) ∙ c.loop-word.invariant

pub loop-word-preserved : goal.loop-word-preserved
loop-word-preserved c =
    let more = said_more (words_of c.loop-word.rest.now) _ c.in-Some.word.now c.in-Some.ensures.some (sym c.if-begins_comment.ensures) in
    ap (λ l. l ++ said (words_of c.in-Some.more.now)) c.in_ok-put_said.ensures
    ∙ append_assoc (texts c.loop-word.words.items) (said_alone c.in-Some.word.now) (said (words_of c.in-Some.more.now))
    ∙ ap (λ l. texts c.loop-word.words.items ++ l) (sym more) ∙ c.loop-word.invariant

pub returns-then-begins_comment-2 : goal.returns-then-begins_comment-2
returns-then-begins_comment-2 c =
    let none = said_comment (words_of c.loop-word.rest.now) [] c.loop-word.rest.now c.in_default.ensures.none (sym c.if-begins_comment-2.ensures) in
    sym (append-nil (texts c.loop-word.words.items)) ∙ ap (λ l. texts c.loop-word.words.items ++ l) (sym none) ∙ c.loop-word.invariant

pub returns : goal.returns
returns c =
    let last = said_last (words_of c.loop-word.rest.now) c.loop-word.rest.now c.in_default.ensures.none (sym c.if-begins_comment-2.ensures) in
    on_ok_by c.put_said-2.result (λ put. put ∙ ap (λ l. texts c.loop-word.words.items ++ l) (sym last) ∙ c.loop-word.invariant) c.put_said-2.ensures
