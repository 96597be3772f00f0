use Rattle.std.proofs.Common.{◌≡◌, [], List, ap, map, rules, ℕ}
use denote.Ref.{Bor}
use Rattle.sva_script_reading.proofs.BeginLemmas.{some_words}
use Rattle.sva_script_reports.proofs.EndLemmas.{told_behind_end}
use Rattle.sva_script_reports.proofs.testing.test_words.Goals as goal

pub returns-then-is_past : goal.returns-then-is_past
returns-then-is_past g c =
    let words = map {A = Bor (List ℕ)} {B = List ℕ} (λ word. word.now) c.args.desk.now.words.items in
    let given = map {A = Bor (List ℕ)} {B = List ℕ} (λ word. word.now) c.as_slice.result.now in
    let some : words ≡ [] → ⊥ = some_words c.args.desk.now.words.items (search rules) in
    told_behind_end g.E.Explains.explained c.args.run.now c.args.number words given c.names.result.now c.at_word-wrong.result c.args.is_config.now
    c.args.is_past.now
    c.args.is_past.now (record { is_config = c.args.is_config.now; running = c.args.run.now }) c.args.out.now.items c.put_wrong.new.out.items
    c.if-is_config.false c.if-is_past.true some (ap (λ ws. map {A = Bor (List ℕ)} {B = List ℕ} (λ word. word.now) ws) c.as_slice.ensures.value)
    c.names.ensures c.at_word-wrong.ensures c.in_ok-put_wrong.ensures
