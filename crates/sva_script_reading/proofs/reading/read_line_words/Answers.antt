use Rattle.std.proofs.Common.{◌≡◌, ◌∙◌, ◌++◌, ◌∷◌, [], List, ap, append-nil, map, rules, sym, ℕ, true}
use denote.Ref.{Bor}
use Rattle.sva_script.specs.declared.faults.Wanted.TheVariants as wanted
use Rattle.sva_script_reading.specs.Faults.{Fault, fault_text}
use Rattle.sva_script_reading.specs.Begins.{at_word, fault_of, faults_at}
use Rattle.sva_script_reading.proofs.BeginLemmas.{past, some_words}
use Rattle.sva_script_reading.proofs.reading.read_line_words.Goals as goal

pub returns-then-has_ended : goal.returns-then-has_ended
returns-then-has_ended c =
    let words = map {A = Bor (List ℕ)} {B = List ℕ} (λ word. word.now) c.args.desk.now.words.items in
    let fault : Fault = fault_of c.args.names.now c.args.number words (at_word 0 wanted.NoLine) in
    let some : words ≡ [] → ⊥ = some_words c.args.desk.now.words.items (search rules) in
    let ended : c.args.has_ended ≡ true = search rules in
    let told : c.put_wrong.new.out.items ≡ c.args.faults.now.items ++ fault_text fault = search rules in (
      fault ∷ [],
      λ rest. ap (λ b. faults_at c.args.names.now b c.args.number rest words) ended ∙ past c.args.names.now c.args.number rest words some,
      told ∙ ap (λ l. c.args.faults.now.items ++ l) (sym (append-nil (fault_text fault))),
    )
