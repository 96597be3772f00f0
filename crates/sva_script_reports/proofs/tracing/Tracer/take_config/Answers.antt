use Rattle.std.proofs.Common.{◌∙◌, List, Some, map, subst, ap, Ok, Err, ℕ}
use denote.Ref.{Bor}
use Rattle.sva_grammar.specs.Grammar.{config_read}
use Rattle.sva_script.proofs.WordLemmas.{on_ok_by}
use Rattle.sva_script_reading.specs.Reading.{ReadsConfig}
use Rattle.sva_script_reading.specs.Begins.{config_by, joined_words}
use Rattle.sva_script_reports.proofs.RowLemmas.{config_opened, config_refused}
use Rattle.sva_script_reports.proofs.tracing.Tracer.take_config.Goals as goal

pub returns-in-Ok : goal.returns-in-Ok
returns-in-Ok c =
    let words = map {A = Bor (List ℕ)} {B = List ℕ} (λ word. word.now) c.args.words.now in
    let read = config_by c.args.self.now.lines words (config_read (joined_words words)) in
    config_opened c.args.self.now _ read c.in-Some.config c.in-Ok.run' c.args.out.now.items c.config_of.new.faults.items c.self.view_is c.requires.open
    (subst (λ n. ReadsConfig (config_by n words (config_read (joined_words words))) (Some c.in-Some.config) c.args.out.now.items c.config_of.new.faults.items)
    (ap (λ t. t.lines) c.self.view_is)
    (subst (λ found. ReadsConfig (config_by c.self.inside.lines words (config_read (joined_words words))) found c.args.out.now.items
    c.config_of.new.faults.items) c.in-Some.is c.in_ok-config.ensures))
    c.in-Ok.ensures.ok.0 c.in-Ok.ensures.ok.1

pub returns-in-Err-BadConfig : goal.returns-in-Err-BadConfig
returns-in-Err-BadConfig c =
    let words = map {A = Bor (List ℕ)} {B = List ℕ} (λ word. word.now) c.args.words.now in
    let read = config_by c.args.self.now.lines words (config_read (joined_words words)) in
    on_ok_by c.put_bad_config.result
    (config_refused c.args.self.now _ read c.in-Some.config c.args.out.now.items c.config_of.new.faults.items c.put_bad_config.new.out.items c.self.view_is
    c.requires.none
    (subst (λ n. ReadsConfig (config_by n words (config_read (joined_words words))) (Some c.in-Some.config) c.args.out.now.items c.config_of.new.faults.items)
    (ap (λ t. t.lines) c.self.view_is)
    (subst (λ found. ReadsConfig (config_by c.self.inside.lines words (config_read (joined_words words))) found c.args.out.now.items
    c.config_of.new.faults.items) c.in-Some.is c.in_ok-config.ensures))
    (c.open.ensures.bad.0 (c.in-Err-BadConfig.is ∙ ap Err c.in-Err-BadConfig.field-0-is)))
    c.put_bad_config.ensures
