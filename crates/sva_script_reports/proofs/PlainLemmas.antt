-- The plain scenario of a script, line by line.
use Rattle.std.proofs.Common.{◌≡◌, ◌∙◌, ap, cond, refl, subst, sym, ℕ, Bool, true, false, List, [], ◌∷◌, ◌++◌}
use Rattle.std.specs.Prelude.{Ok}
use Rattle.sva_step.specs.declared.limits.Config.{Config}
use Rattle.sva_step.specs.declared.refusals.Refusal.TheVariants.{BadConfig}
use Rattle.sva_step.specs.Refusals.{refusal_text}
use Rattle.sva_model.specs.Claims.{Fits}
use Rattle.sva_streams.specs.declared.streams.Outcome.TheVariants.{Faulted}
use Rattle.sva_grammar.proofs.ConfigLemmas.{unfit_from}
use Rattle.sva_grammar.specs.Replies.{ended}
use Rattle.sva_script_reading.specs.Said.{IsSaid, Said, bad}
use Rattle.sva_script_reports.specs.Lines.{WordsPlain}
use Rattle.sva_script_reading.specs.Begins.{Line, said_by}
use Rattle.sva_script_reports.specs.Scripts.{At, if_small, plain_from}

-- a line that was taken
pub plain_next : (whole : Said) (before after : At) (line : Line) (out new : List ℕ) (all left : List Line) (went : Bool) → whole ≡ plain_from out before all
    → all ≡ line ∷ left → went ≡ true → WordsPlain before line out new after (Ok went) → whole ≡ plain_from new after left
unfolding plain_from
plain_next whole before after line out new all left true so_far is goes words =
    so_far ∙ ap (plain_from out before) is ∙ words.2 out (λ text next. plain_from text next left) ∙ ap (λ l. plain_from l after left) (sym words.1)
plain_next whole before after line out new all left false so_far is goes words = absurd (cc goes)

-- one that is wrong
pub plain_stopped : (whole : Said) (before after : At) (line : Line) (out new : List ℕ) (all left : List Line) (went : Bool) → whole ≡ plain_from out before all
    → all ≡ line ∷ left → went ≡ false → WordsPlain before line out new after (Ok went) → IsSaid whole new (Ok Faulted)
unfolding plain_from
plain_stopped whole before after line out new all left true so_far is stops words = absurd (cc stops)
plain_stopped whole before after line out new all left false so_far is stops words =
    subst (λ said. IsSaid said new (Ok Faulted))
    (sym (so_far ∙ ap (plain_from out before) is ∙ words.2 out (λ text next. plain_from text next left))) words.1

-- none is left
pub plain_end : (out : List ℕ) (at : At) (all : List Line) → all ≡ [] → plain_from out at all ≡ if_small out
unfolding plain_from
plain_end out at all is = ap (plain_from out at) is

-- ---- A config that is out of its limits

pub bad_config : (config : Config) (run : Config → Said) (out new : List ℕ) → (Fits config → ⊥) → out ≡ [] → new ≡ out ++ ended (refusal_text BadConfig)
    → IsSaid (said_by run (Ok config)) new (Ok Faulted)
bad_config config run out new unfit none is =
    subst (λ fit. IsSaid (cond fit (run config) (bad (ended (refusal_text BadConfig)))) new (Ok Faulted)) (sym (unfit_from config unfit))
    (refl, is ∙ ap (λ l. l ++ ended (refusal_text BadConfig)) none)
