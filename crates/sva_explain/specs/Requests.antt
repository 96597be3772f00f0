-- What is said of a translation request that is out, and the verdict Invalid of a worker in brackets.
use Rattle.std.specs.Prelude.{ℕ, if◌then◌else◌, List, [], ◌++◌, codes}
use Rattle.sva_step.specs.declared.steps.Step.TheVariants as step
use Rattle.sva_step.specs.declared.steps.Verdict.TheVariants as verdict
use Rattle.sva_model.specs.Wire.{EndpointWire, RequestWire, Wire}
use Rattle.sva_lines.specs.Pieces.{field, line_end, word_if}
use Rattle.sva_explain.specs.declared.blockers.levels.Level.{Level}
use Rattle.sva_explain.specs.declared.blockers.link.Topic.TheVariants.{Tag}
use Rattle.sva_explain.specs.Accepted.{is_accepted}
use Rattle.sva_explain.specs.Lines.{below, start}
use Rattle.sva_explain.specs.Link.{about_lines}
use Rattle.sva_explain.specs.Units.{reset_if}

-- ` [answer 0 invalid]`
abbrev pub invalid_text : Wire → (worker : ℕ) → List ℕ
invalid_text wire worker =
    if is_accepted wire (step.Reply worker verdict.Invalid) then field (codes " [answer ") worker ++ codes " invalid]" else []

abbrev pub asked_text : (pasid page : ℕ) → List ℕ
asked_text pasid page = field (codes " is out: pasid ") pasid ++ field (codes " page ") page

-- `tag 0 is out: pasid 1 page 17`, and ` doomed`
abbrev pub out_line : Level → (tag : ℕ) → RequestWire → List ℕ
out_line level tag request =
    start level (codes "tag ") tag ++ asked_text request.pasid request.page ++ word_if request.is_doomed (codes " doomed") ++ line_end

-- a translation request that is out: it, or its completion, is in flight; or the unit is in reset, by which it was dropped
abbrev pub out_lines : Level → Wire → (endpoint : ℕ) → EndpointWire → (tag : ℕ) → RequestWire → List ℕ
out_lines level wire endpoint part tag request =
    out_line level tag request ++ about_lines (below level) wire endpoint (Tag tag) ++ reset_if (below level) wire endpoint part
