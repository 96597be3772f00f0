-- What is said of PASIDs that are all borne.
use Rattle.std.specs.Prelude.{ℕ, List, ◌++◌, codes, flat_map}
use Rattle.sva_step.specs.declared.steps.Step.TheVariants as step
use Rattle.sva_model.specs.Wire.{BindingWire, Wire}
use Rattle.sva_lines.specs.Pieces.{field, line_end}
use Rattle.sva_lines.specs.Words.{stage_text}
use Rattle.sva_explain.specs.Accepted.{is_accepted}
use Rattle.sva_explain.specs.declared.blockers.levels.Level.{Level}
use Rattle.sva_explain.specs.declared.blockers.levels.Level.TheVariants.{First, Second}
use Rattle.sva_explain.specs.Lines.{bracket, indent, start}

-- ` [unbind 5]`
abbrev pub unbind_text : Wire → (binding : ℕ) → List ℕ
unbind_text wire binding = bracket (is_accepted wire (step.Unbind binding)) (codes " [unbind ") binding

-- ` [advance 5]`
abbrev pub advance_text : Wire → (binding : ℕ) → List ℕ
advance_text wire binding = bracket (is_accepted wire (step.Advance binding)) (codes " [advance ") binding

-- `space 3 bears pasid 4 by binding 5 at endpoint 0: live [unbind 5]`
abbrev pub bearer_line : Level → Wire → BindingWire → List ℕ
bearer_line level wire binding =
    start level (codes "space ") binding.space ++ field (codes " bears pasid ") binding.pasid ++ field (codes " by binding ") binding.binding
    ++ field (codes " at endpoint ") binding.endpoint ++ codes ":" ++ stage_text binding.stage ++ unbind_text wire binding.binding
    ++ advance_text wire binding.binding ++ line_end

abbrev pub all_borne_line : List ℕ
all_borne_line = indent First ++ codes "other spaces bear all 32 pasids" ++ line_end

-- NoPasid: each binding, which bears the PASID of its space
abbrev pub no_pasid : Wire → List ℕ
no_pasid wire = all_borne_line ++ flat_map (bearer_line Second wire) wire.bindings
