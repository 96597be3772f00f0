-- What a thread's type says before it has run and behind that.
use Rattle.std.proofs.Common.{◌≡◌, ◌∙◌, ◌≤◌, ◌-◌, ◌+◌, ℕ, Bool, false, List, [], ◌∷◌, ◌++◌, length, Option, Some, None, ap, sym, subst, refl}
use Rattle.sva_step.specs.declared.limits.Config.{Config}
use Rattle.sva_step.specs.declared.steps.Step.{Step}
use Rattle.sva_fabric.specs.Receipts.{PortState, new_port}
use Rattle.sva_fabric.specs.Ends.{lacks}
use Rattle.sva_scenario.specs.Played.{LoopClause, IsThread, HasEnded}
use Rattle.sva_fabric.specs.declared.loops.endings.Spent.{Spent}

-- one that has run
pub has_run : (number turns given : ℕ) (Says : LoopClause) (spent : Spent) (before after : PortState)
    → given ≡ turns → before ≡ new_port number → spent.turns_left ≤ given
    → Says (given - spent.turns_left) spent.turns_left spent.out_of_memory before after
    → IsThread number turns Says (Some spent) after
has_run number turns given Says spent before after same new few says = (
  subst (λ (n : ℕ). spent.turns_left ≤ n) same few,
  subst (λ (n : ℕ). Says (n - spent.turns_left) spent.turns_left spent.out_of_memory (new_port number) after) same
      (subst (λ (p : PortState). Says (given - spent.turns_left) spent.turns_left spent.out_of_memory p after) new says),
)

-- before it has run nothing was asked
pub not_run : (number turns : ℕ) (Says : LoopClause) (spent : Option Spent) (port : PortState)
    → IsThread number turns Says spent port → spent ≡ None → port ≡ new_port number
not_run number turns Says None port is none = is
not_run number turns Says (Some spent) port is none = absurd (cc none)

-- one that has run, and wanted no memory
pub has_ended : (number turns : ℕ) (Says : LoopClause) (spent : Option Spent) (port : PortState)
    → IsThread number turns Says spent port → lacks spent ≡ false → HasEnded number turns Says port
has_ended number turns Says None port is lacking = absurd (cc lacking)
has_ended number turns Says (Some spent) port is lacking = (
  spent.turns_left,
  is.0,
  subst (λ (b : Bool). Says (turns - spent.turns_left) spent.turns_left b (new_port number) port) lacking is.1,
)
