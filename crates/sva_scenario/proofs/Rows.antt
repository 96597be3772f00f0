-- Rows of ports, lines and threads, as they are taken apart: from the last one on.
use Rattle.std.proofs.Common.{◌≡◌, ◌∙◌, ◌||◌, ℕ, zero, suc, ◌+◌, Bool, true, false, List, [], ◌∷◌, ◌++◌, length, ap, sym, subst, arith, refl, length-append}
use Rattle.std.proofs.lemmas.Grind.{reverse_onto}
use Rattle.std.specs.Prelude.{reverse}
use Rattle.sva_step.specs.declared.limits.Config.{Config}
use Rattle.sva_step.specs.declared.steps.Step.{Step}
use Rattle.sva_fabric.specs.Audits.{new_ports}
use Rattle.sva_fabric.specs.Receipts.{PortState, new_ports_from, new_port}
use Rattle.sva_scenario.specs.Lines.{lines_of_owner, lines_of_endpoints}
use Rattle.sva_fabric.specs.Ends.{lacks}
use Rattle.sva_scenario.specs.Played.{ThreadView, AreEach}
use Rattle.sva_scenario.specs.Lacks.{one_lacks}
use Rattle.sva_scenario.specs.declared.lines.Owner.TheVariants as owner

-- two lists with a last item
pub both_last : {X : Type 0} (xs ys : List X) (x y : X) → xs ++ x ∷ [] ≡ ys ++ y ∷ [] → (xs ≡ ys) × (x ≡ y)
both_last [] [] x y e = (refl, cc e)
both_last [] (z ∷ ys) x y e = absurd (omega (arith, ap length e, length-append ys (y ∷ [])))
both_last (w ∷ xs) [] x y e = absurd (omega (arith, ap length e, length-append xs (x ∷ [])))
both_last (w ∷ xs) (z ∷ ys) x y e =
    let head : w ≡ z = cc e in
    let rest = both_last xs ys x y (cc e) in
    (ap (λ l. w ∷ l) rest.0 ∙ ap (λ h. h ∷ ys) head, rest.1)

-- two rows behind each other
pub both_rows : {X : Type 0} (xs us ys vs : List X) → length xs ≡ length us → xs ++ ys ≡ us ++ vs → (xs ≡ us) × (ys ≡ vs)
both_rows [] [] ys vs same e = (refl, e)
both_rows [] (u ∷ us) ys vs same e = absurd (omega (arith, same))
both_rows (x ∷ xs) [] ys vs same e = absurd (omega (arith, same))
both_rows (x ∷ xs) (u ∷ us) ys vs same e =
    let head : x ≡ u = cc e in
    let rest = both_rows xs us ys vs (omega (arith, same)) (cc e) in
    (ap (λ l. x ∷ l) rest.0 ∙ ap (λ h. h ∷ us) head, rest.1)

-- new ports, from the last one on
pub last_port : (first count : ℕ) (all ports : List PortState) (port : PortState) → all ≡ ports ++ port ∷ [] → all ≡ new_ports_from first (count + 1)
    → (ports ≡ new_ports_from first count) × (port ≡ new_port (first + count))
unfolding new_ports_from
last_port first count all ports port is new =
    let next : count + 1 ≡ suc count = omega arith in
    both_last ports (new_ports_from first count) port (new_port (first + count)) (sym is ∙ new ∙ ap (new_ports_from first) next)

-- lines of endpoints, from the last one on
pub last_lines : (steps : List Step) (count : ℕ) (all lines : List (List Step)) (own : List Step) → all ≡ lines ++ own ∷ []
    → all ≡ lines_of_endpoints steps (count + 1)
    → (lines ≡ lines_of_endpoints steps count) × (own ≡ lines_of_owner (owner.Endpoint count) steps)
unfolding lines_of_endpoints
last_lines steps count all lines own is all_lines =
    let next : count + 1 ≡ suc count = omega arith in
    both_last lines (lines_of_endpoints steps count) own (lines_of_owner (owner.Endpoint count) steps)
    (sym is ∙ all_lines ∙ ap (lines_of_endpoints steps) next)

pub no_lines : (steps : List Step) → lines_of_endpoints steps 0 ≡ []
unfolding lines_of_endpoints
no_lines steps = refl

pub lines_more : (steps : List Step) (count : ℕ)
    → lines_of_endpoints steps (count + 1) ≡ lines_of_endpoints steps count ++ lines_of_owner (owner.Endpoint count) steps ∷ []
unfolding lines_of_endpoints
lines_more steps count =
    let next : count + 1 ≡ suc count = omega arith in
    ap (lines_of_endpoints steps) next

-- so many new ports in a row
pub new_ports_count : (first count : ℕ) → length (new_ports_from first count) ≡ count
unfolding new_ports_from
new_ports_count first zero = refl
new_ports_count first (suc count) = omega (arith, length-append (new_ports_from first count) (new_port (first + count) ∷ []), new_ports_count first count)

-- the ports of a new world, row by row
pub new_rows : (config : Config) (host link service : PortState) (endpoints workers : List PortState)
    → host ∷ link ∷ service ∷ (endpoints ++ workers) ≡ new_ports config → length endpoints ≡ config.endpoints
    → (host ≡ new_port 0) × (link ≡ new_port 1) × (service ≡ new_port 2) × (endpoints ≡ new_ports_from 3 config.endpoints)
    × (workers ≡ new_ports_from (3 + config.endpoints) config.workers)
new_rows config host link service endpoints workers is count =
    let rest : endpoints ++ workers ≡ new_ports_from 3 config.endpoints ++ new_ports_from (3 + config.endpoints) config.workers = cc is in
    let rows = both_rows endpoints (new_ports_from 3 config.endpoints) workers (new_ports_from (3 + config.endpoints) config.workers)
    (count ∙ sym (new_ports_count 3 config.endpoints)) rest in
    (cc is, cc is, cc is, rows.0, rows.1)

-- one port more
pub each_more : (Is : PortState → Type 0) (ports : List PortState) (port : PortState) → AreEach Is ports → Is port → AreEach Is (ports ++ port ∷ [])
each_more Is [] port each one = (one, tt)
each_more Is (p ∷ ports) port each one = (each.0, each_more Is ports port each.1 one)

-- the same ports, turned round
pub each_reversed : (Is : PortState → Type 0) (ports : List PortState) → AreEach Is ports → AreEach Is (reverse ports)
each_reversed Is [] each = tt
each_reversed Is (p ∷ ports) each =
    subst (λ (ports : List PortState). AreEach Is ports) (sym (reverse_onto ports p [])) (each_more Is (reverse ports) p (each_reversed Is ports each.1) each.0)

in_turn : (a b c : Bool) → (a || (b || c)) ≡ (b || (a || c))
in_turn true true c = refl
in_turn true false c = refl
in_turn false b c = refl

-- the last thread is told of first
lacks_last : (threads : List ThreadView) (thread : ThreadView) → one_lacks (threads ++ thread ∷ []) ≡ (lacks thread.spent || one_lacks threads)
lacks_last [] thread = refl
lacks_last (t ∷ threads) thread = ap (λ b. lacks t.spent || b) (lacks_last threads thread) ∙ in_turn (lacks t.spent) (lacks thread.spent) (one_lacks threads)

-- and so one more is told of
pub lacks_moved : (lacking one : Bool) (all threads : List ThreadView) (thread : ThreadView) (whole : Bool) → all ≡ threads ++ thread ∷ []
    → one ≡ lacks thread.spent → (lacking || one_lacks all) ≡ whole → ((lacking || one) || one_lacks threads) ≡ whole
lacks_moved true one all threads thread whole is told before = before
lacks_moved false one all threads thread whole is told before =
    ap (λ b. b || one_lacks threads) told ∙ sym (ap one_lacks is ∙ lacks_last threads thread) ∙ before
