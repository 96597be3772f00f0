-- A translation request is on its way once, there or back, and is asked for under a PASID that isn't off.
use Rattle.std.proofs.Common.{◌≡◌, ◌≢◌, ℕ, ◌<◌, ◌≤◌, Bool, true, false, arith}
use Rattle.std.specs.Prelude.{Option, Some, None}
use Rattle.std.proofs.lemmas.Bool.Decides.{nat_tests}
use Rattle.sva_model.specs.State.{Mappings, Endpoint, Phase}
use Rattle.sva_model.specs.State.Stage.{Unbound}
use Rattle.sva_model.specs.State.Phase.{Cleared}
use Rattle.sva_model.specs.State.Subject.{RequestOf, CompletionOf}
use Rattle.sva_model.specs.States.{is_out, is_off}
use Rattle.sva_model.specs.Acts.{act_alone, LocalAct}
use Rattle.sva_laws.proofs.Legal.{LegalLocalAct}
use Rattle.sva_laws.proofs.Resets.{Resets}
use Rattle.sva_laws.proofs.Bounds.{Bounds}
use Rattle.sva_laws.proofs.Bindings.{Bindings}

abbrev pub is_cleared : Phase → Bool
is_cleared (Cleared c) = true
is_cleared _ = false

pub record Requests (p : Endpoint) : Type 0 where
  pub bound : (r : ℕ) → r < p.requests → p.stage (p.request_binding r) ≢ Unbound
  pub alive : (r : ℕ) → is_out (p.request r) ≡ true → is_off (p.pasid_state (p.request_binding r)) ≡ false
  pub ask_once : (c d r : ℕ) → p.message c ≡ Some (RequestOf r) → p.message d ≡ Some (RequestOf r) → c ≡ d
  pub answer_once : (c d r : ℕ) (f g : Option ℕ) → p.message c ≡ Some (CompletionOf r f) → p.message d ≡ Some (CompletionOf r g) → c ≡ d
  pub not_both : (c d r : ℕ) (f : Option ℕ) → p.message c ≡ Some (RequestOf r) → p.message d ≢ Some (CompletionOf r f)
  pub ask_out : (c r : ℕ) → p.message c ≡ Some (RequestOf r) → is_cleared p.phase ≡ false → is_out (p.request r) ≡ true
  pub answer_out : (c r : ℕ) (f : Option ℕ) → p.message c ≡ Some (CompletionOf r f) → is_cleared p.phase ≡ false → is_out (p.request r) ≡ true
  pub one_held : (r x m y : ℕ) → p.held r ≡ Some m → p.held x ≡ Some y → p.request_binding r ≡ p.request_binding x → p.request_page r
      ≡ p.request_page x → r ≡ x

one_held_kept : (ms : Mappings) (g n : ℕ) (p : Endpoint) (o : LocalAct) → LegalLocalAct ms g p o → (r x m y : ℕ) → (p.requests ≤ r → p.held r ≡ None)
    → (p.requests ≤ x → p.held x ≡ None)
    → ((k j : ℕ) → p.held r ≡ Some k → p.held x ≡ Some j → p.request_binding r ≡ p.request_binding x → p.request_page r ≡ p.request_page x → r ≡ x)
    → (act_alone p n o).held r ≡ Some m → (act_alone p n o).held x ≡ Some y → (act_alone p n o).request_binding r ≡ (act_alone p n o).request_binding x
    → (act_alone p n o).request_page r ≡ (act_alone p n o).request_page x → r ≡ x
one_held_kept ms g n p o l r x m y br bx old h i d f = grind (arith, nat_tests)

pub every : (ms : Mappings) (g n : ℕ) (p : Endpoint) (o : LocalAct) → LegalLocalAct ms g p o → Resets n p → Bounds g p → Bindings p → Requests p
    → Requests (act_alone p n o)
every ms g n p o l re bo bi ra =
    record {
      bound = λ r h. grind (arith, nat_tests, ra.bound r, bi.on_stage);
      alive = λ r h. grind (arith, nat_tests, ra.alive r);
      ask_once = λ c d r h i. grind (arith, nat_tests, ra.ask_once c d r, bo.asked c r, bo.asked d r, re.unsent c, re.unsent d);
      answer_once = λ c d r f k h i. grind (
        arith,
        nat_tests,
        ra.answer_once c d r f k,
        ra.not_both,
        bo.answered c r f,
        bo.answered d r k,
        re.unsent c,
        re.unsent d,
      );
      not_both = λ c d r f h i. grind (arith, nat_tests, ra.not_both c d r f, ra.ask_once c, bo.asked c r, bo.answered d r f, re.unsent c, re.unsent d);
      ask_out = λ c r h i. grind (arith, nat_tests, ra.ask_out c r, ra.not_both c, bo.asked c r, re.older, re.up, re.unsent c);
      one_held = λ r x m y h i d f. one_held_kept ms g n p o l r x m y (bo.held r) (bo.held x) (ra.one_held r x) h i d f;
      answer_out = λ c r f h i. grind (arith, nat_tests, ra.answer_out c r f, ra.answer_once c, ra.ask_out, bo.answered c r f, re.older, re.up, re.unsent c);
    }
