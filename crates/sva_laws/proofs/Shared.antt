-- Under the rule of one PASID for each space: two unreleased bindings, of whatever endpoints, have the same PASID exactly
-- where they have the same space.
use Rattle.std.proofs.Common.{◌≡◌, ◌⊎◌, inl, inr, refl, sym, ◌∙◌, ℕ, Bool, true, false, arith}
use Rattle.std.specs.Prelude.{Option, Some, None}
use Rattle.std.proofs.lemmas.Bool.Decides.{nat_tests}
use Rattle.sva_model.specs.State.{Mappings, Endpoint}
use Rattle.sva_model.specs.States.{is_unreleased}
use Rattle.sva_model.specs.Unmappings.{submitted_if}
use Rattle.sva_model.specs.Acts.{LocalAct, act_alone}
use Rattle.sva_laws.proofs.Legal.{LegalLocalAct}

pub record Shared (part : ℕ → Endpoint) : Type 0 where
  pub same_space :
      (e d b c : ℕ)
      → is_unreleased ((part e).stage b) ≡ true
      → is_unreleased ((part d).stage c) ≡ true
      → (part e).pasid b ≡ (part d).pasid c
      → (part e).space b ≡ (part d).space c
  pub same_pasid :
      (e d b c : ℕ)
      → is_unreleased ((part e).stage b) ≡ true
      → is_unreleased ((part d).stage c) ≡ true
      → (part e).space b ≡ (part d).space c
      → (part e).pasid b ≡ (part d).pasid c

-- a PASID that a new binding of the space may be given: it is borne by bindings of that space alone, and by each of them
pub record IsOf (part : ℕ → Endpoint) (s t : ℕ) : Type 0 where
  pub its_space : (e b : ℕ) → is_unreleased ((part e).stage b) ≡ true → (part e).pasid b ≡ t → (part e).space b ≡ s
  pub its_pasid : (e b : ℕ) → is_unreleased ((part e).stage b) ≡ true → (part e).space b ≡ s → (part e).pasid b ≡ t

-- what an act binds, if it does
abbrev pub binds : LocalAct → Bool
binds (LocalAct.Bind b s t) = true
binds _ = false

abbrev pub bound_space : LocalAct → ℕ
bound_space (LocalAct.Bind b s t) = s
bound_space _ = 0

abbrev pub bound_pasid : LocalAct → ℕ
bound_pasid (LocalAct.Bind b s t) = t
bound_pasid _ = 0

-- an unreleased binding was so before, with its PASID and space; or it is the one that is bound now
abbrev pub WasSo : (p q : Endpoint) → ℕ → Type 0
WasSo p q b = (is_unreleased (p.stage b) ≡ true) × (q.pasid b ≡ p.pasid b) × (q.space b ≡ p.space b)

abbrev pub IsNew : LocalAct → Endpoint → ℕ → Type 0
IsNew o q b = (binds o ≡ true) × (q.pasid b ≡ bound_pasid o) × (q.space b ≡ bound_space o)

pub own_from : (ms : Mappings) (g n : ℕ) (p : Endpoint) (o : LocalAct) → LegalLocalAct ms g p o → (b : ℕ) → is_unreleased ((act_alone p n o).stage b) ≡ true
    → WasSo p (act_alone p n o) b ⊎ IsNew o (act_alone p n o) b
own_from ms g n p o l b h = grind (arith, nat_tests)

pub submitted_from : (t : Bool) (p : Endpoint) (o : Option ℕ) (q count order cookie b : ℕ)
    → is_unreleased ((submitted_if t p o q count order cookie).stage b) ≡ true → WasSo p (submitted_if t p o q count order cookie) b
submitted_from true p (Some d) q count order cookie b h = (h, refl, refl)
submitted_from true p None q count order cookie b h = (h, refl, refl)
submitted_from false p o q count order cookie b h = (h, refl, refl)

-- where none is bound
pub shared_still : (part next : ℕ → Endpoint) → ((e b : ℕ) → is_unreleased ((next e).stage b) ≡ true → WasSo (part e) (next e) b) → Shared part → Shared next
shared_still part next from sh =
    record {
      same_space = λ e d b c u v h. let x = from e b u in let y = from d c v in x.2 ∙ sh.same_space e d b c x.0 y.0 (sym x.1 ∙ h ∙ y.1) ∙ sym y.2;
      same_pasid = λ e d b c u v h. let x = from e b u in let y = from d c v in x.1 ∙ sh.same_pasid e d b c x.0 y.0 (sym x.2 ∙ h ∙ y.2) ∙ sym y.1;
    }

-- where one may be
pub shared_more : (part next : ℕ → Endpoint) (o : LocalAct) → (binds o ≡ true → IsOf part (bound_space o) (bound_pasid o))
    → ((e b : ℕ) → is_unreleased ((next e).stage b) ≡ true → WasSo (part e) (next e) b ⊎ IsNew o (next e) b) → Shared part → Shared next
shared_more part next o its from sh =
    record {
      same_space = λ e d b c u v h. space e d b c (from e b u) (from d c v) h;
      same_pasid = λ e d b c u v h. pasid e d b c (from e b u) (from d c v) h;
    }
  where
    space : (e d b c : ℕ) → WasSo (part e) (next e) b ⊎ IsNew o (next e) b → WasSo (part d) (next d) c ⊎ IsNew o (next d) c → (next e).pasid b
        ≡ (next d).pasid c → (next e).space b ≡ (next d).space c
    space e d b c (inl x) (inl y) h = x.2 ∙ sh.same_space e d b c x.0 y.0 (sym x.1 ∙ h ∙ y.1) ∙ sym y.2
    space e d b c (inl x) (inr y) h = x.2 ∙ (its y.0).its_space e b x.0 (sym x.1 ∙ h ∙ y.1) ∙ sym y.2
    space e d b c (inr x) (inl y) h = x.2 ∙ sym ((its x.0).its_space d c y.0 (sym y.1 ∙ sym h ∙ x.1)) ∙ sym y.2
    space e d b c (inr x) (inr y) h = x.2 ∙ sym y.2

    pasid : (e d b c : ℕ) → WasSo (part e) (next e) b ⊎ IsNew o (next e) b → WasSo (part d) (next d) c ⊎ IsNew o (next d) c → (next e).space b
        ≡ (next d).space c → (next e).pasid b ≡ (next d).pasid c
    pasid e d b c (inl x) (inl y) h = x.1 ∙ sh.same_pasid e d b c x.0 y.0 (sym x.2 ∙ h ∙ y.2) ∙ sym y.1
    pasid e d b c (inl x) (inr y) h = x.1 ∙ (its y.0).its_pasid e b x.0 (sym x.2 ∙ h ∙ y.2) ∙ sym y.1
    pasid e d b c (inr x) (inl y) h = x.1 ∙ sym ((its x.0).its_pasid d c y.0 (sym y.2 ∙ sym h ∙ x.2)) ∙ sym y.1
    pasid e d b c (inr x) (inr y) h = x.1 ∙ sym y.1
