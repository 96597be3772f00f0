-- A binding of a host, found by its number.
use Rattle.std.proofs.Common.{◌≡◌, refl, ap, sym, ◌∙◌, subst, ℕ, suc, ◌<◌, Bool, true, false, arith}
use Rattle.std.specs.Prelude.{cond, ◌==◌, Option, Some, None, option_map, option_and_then, IsSome, IsSomeAnd, List, [], ◌∷◌, length, find, slice_get}
use Rattle.std.proofs.lemmas.Bool.Decides.{nat_tests}
use Rattle.sva_model.specs.Wire.{Wire, BindingWire, StageWire}
use Rattle.sva_model.specs.Wire.StageWire.{LiveWire, StoppingWire, DrainingWire, InvalidatingWire, QuietWire, LostWire}
use Rattle.sva_labels.specs.Finding.{binding_of}
use Rattle.sva_labels.specs.Sound.{IsSound}
use Rattle.sva_pasid.specs.Moves.{Kind, kind_of_stage}
use Rattle.sva_pasid.specs.Places as places
use Rattle.sva_pasid.specs.Places.{place_of, stage_of}
use Rattle.sva_pasid.specs.declared.places.TableEntry.{TableEntry}
use Rattle.sva_pasid.specs.declared.stages.Stage.{Stage}
use Rattle.sva_pasid.specs.declared.stages.Stage.TheVariants.{Live, Stopping, Draining, Invalidating, Quiet, Lost}
use Rattle.sva_pasid.proofs.ShareLemmas.{found_has}
use Rattle.sva_parts_by_labels.specs.Bindings.{stage_seen, stage_or_quiet, binding_seen}
use Rattle.sva_parts_by_labels.proofs.Bindings.{bindings_are_seen}
use Rattle.sva_host_state.specs.declared.host_state.HostState.TheInside.{Inside as HostState}
use Rattle.sva_host_state.specs.Inner.{wire_of, IsHostState}
use Rattle.sva_host_state.specs.Stages.{IsIn, IsSeenIn}
use Rattle.sva_host_state.proofs.TakenOut.{parts_seen}

-- What is found in a list.

pub record IsFound {A : Type 0} (test : A → Bool) (xs : List A) (x : A) : Type 0 where
  pub place : ℕ
  pub stands : slice_get xs place ≡ Some x
  pub passes : test x ≡ true

pub is_found : {A : Type 0} (test : A → Bool) (xs : List A) (x : A) → find test xs ≡ Some x → IsFound test xs x
is_found test [] x is = absurd (cc (is))
is_found {A = A} test (y ∷ xs) x is = go (test y) refl is (is_found test xs x)
  where
    go : (b : Bool) → test y ≡ b → cond b (Some y) (find test xs) ≡ Some x → (find test xs ≡ Some x → IsFound test xs x) → IsFound test (y ∷ xs) x
    go true passes same rest = record { place = 0; stands = same; passes = let here : y ≡ x = cc in ap test (sym here) ∙ passes }
    go false passes is rest = let r = rest is in record { place = suc r.place; stands = r.stands; passes = r.passes }

-- A binding.

same_number : (m n : ℕ) → (m == n) ≡ true → m ≡ n
same_number m n is = grind (arith, nat_tests)

pub number_is : (w : Wire) (n : ℕ) (b : BindingWire) → binding_of w n ≡ Some b → b.binding ≡ n
number_is w n b found = same_number b.binding n (is_found (λ (x : BindingWire). x.binding == n) w.bindings b found).passes

-- its endpoint is there
pub home_there : (w : Wire) (n : ℕ) (b : BindingWire) → IsSound w → binding_of w n ≡ Some b → b.endpoint < length w.parts
home_there w n b sound found =
    let at = is_found (λ (x : BindingWire). x.binding == n) w.bindings b found in
    sound.endpoint_low at.place b at.stands

pub home_within : (host : HostState) (v : Wire) (n : ℕ) (b : BindingWire) → wire_of host ≡ v → IsSound v → binding_of v n ≡ Some b → b.endpoint
    < length host.ports.items
home_within host v n b view sound found =
    let there = home_there v n b sound found in
    let long = parts_seen host v view in
    omega (arith, there, long)

-- by its place in the table
pub binding_at : (host : HostState) (v : Wire) (n : ℕ) (o : Option TableEntry) → wire_of host ≡ v → o ≡ place_of n host.bindings → binding_of v n
    ≡ option_map binding_seen o
binding_at host v n o view found =
    ap (λ (w : Wire). binding_of w n) (sym view) ∙ sym (((bindings_are_seen host.bindings).0 (wire_of host) refl).by_number n)
    ∙ ap (option_map binding_seen) (sym found)

-- its stage stands in its place
pub stage_there : (host : HostState) (v : Wire) (n : ℕ) (b : BindingWire) → IsHostState host → wire_of host ≡ v → binding_of v n ≡ Some b
    → IsSeenIn b.stage n host.bindings
stage_there host v n b h view found = go (place_of n host.bindings) refl
  where
    by_stage : (p : TableEntry) (stage : Option Stage) → p.stage ≡ stage → IsSome stage → binding_seen p ≡ b
        → IsSomeAnd stage (λ (s : Stage). stage_seen s ≡ b.stage)
    by_stage p None at is same = absurd (cc (is))
    by_stage p (Some s) at is same = ap stage_or_quiet (sym at) ∙ ap (λ (x : BindingWire). x.stage) same

    go : (o : Option TableEntry) → place_of n host.bindings ≡ o → IsSeenIn b.stage n host.bindings
    go None is = absurd (none (sym (binding_at host v n None view (sym is)) ∙ found))
      where
        none : ◌≡◌ {A = Option BindingWire} None (Some b) → ⊥
        none wrong = cc
    go (Some p) is =
        let both : ◌≡◌ {A = Option BindingWire} (Some (binding_seen p)) (Some b) = sym (binding_at host v n (Some p) view (sym is)) ∙ found in
        let same : binding_seen p ≡ b = cc in
        subst (λ (o : Option TableEntry). IsSomeAnd (option_and_then (λ (q : TableEntry). q.stage) o) (λ (s : Stage). stage_seen s ≡ b.stage)) (sym is)
        (by_stage p p.stage refl (found_has (λ (q : TableEntry). IsSome q.stage) (places.is_of n) host.bindings p h.staged is) same)

-- the kind of a stage, as it is seen
abbrev pub kind_seen : StageWire → Kind
kind_seen LiveWire = Kind.live
kind_seen (StoppingWire marked) = Kind.stopping
kind_seen (DrainingWire cookie) = Kind.draining
kind_seen (InvalidatingWire cookie) = Kind.invalidating
kind_seen QuietWire = Kind.quiet
kind_seen LostWire = Kind.lost

kind_same : (stage : Stage) → kind_of_stage stage ≡ kind_seen (stage_seen stage)
kind_same (Live n) = refl
kind_same (Stopping s) = refl
kind_same (Draining w) = refl
kind_same (Invalidating w) = refl
kind_same (Quiet n) = refl
kind_same (Lost n) = refl

pub kind_in : (seen : StageWire) (n : ℕ) (bindings : List TableEntry) → IsSeenIn seen n bindings → IsIn (kind_seen seen) n bindings
kind_in seen n bindings is = go (stage_of n bindings) is
  where
    go : (o : Option Stage) → IsSomeAnd o (λ (s : Stage). stage_seen s ≡ seen) → IsSomeAnd o (λ (s : Stage). kind_of_stage s ≡ kind_seen seen)
    go None is = absurd is
    go (Some s) is = kind_same s ∙ ap kind_seen is
