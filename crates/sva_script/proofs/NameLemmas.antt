-- Names as they are kept in a map, and as they are seen.
use Rattle.std.proofs.Common.{◌≡◌, ℕ, List, [], ◌∷◌, ◌++◌, Bool, true, false, cond, map, refl, ap, Some, None}
use Rattle.std.specs.Prelude.{Result, Ok, Err, is_err, OnOk}
use Rattle.std.specs.Map.{lookup}
use Rattle.indexmap.specs.IndexMap.{insert_entry}

-- what is found by a key's text is found among the texts
pub lookup_seen : {K V : Type 0} (text : K → List ℕ) (test : List ℕ → Bool) (entries : List (K × V))
    → lookup (λ key. test (text key)) entries ≡ lookup test (map {B = List ℕ × V} (λ entry. (text entry.0, entry.1)) entries)
lookup_seen text test [] = refl
lookup_seen text test (entry ∷ entries) = ap (λ found. cond (test (text entry.0)) (Some entry.1) found) (lookup_seen text test entries)

-- a key whose text no entry has goes last
inserted_by : {K V : Type 0} (text : K → List ℕ) (eq : K → K → Bool) (key : K) (value : V) (entry : K × V) (entries : List (K × V)) (met : Bool)
    → eq key entry.0 ≡ met
    → cond met (Some entry.1) (lookup (eq key) entries) ≡ None
    → (lookup (eq key) entries ≡ None
    → map {B = List ℕ × V} (λ e. (text e.0, e.1)) (insert_entry eq entries key value)
    ≡ map {B = List ℕ × V} (λ e. (text e.0, e.1)) entries ++ (text key, value) ∷ [])
    → map {B = List ℕ × V} (λ e. (text e.0, e.1)) (cond met ((entry.0, value) ∷ entries) (entry ∷ insert_entry eq entries key value))
    ≡ (text entry.0, entry.1) ∷ map {B = List ℕ × V} (λ e. (text e.0, e.1)) entries ++ (text key, value) ∷ []
inserted_by text eq key value entry entries true is none rest = absurd (cc none)
inserted_by text eq key value entry entries false is none rest = ap (λ l. (text entry.0, entry.1) ∷ l) (rest none)

pub inserted : {K V : Type 0} (text : K → List ℕ) (eq : K → K → Bool) (key : K) (value : V) (entries : List (K × V)) → lookup (eq key) entries ≡ None
    → map {B = List ℕ × V} (λ e. (text e.0, e.1)) (insert_entry eq entries key value)
    ≡ map {B = List ℕ × V} (λ e. (text e.0, e.1)) entries ++ (text key, value) ∷ []
inserted text eq key value [] none = refl
inserted text eq key value (entry ∷ entries) none =
    inserted_by text eq key value entry entries (eq key entry.0) refl none (inserted text eq key value entries)

-- what holds where a call went well, of one that did
pub on_ok : {A E P : Type 0} (result : Result A E) → is_err result ≡ false → OnOk result P → P
on_ok (Ok value) fine holds = holds
on_ok (Err error) fine holds = absurd (cc fine)
