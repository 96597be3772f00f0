-- The cookies of waits: the numbers by which their submitter knows them again.
use Rattle.std.specs.Prelude.{ℕ, ◌+◌, ◌^◌, ◌<◌, ◌≤◌, List, [], ◌∷◌}
use Rattle.sva_queue.specs.declared.descriptors.Descriptor.{Descriptor}
use Rattle.sva_queue.specs.declared.descriptors.Descriptor.TheVariants.{Wait}

-- the cookies of the waits in a list of descriptors, in its order
abbrev pub cookies_of : List Descriptor → List ℕ
cookies_of [] = []
cookies_of (Wait cookie drain ∷ rest) = cookie ∷ cookies_of rest
cookies_of (_ ∷ rest) = cookies_of rest

-- the cookies of the waits are at least `first`, and rise
abbrev pub AreRising : (first : ℕ) → List Descriptor → Type 0
AreRising first [] = Unit {0}
AreRising first (Wait cookie drain ∷ rest) = (first ≤ cookie) × AreRising (cookie + 1) rest
AreRising first (_ ∷ rest) = AreRising first rest

-- the number after the cookie of the last wait; `first` where there is no wait
abbrev pub number_after : (first : ℕ) → List Descriptor → ℕ
number_after first [] = first
number_after first (Wait cookie drain ∷ rest) = number_after (cookie + 1) rest
number_after first (_ ∷ rest) = number_after first rest

-- a cookie is below 2^63
abbrev pub HasNumber : Descriptor → Type 0
HasNumber (Wait cookie drain) = cookie < 2 ^ 63
HasNumber _ = Unit {0}
