-- What the test of a config means.
use Rattle.std.proofs.Common.{◌≡◌, refl, Bool, true, false}
use Rattle.std.proofs.lemmas.Bool.{and_from, and_parts, le-leb, leb-true}
use Rattle.sva_step.specs.declared.limits.Config.{Config}
use Rattle.sva_step.specs.Limits.{Fits}
use Rattle.sva_grammar.specs.Configs.{is_fit}

pub fit_from : (config : Config) → Fits config → is_fit config ≡ true
fit_from config f =
    and_from _ _
    (and_from _ _
    (and_from _ _
    (and_from _ _
    (and_from _ _ (and_from _ _ (le-leb _ _ f.some_endpoint) (le-leb _ _ f.most_endpoints)) (le-leb _ _ f.some_frame))
    (le-leb _ _ f.most_frames))
    (le-leb _ _ f.some_worker))
    (le-leb _ _ f.most_workers))
    (le-leb _ _ f.first_number)

pub fit_to : (config : Config) → is_fit config ≡ true → Fits config
fit_to config h =
    let six = and_parts _ _ h in
    let five = and_parts _ _ six.0 in
    let four = and_parts _ _ five.0 in
    let three = and_parts _ _ four.0 in
    let two = and_parts _ _ three.0 in
    let one = and_parts _ _ two.0 in
    record {
      some_endpoint = leb-true _ _ one.0;
      most_endpoints = leb-true _ _ one.1;
      some_frame = leb-true _ _ two.1;
      most_frames = leb-true _ _ three.1;
      some_worker = leb-true _ _ four.1;
      most_workers = leb-true _ _ five.1;
      first_number = leb-true _ _ six.1;
    }

unfit_by : (config : Config) (fit : Bool) → is_fit config ≡ fit → (Fits config → ⊥) → is_fit config ≡ false
unfit_by config true e unfit = absurd (unfit (fit_to config e))
unfit_by config false e unfit = e

pub unfit_from : (config : Config) → (Fits config → ⊥) → is_fit config ≡ false
unfit_from config unfit = unfit_by config (is_fit config) refl unfit
