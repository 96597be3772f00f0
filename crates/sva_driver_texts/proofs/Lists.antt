-- What endpoints may do, line by line and endpoint by endpoint.
use Rattle.std.proofs.Common.{◌≡◌, ◌∙◌, ◌<◌, ◌≤◌, ◌+◌, ap, sym, ℕ, List, [], ◌∷◌, ◌++◌, append-nil, append_assoc, length, get_or, drop, map}
use Rattle.std.specs.Prelude.{flat_map}
use Rattle.std.proofs.lemmas.List.{drop_all, drop_more, map_push}
use Rattle.sva_driver_words.specs.Awaits.{LineSaid, line_seen}
use Rattle.sva_driver_words.specs.declared.kept.LineRead.{LineRead}
use Rattle.sva_open.specs.declared.drivers.Device.{Device}
use Rattle.sva_driver_texts.specs.declared.kept_of_endpoints.DeviceRead.{DeviceRead}
use Rattle.sva_driver_texts.specs.Devices as devices
use Rattle.sva_driver_texts.specs.Pasids.{higher, highest_by, pasid_at}
use Rattle.sva_driver_texts.specs.Plans.{Planned, device_seen, page_set, pages_by, pasids_by, planned, planned_from, started_at, with_number}

abbrev pub seen : List LineRead → List LineSaid
seen lines = map line_seen lines

pub page_next : (lines : List LineRead) (i : ℕ) (blank : LineRead) (old new : List ℕ) → i < length lines
    → new ≡ with_number old (page_set (line_seen (get_or lines i blank)).saying)
    → pages_by old (seen (drop i lines)) ≡ pages_by new (seen (drop (i + 1) lines))
unfolding pages_by
page_next lines i blank old new inside is =
    ap (λ left. pages_by old (seen left)) (drop_more lines i blank inside) ∙ ap (λ pages. pages_by pages (seen (drop (i + 1) lines))) (sym is)

pub pages_end : (lines : List LineRead) (i : ℕ) (old : List ℕ) → length lines ≤ i → pages_by old (seen (drop i lines)) ≡ old
unfolding pages_by
pages_end lines i old past = ap (λ left. pages_by old (seen left)) (drop_all i lines past)

pub pasid_next : (endpoint : ℕ) (lines : List LineRead) (i : ℕ) (blank : LineRead) (old new : List ℕ) → i < length lines
    → new ≡ with_number old (started_at endpoint (line_seen (get_or lines i blank)).saying)
    → pasids_by endpoint old (seen (drop i lines)) ≡ pasids_by endpoint new (seen (drop (i + 1) lines))
unfolding pasids_by
pasid_next endpoint lines i blank old new inside is =
    ap (λ left. pasids_by endpoint old (seen left)) (drop_more lines i blank inside)
    ∙ ap (λ pasids. pasids_by endpoint pasids (seen (drop (i + 1) lines))) (sym is)

pub pasids_end : (endpoint : ℕ) (lines : List LineRead) (i : ℕ) (old : List ℕ) → length lines ≤ i
    → pasids_by endpoint old (seen (drop i lines)) ≡ old
unfolding pasids_by
pasids_end endpoint lines i old past = ap (λ left. pasids_by endpoint old (seen left)) (drop_all i lines past)

-- the highest PASID so far, line by line
pub highest_next : (lines : List LineRead) (i : ℕ) (blank : LineRead) (old new : ℕ) → i < length lines
    → new ≡ higher old (pasid_at (line_seen (get_or lines i blank)).saying)
    → highest_by old (seen (drop i lines)) ≡ highest_by new (seen (drop (i + 1) lines))
unfolding highest_by
highest_next lines i blank old new inside is =
    ap (λ left. highest_by old (seen left)) (drop_more lines i blank inside)
    ∙ ap (λ highest. highest_by highest (seen (drop (i + 1) lines))) (sym is)

pub highest_end : (lines : List LineRead) (i old : ℕ) → length lines ≤ i → highest_by old (seen (drop i lines)) ≡ old
unfolding highest_by
highest_end lines i old past = ap (λ left. highest_by old (seen left)) (drop_all i lines past)

-- pieces, one for each of a list
pub piece_next : {A B : Type 0} (f : A → List B) (xs : List A) (i : ℕ) (blank : A) (before out whole : List B) → i < length xs
    → before ++ flat_map f (drop i xs) ≡ whole → out ≡ before ++ f (get_or xs i blank) → out ++ flat_map f (drop (i + 1) xs) ≡ whole
piece_next f xs i blank before out whole inside so_far is =
    ap (λ l. l ++ flat_map f (drop (i + 1) xs)) is ∙ append_assoc before (f (get_or xs i blank)) (flat_map f (drop (i + 1) xs))
    ∙ sym (ap (λ l. before ++ flat_map f l) (drop_more xs i blank inside)) ∙ so_far

pub piece_end : {A B : Type 0} (f : A → List B) (xs : List A) (i : ℕ) (before whole : List B) → length xs ≤ i
    → before ++ flat_map f (drop i xs) ≡ whole → before ≡ whole
piece_end f xs i before whole past so_far = sym (append-nil before) ∙ sym (ap (λ l. before ++ flat_map f l) (drop_all i xs past)) ∙ so_far

-- endpoint by endpoint
pub planned_next : (lines : List LineSaid) (xs : List DeviceRead) (i : ℕ) (blank : DeviceRead) (own : Device) (old new : List Device) (whole : List Planned)
    → i < length xs → device_seen own ≡ planned lines i (devices.device_seen (get_or xs i blank)) → new ≡ old ++ own ∷ []
    → map device_seen old ++ planned_from lines i (map devices.device_seen (drop i xs)) ≡ whole
    → map device_seen new ++ planned_from lines (i + 1) (map devices.device_seen (drop (i + 1) xs)) ≡ whole
unfolding planned_from
planned_next lines xs i blank own old new whole inside is grown so_far =
    let left = planned_from lines (i + 1) (map devices.device_seen (drop (i + 1) xs)) in
    ap (λ l. map device_seen l ++ left) grown ∙ ap (λ l. l ++ left) (map_push device_seen old own)
    ∙ append_assoc (map device_seen old) (device_seen own ∷ []) left ∙ ap (λ (p : Planned). map device_seen old ++ (p ∷ left)) is
    ∙ sym (ap (λ l. map device_seen old ++ planned_from lines i (map devices.device_seen l)) (drop_more xs i blank inside)) ∙ so_far

pub planned_end : (lines : List LineSaid) (xs : List DeviceRead) (i : ℕ) (old : List Device) (whole : List Planned) → length xs ≤ i
    → map device_seen old ++ planned_from lines i (map devices.device_seen (drop i xs)) ≡ whole → map device_seen old ≡ whole
unfolding planned_from
planned_end lines xs i old whole past so_far =
    sym (append-nil (map device_seen old))
    ∙ sym (ap (λ l. map device_seen old ++ planned_from lines i (map devices.device_seen l)) (drop_all i xs past)) ∙ so_far
