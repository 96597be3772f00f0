use Rattle.std.proofs.Common.{◌≡◌, ◌∙◌, ◌++◌, ap, flat_map, map, refl, rules, sym}
use Rattle.std.proofs.lemmas.List.{map-append}
use Rattle.sva_race_texts.specs.Seen.{line_seen}
use Rattle.sva_race_texts.specs.Devices.{count_seen, has_of, has_seen, line_if, may_be_silent, named_pages}
use Rattle.sva_race_texts.specs.Readings.{Reading, claim_seen, counts_of}
use Rattle.sva_race_texts.specs.Texts.{verdicts_or}
use Rattle.sva_race_texts.proofs.CountLemmas.{claims_counted, of_claim}
use Rattle.sva_race_texts.proofs.DeviceLemmas.{devices_by, map_twice}
use Rattle.sva_race_texts.proofs.WholeLemmas.{said_right, said_wrong, some_said, none_said}
use Rattle.sva_race_texts.proofs.texts.text_of.Goals as goal

pub returns-then-not-is_empty : goal.returns-then-not-is_empty
returns-then-not-is_empty c =
    let said = ap (λ (reading : Reading). reading.said) c.reading.view_is in
    said_wrong (record { config = c.args.config; before = c.args.before; reading = c.args.reading }) c.args.out.now.items c.extend_from_slice.new.self.items
    (some_said said (search rules)) c.requires
    (c.in_ok-extend_from_slice.ensures.items ∙ ap (λ l. c.args.out.now.items ++ l) (c.as_slice.ensures.value ∙ said))

pub returns : goal.returns
returns c =
    let is = c.reading.view_is in
    let lines = c.reading.inside.devices.items in
    let named : c.in_ok-named.named.items ≡ named_pages (map line_seen c.reading.inside.lines.items) = search rules in
    let devices : map has_seen c.in_ok-devices.devices.items ≡ map (λ line. has_of c.in_ok-named.named.items (line_if line)) lines =
    devices_by _ _ _ _ _ c.in_ok-devices.ensures c.as_slice-pages.ensures.value c.as_slice-own_lines.ensures.value in
    let silent : c.in_ok-silent.silent.items ≡ map (λ line. may_be_silent (line_if line)) lines =
    c.in_ok-silent.ensures ∙ ap (map (λ line. may_be_silent (line_if line))) c.as_slice-own_lines.ensures.value in
    let counts : map count_seen c.in_ok-counts.counts.items ≡ flat_map of_claim c.reading.inside.claims.items =
    c.in_ok-counts.ensures ∙ ap (flat_map of_claim) c.as_slice-all_claims.ensures.value in
    said_right (record { config = c.args.config; before = c.args.before; reading = c.args.reading }) _ c.args.out.now.items
    (sym (ap (λ (reading : Reading). reading.said) is) ∙ none_said c.reading.inside.said.items (search rules))
    (record {
      race = record {
        config = refl;
        lines = ap (λ (reading : Reading). reading.lines) is;
        before = refl;
        verdicts = c.verdicts_or.ensures ∙ ap (λ (reading : Reading). verdicts_or reading.verdicts) is;
        silent = silent ∙ sym (map_twice may_be_silent line_if lines) ∙ ap (λ (reading : Reading). map may_be_silent reading.devices) is;
        claims = ap (map claim_seen) c.in_ok-with_others.ensures
            ∙ map-append claim_seen c.reading.inside.claims.items c.reading.inside.literals.claims.items
            ∙ ap (λ (reading : Reading). reading.claims ++ reading.literals.claims) is;
        counts = counts ∙ claims_counted c.reading.inside.claims.items ∙ ap (λ (reading : Reading). counts_of reading.claims) is;
        devices = devices ∙ ap (λ pages. map (λ line. has_of pages (line_if line)) lines) named
            ∙ sym (map_twice (has_of (named_pages (map line_seen c.reading.inside.lines.items))) line_if lines)
            ∙ ap (λ (reading : Reading). map (has_of (named_pages reading.lines)) reading.devices) is;
      };
      threads = ap (λ (reading : Reading). reading.threads) is;
      asked = ap (λ (reading : Reading). reading.asked) is;
      literals = ap (λ (reading : Reading). reading.literals.asked) is;
    })
    c.requires
