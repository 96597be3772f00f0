use Rattle.std.proofs.Common.{◌∙◌, ◌<◌, ◌≤◌, ◌+◌, ap, arith, length, rules}
use Rattle.std.proofs.lemmas.List.{length_push}
use Rattle.sva_race_texts.proofs.Lists.{said}
use Rattle.sva_race_texts.specs.Devices.{pages_in}
use Rattle.sva_race_texts.proofs.DeviceLemmas.{words_end, words_next, words_stop}
use Rattle.sva_race_texts.proofs.devices.pages_in.Goals as goal

pub loop-place-preserved : goal.loop-place-preserved
loop-place-preserved c =
    let inside : c.loop-place.place < length c.args.words.now = search rules in
    record {
      pages = words_next c.args.words.now c.loop-place.place c.page_at.result c.in-Some.page c.loop-place.list.items c.push.new.self.items
          (pages_in (said c.args.words.now)) inside c.page_at.ensures c.in-Some.is c.in_ok-push-in-Some.ensures.items
          c.loop-place.invariant.pages;
      count = ap length c.in_ok-push-in-Some.ensures.items ∙ length_push c.loop-place.list.items c.in-Some.page
          ∙ ap (λ n. n + 1) c.loop-place.invariant.count;
      within = omega (arith, inside);
    }

pub returns-in-None : goal.returns-in-None
returns-in-None c =
    let inside : c.loop-place.place < length c.args.words.now = search rules in
    record {
      pages = words_stop c.args.words.now c.loop-place.place c.page_at.result c.loop-place.list.items (pages_in (said c.args.words.now))
          inside c.page_at.ensures c.in-None.is c.loop-place.invariant.pages;
      few = omega (arith, c.loop-place.invariant.count, inside);
    }

pub returns : goal.returns
returns c =
    let past : length c.args.words.now ≤ c.loop-place.place = search rules in
    record {
      pages = words_end c.args.words.now c.loop-place.place c.loop-place.list.items (pages_in (said c.args.words.now)) past
          c.loop-place.invariant.pages;
      few = omega (arith, c.loop-place.invariant.count, c.loop-place.invariant.within);
    }
