use Rattle.std.proofs.Common.{◌≡◌, ◌∙◌, ◌<◌, ◌-◌, Some, ap, arith, get_or, length, map, refl, rules, sym, take}
use Rattle.std.proofs.lemmas.Option.{same_Some}
use Rattle.std.proofs.lemmas.Result.{IfOk-weaker}
use Rattle.std.specs.Prelude.{option_map}
use Rattle.sva_driver_texts.specs.Bodies.{body_seen, defined_seen, texts, wrong_seen}
use Rattle.sva_driver_texts.specs.WrittenOut.{Writing, body_ended}
use Rattle.sva_driver_texts.specs.declared.bodies.Body.{Body}
use Rattle.sva_driver_texts.proofs.BodyLemmas.{ended_is, front_seen, last_seen}
use Rattle.sva_driver_texts.proofs.writing.Writing.end_body.Goals as goal

pub returns-in-Some : goal.returns-in-Some
returns-in-Some c =
    let around = c.self.inside.around in
    let old : Writing = record {
      body = body_seen c.self.inside.body;
      around = map body_seen around.items;
      parameters = option_map (λ own. texts own.items) c.self.inside.parameters;
      defined = map defined_seen c.self.inside.defined.items;
      known = c.self.inside.known;
      left = c.self.inside.left;
      bytes = c.self.inside.bytes;
      is_full = c.self.inside.is_full;
      wrongs = map wrong_seen c.self.inside.wrongs.items;
    } in
    let count : around.len ≡ length around.items = search rules in
    let some : 0 < around.len = c.in-Some.ensures.variant.0 refl in
    let outer : c.in-Some.outer ≡ get_or around.items (around.len - 1) c.in-Some.outer = same_Some _ _ (c.in-Some.ensures.value c.in-Some.outer some) in
    IfOk-weaker c.end_by.result _ _
    (λ x done. done
    ∙ ended_is old _ (body_seen c.replace-body.result) (body_seen c.in-Some.outer) (map body_seen c.pop.new.self.items)
    (last_seen body_seen around.items c.in-Some.outer (omega (arith, some, count))
    ∙ ap (λ n. Some (body_seen (get_or around.items (n - 1) c.in-Some.outer))) (sym count)
    ∙ ap (λ (body : Body). Some (body_seen body)) (sym outer))
    (front_seen body_seen around.items c.pop.new.self.items
    (c.in-Some.ensures.rest ∙ ap (λ n. take (n - 1) around.items) count))
    (ap body_seen c.replace-body.ensures.value)
    (λ i. record old { body = body_seen (c.replace-body.ensures.after i); around = map body_seen c.pop.new.self.items })
    ∙ ap body_ended c.self.view_is)
    c.end_by.ensures
