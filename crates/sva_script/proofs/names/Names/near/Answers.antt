use Rattle.std.proofs.Common.{◌≡◌, ◌-◌, ◌∙◌, ◌+◌, ap, sym, ℕ, List, cond, drop, length, arith, rules, true, false, Some}
use Rattle.sva_script.specs.Names.{Known, names_of}
use Rattle.sva_script.specs.Near.{is_near, near_among}
use Rattle.sva_script.proofs.NearLemmas.{kept_next, seen_length}
use Rattle.sva_script.proofs.names.Names.near.Goals as goal
use Rattle.sva_script.proofs.names.Names.near.Goals.{in-Some+else-is_near, in_default}

pub returns-then-is_near : goal.returns-then-is_near
returns-then-is_near c =
    let word = c.args.word.now in
    let place = c.loop-place.place in
    let long : length c.self.inside.given.entries ≡ length c.args.self.now =
    sym (seen_length (λ key. key.items) c.self.inside.given.entries) ∙ ap length c.self.view_is in
    let start : c.saturating_sub-place.result ≡ length c.args.self.now - 1000 = omega (arith, long, c.saturating_sub-place.ensures, c.len-len.ensures.len) in
    let near : is_near c.in-Some.name.now.items word ≡ true =
    ap (λ (name : List ℕ). is_near name word) (sym c.as_slice.ensures.value) ∙ sym c.is_near.ensures ∙ c.if-is_near.true in
    ap Some c.as_slice-then-is_near.ensures.value
    ∙ sym (ap (λ t. cond t (Some c.in-Some.name.now.items) (near_among (drop (place + 1) (names_of c.args.self.now)) word)) near)
    ∙ sym (ap (λ (known : Known). near_among (drop place (names_of known)) word) (sym c.self.view_is)
    ∙ kept_next (λ key. key.items) c.self.inside.given.entries place _ word (sym c.in-Some.ensures.entry)
    ∙ ap (λ (known : Known). cond (is_near c.in-Some.name.now.items word) (Some c.in-Some.name.now.items)
    (near_among (drop (place + 1) (names_of known)) word)) c.self.view_is)
    ∙ c.loop-place.invariant
    ∙ ap (λ k. near_among (drop k (names_of c.args.self.now)) word) start

pub loop-place-preserved : goal.loop-place-preserved
loop-place-preserved c = elim c.match-get_index.branch [
  | in-Some+else-is_near w ↦
      (let word = c.args.word.now in
      let place = c.loop-place.place in
      let far : is_near w.in-Some.name.now.items word ≡ false =
      ap (λ (name : List ℕ). is_near name word) (sym w.as_slice.ensures.value) ∙ sym w.is_near.ensures ∙ w.if-is_near.false in
      sym (ap (λ t. cond t (Some w.in-Some.name.now.items) (near_among (drop (place + 1) (names_of c.args.self.now)) word)) far)
      ∙ sym (ap (λ (known : Known). near_among (drop place (names_of known)) word) (sym c.self.view_is)
      ∙ kept_next (λ key. key.items) c.self.inside.given.entries place _ word (sym w.in-Some.ensures.entry)
      ∙ ap (λ (known : Known). cond (is_near w.in-Some.name.now.items word) (Some w.in-Some.name.now.items)
      (near_among (drop (place + 1) (names_of known)) word)) c.self.view_is)
      ∙ c.loop-place.invariant)
  | in_default w ↦ absurd (search rules)
]
