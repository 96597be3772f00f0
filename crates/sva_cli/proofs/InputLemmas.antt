-- How many names are that of standard input.
use Rattle.std.proofs.Common.{◌≡◌, ◌∙◌, ◌+◌, ◌<◌, ◌≤◌, ap, arith, sym, ℕ, Bool, false, true, List, [], ◌∷◌, String, drop, get_or, length}
use Rattle.std.proofs.lemmas.List.{drop_all, drop_more}
use Rattle.std.specs.Global.{Global}
use Rattle.std.specs.Prelude.{string_bytes}
use Rattle.sva_command.specs.Command.{texts}
use Rattle.sva_cli.specs.Inputs.{inputs_in, is_input, one_if}

module _ (names : List (String Global)) (place : ℕ) where
  pub counted_next : (name : String Global) (so_far added next_count whole : ℕ) → place < length names → name ≡ get_or names place name
      → added ≡ one_if (is_input (string_bytes name)) → next_count ≡ so_far + added
      → so_far + inputs_in (texts (drop place names)) ≡ whole → next_count + inputs_in (texts (drop (place + 1) names)) ≡ whole
  unfolding inputs_in
  counted_next name so_far added next_count whole inside is adds counts before =
      let rest = drop (place + 1) names in
      let next : drop place names ≡ name ∷ rest = drop_more names place name inside ∙ ap (λ x. x ∷ rest) (sym is) in
      let split : so_far + (one_if (is_input (string_bytes name)) + inputs_in (texts rest)) ≡ whole = sym
      (ap (λ l. so_far + inputs_in (texts l)) next) ∙ before in
      omega (arith, adds, counts, split)

  pub counted_end : (so_far whole : ℕ) → length names ≤ place → so_far + inputs_in (texts (drop place names)) ≡ whole → so_far ≡ whole
  unfolding inputs_in
  counted_end so_far whole past before =
      let none : so_far + inputs_in [] ≡ whole = sym (ap (λ l. so_far + inputs_in (texts l)) (drop_all place names past)) ∙ before in
      omega (arith, none)

pub one_at_most : (n : ℕ) (so : Bool) → n ≡ one_if so → n ≤ 1
one_at_most n true is = omega (arith, is)
one_at_most n false is = omega (arith, is)
