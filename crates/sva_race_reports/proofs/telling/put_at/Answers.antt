use Rattle.std.proofs.Common.{◌∙◌, [], List, ℕ, Bor, ap, sym, option_map}
use Rattle.std.proofs.lemmas.Option.{slice_get-get_or}
use Rattle.sva_race_reports.proofs.telling.put_at.Goals as goal

pub returns-in-None : goal.returns-in-None
returns-in-None c =
    let there = slice_get-get_or c.args.kinds.now c.args.place ([], 0) c.requires.within in
    let none = sym (ap (option_map (λ (kind : Bor (List ℕ) × ℕ). (kind.0.now, kind.1))) c.in-None.is) ∙ c.at.ensures ∙ there in absurd (cc none)
