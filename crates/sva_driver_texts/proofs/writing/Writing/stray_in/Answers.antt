use Rattle.std.proofs.Common.{◌∙◌, Some, ap, sym}
use Rattle.std.specs.Global.{Global}
use Rattle.std.specs.Prelude.{Vec, option_map}
use Rattle.std.proofs.Common.{List, ℕ}
use denote.Ref.{Bor}
use Rattle.sva_driver_texts.specs.Bodies.{texts}
use Rattle.sva_driver_texts.specs.WrittenOut.{Writing, stray_in}
use Rattle.sva_driver_texts.proofs.writing.Writing.stray_in.Goals as goal

pub returns-in-Some : goal.returns-in-Some
returns-in-Some c =
    let words = texts c.args.words.now in
    c.stray_in.ensures ∙ ap (λ own. stray_in words (Some (texts own))) c.as_slice.ensures.value
    ∙ ap (λ own. stray_in words (option_map (λ (it : Vec (Bor (List ℕ)) Global). texts it.items) own)) (sym c.in-Some.is)
    ∙ ap (λ (writing : Writing). stray_in words writing.parameters) c.self.view_is
