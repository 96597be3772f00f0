-- What is written of a script.
use Rattle.std.specs.Prelude.{ℕ, List}
use Rattle.sva_snapshot.specs.Explaining.{Explaining}
use Rattle.sva_script_reports.specs.declared.printing.Saying.{Saying}
use Rattle.sva_script_reports.specs.declared.printing.Saying.TheVariants.{Plain, Show, Test, Why}
use Rattle.sva_script_reading.specs.Said.{Said}
use Rattle.sva_script_reports.specs.Scripts.{plain_of, test_of}
use Rattle.sva_script_reports.specs.Shows.{show_of}
use Rattle.sva_script_reports.specs.Whys.{whys_of}

-- what is said of a script
abbrev pub said_of : Explaining → Saying → List ℕ → Said
said_of explained Plain text = plain_of text
said_of explained Test text = test_of explained text
said_of explained Show text = show_of text
said_of explained Why text = whys_of explained text
