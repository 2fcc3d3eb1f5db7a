-- What holds of the lines of chains.
use Rattle.std.specs.Prelude.{◌≡◌, List, flat_map, reverse}
use Rattle.fit_record.specs.declared.file.FitFile.{FitFile}
use Rattle.fit_chain.specs.Events.{file_events}
use Rattle.fit_report.specs.Heard.{text_of}
use Rattle.fit_show.specs.ShowLines.{show_line, show_lines}

-- the text of a chain's events, as `show` writes it, is that of the chain
abbrev pub ChainsHaveShowLines : Type 0 → Type 0
ChainsHaveShowLines A = (files : List (FitFile A)) → text_of show_line (reverse (flat_map file_events files)) ≡ show_lines files
