use Rattle.fit_cells.proofs.Common.{◌∙◌, ap, option_map, meaning, number_text}
use Rattle.fit_cells.proofs.raw.read_raw.Goals as goal

pub returns-in-Some : goal.returns-in-Some
returns-in-Some c raw least most shows =
    c.read_scaled.ensures raw least most (shows ∙ ap (λ i. number_text (option_map meaning i) raw) c.in-Some.is)

pub returns-in-None : goal.returns-in-None
returns-in-None c raw least most shows =
    c.read_whole.ensures raw least most (shows ∙ ap (λ i. number_text (option_map meaning i) raw) c.in-None.is)
