use Rattle.std.proofs.Common.{rules}
use Rattle.fit_texts.proofs.Common.{◌∙◌, [], ap, arith, default_writer, instant_text, needs_quotes}
use Rattle.std.specs.Prelude.{option_map, unwrap_or}
use Rattle.fit_texts.proofs.PlainInstants.{plain-instant}
use Rattle.fit_texts.proofs.minutes.Times.add_cell.Goals as goal

pub returns-in-Some-clause-plain : goal.returns-in-Some-clause-plain
returns-in-Some-clause-plain c =
    ap (λ time. needs_quotes default_writer (unwrap_or (option_map instant_text time) [])) c.in-Some.is ∙ plain-instant c.in-Some.time (omega arith)

pub returns-in-None-clause-text : goal.returns-in-None-clause-text
returns-in-None-clause-text c = search rules
