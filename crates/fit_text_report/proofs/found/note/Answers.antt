use Rattle.fit_text_report.proofs.found.note.Goals as goal

pub returns-then-place-lt16 : goal.returns-then-place-lt16
returns-then-place-lt16 c = cc
