use Rattle.fit_csv_text.proofs.loose.runs.bits_before.Goals as goal

pub returns-then-mask-eq0 : goal.returns-then-mask-eq0
returns-then-mask-eq0 c = cc
