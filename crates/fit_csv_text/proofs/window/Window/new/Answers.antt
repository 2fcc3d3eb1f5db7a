use Rattle.fit_csv_text.proofs.window.Window.new.Goals as goal

pub returns : goal.returns
returns c = cc
