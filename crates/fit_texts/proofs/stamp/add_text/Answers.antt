use Rattle.fit_texts.proofs.Sheets.{more_written}
use Rattle.fit_texts.proofs.stamp.add_text.Goals as goal

pub returns-clause-text : goal.returns-clause-text
returns-clause-text c =
    more_written c.args.text.now.items c.args.sheet.now c.write_text.new.bytes c.args.more.now c.args.at c.write_text.result c.write_text.ensures.text
