use Rattle.std.proofs.Common.{sym, subst}
use Rattle.fit_writer.proofs.TextsRead.{short_text}
use Rattle.fit_writer.specs.Describing.{IsReadBack}
use Rattle.fit_writer.proofs.describing.description_of.Goals as goal

pub with_text-requires-clause-short : goal.with_text-requires-clause-short
with_text-requires-clause-short c = short_text c.entry_texts.result.0.now (subst IsReadBack (sym c.entry_texts.ensures.name) c.requires.said.1)

pub with_text-requires-2-clause-short : goal.with_text-requires-2-clause-short
with_text-requires-2-clause-short c = short_text c.entry_texts.result.1.now (subst IsReadBack (sym c.entry_texts.ensures.unit) c.requires.said.2)
