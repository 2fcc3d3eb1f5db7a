use Rattle.std.proofs.Common.{inl, inr, refl}
use Rattle.fit_writer.proofs.describing.describe_field.Goals as goal

pub returns-then-is_described-clause-ok : goal.returns-then-is_described-clause-ok
returns-then-is_described-clause-ok c = (c.args.file.now.stream, inl (c.is_described.ensures.yes c.if-is_described.true, refl), refl)

pub put_description-requires-clause-other : goal.put_description-requires-clause-other
put_description-requires-clause-other c = c.is_described.ensures.no c.if-is_described.false

pub put_description-requires-clause-said : goal.put_description-requires-clause-said
put_description-requires-clause-said c = elim c.requires.said [
  | inl was ↦ absurd (c.is_described.ensures.no c.if-is_described.false was)
  | inr said ↦ said
]
