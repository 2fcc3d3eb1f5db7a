use Rattle.fit_encode.proofs.Lengths.{no_long_definition}
use Rattle.fit_encode.proofs.message.spell_record.Goals as goal

pub unreachable-requires : goal.unreachable-requires
unreachable-requires g c =
    no_long_definition c.args.order c.args.r.now c.in-Define.field-0 c.args.size c.in-Define.is c.requires.spellable c.requires.size c.if-size-le-SHORT.false
