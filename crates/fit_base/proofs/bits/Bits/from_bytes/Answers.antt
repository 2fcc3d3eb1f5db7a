use Rattle.std.proofs.Common.{sym, ◌∙◌, arith}
use Rattle.std.proofs.lemmas.List.{nil_from_length}
use Rattle.fit_base.proofs.Common.{rules}
use Rattle.fit_base.proofs.bits.Bits.from_bytes.Goals as goal

pub returns-in_ok-numbers-in_default-clause-same :
    goal.returns-in_ok-numbers-in_default-clause-same
returns-in_ok-numbers-in_default-clause-same g c = search rules

pub returns-in-empty-clause-same : goal.returns-in-empty-clause-same
returns-in-empty-clause-same g c = c.new.ensures ∙ sym (nil_from_length c.args.bytes.now (omega arith))
