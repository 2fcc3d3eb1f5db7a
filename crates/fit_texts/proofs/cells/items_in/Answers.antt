use Rattle.fit_texts.proofs.Common.{subst}
use Rattle.std.specs.Str.{IsUtf8}
use Rattle.fit_profile.specs.Names.{meaning}
use Rattle.std.proofs.Common.{option_map}
use Rattle.fit_cells.proofs.TextFacts.{utf8-cell}
use Rattle.fit_texts.proofs.cells.items_in.Goals as goal

pub returns-in-Err-clause-every : goal.returns-in-Err-clause-every
returns-in-Err-clause-every c items shape e =
    absurd (c.in-Err.ensures.cases.0 (subst (λ text. IsUtf8 text) e (utf8-cell c.args.code.0 (option_map meaning c.args.info) items)))
