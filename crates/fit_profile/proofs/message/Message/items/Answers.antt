use Rattle.fit_profile.proofs.Common.{rules}
use Rattle.fit_profile.proofs.FirstField.{items_first}
use Rattle.fit_profile.proofs.message.Message.items.Goals as goal

pub returns-in_err-items : goal.returns-in_err-items
returns-in_err-items g c = search (rules, items_first)

pub returns : goal.returns
returns g c = search (rules, items_first)
