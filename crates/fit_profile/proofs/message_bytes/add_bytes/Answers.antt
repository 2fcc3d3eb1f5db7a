use Rattle.fit_profile.proofs.Common.{◌∙◌, ◌++◌, ◌∷◌, [], ap}
use Rattle.fit_base.proofs.ByteLists.{slice_is_bytes}
use Rattle.fit_profile.proofs.PassedMessages.{message_is_read}
use Rattle.fit_profile.proofs.message_bytes.add_bytes.Goals as goal

pub returns : goal.returns
returns c v is =
    c.add_from.ensures
    ∙ ap (λ r. c.args.records.now.items ++ r ∷ [])
    (message_is_read c.args.env.now c.args.bytes.now v (slice_is_bytes c.args.bytes.now c.type_inv.bytes) is)
