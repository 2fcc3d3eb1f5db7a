use Rattle.fit_sum.proofs.Common.{◌∙◌, ap, run}
use Rattle.fit_sum.proofs.RegisterOfAdded.{IsSumOf-none, IsSumOf-append}
use Rattle.fit_sum.proofs.sum.checksum_of.Goals as goal

pub returns : goal.returns
returns c =
    let front = IsSumOf-append 0 _ c.args.front.now c.add_bytes.ensures.bytes IsSumOf-none in
    let both = IsSumOf-append _ _ c.args.rest.now c.add_bytes-2.ensures.bytes front in
    c.add_bytes-2.ensures.register ∙ ap (λ t. run t c.args.rest.now) c.add_bytes.ensures.register ∙ both.1
