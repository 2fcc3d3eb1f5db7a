use Rattle.fit_sum.proofs.RegisterOfAdded.{IsSumOf-append}
use Rattle.fit_sum.proofs.sum.Sum.add_all.Goals as goal

pub invariant_of-self : goal.invariant_of-self
invariant_of-self c =
    let more = c.add_bytes-self-inside.ensures in
    rw (c.note.ensures, more.register) (IsSumOf-append _ _ _ more.bytes c.self.invariant)
