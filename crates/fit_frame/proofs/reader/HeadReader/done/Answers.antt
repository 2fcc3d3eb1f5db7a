use Rattle.fit_frame.proofs.Common.{sym, subst, HasItsSize}
use Rattle.fit_frame.proofs.HeadersAreJudged.{has_its_size}
use Rattle.fit_frame.proofs.JudgedBytesBegin.{is_done}
use Rattle.fit_frame.proofs.reader.HeadReader.done.Goals as goal

pub returns : goal.returns
returns c = rw (← c.self.view_is) (
  λ is_true. is_done c.self.inside.bytes.items c.self.invariant (subst HasItsSize c.as_slice.ensures.value (c.has_its_size.ensures.0 is_true)),
  λ whole. c.has_its_size.ensures.1 (subst HasItsSize (sym c.as_slice.ensures.value) (has_its_size c.self.inside.bytes.items whole)),
)
