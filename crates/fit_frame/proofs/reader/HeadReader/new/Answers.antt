use Rattle.fit_frame.proofs.Common.{[], length, sym, ap, subst, arith, BeginsHeader, IsWholeHeader}
use Rattle.fit_frame.proofs.HeadersAreJudged.{has_its_size}
use Rattle.fit_frame.proofs.JudgedBytesBegin.{begins, no_byte}
use Rattle.fit_frame.proofs.reader.HeadReader.new.Goals as goal

pub returns-clause-begins : goal.returns-clause-begins
returns-clause-begins c =
    let fails : IsWholeHeader c.new.result.items → ⊥ = λ w. omega (arith, has_its_size c.new.result.items w, ap length c.new.ensures) in
    (subst BeginsHeader (sym c.new.ensures) (begins [] no_byte), fails)

pub returns-clause-seen : goal.returns-clause-seen
returns-clause-seen c = cc
