use Rattle.fit_decode.proofs.Common.{refl, sym, ◌∙◌, subst, IsEnd}
use Rattle.fit_decode.proofs.readers.file.is_end.Goals as goal

pub returns-in-Truncated : goal.returns-in-Truncated
returns-in-Truncated g c =
    let good = c.finish.ensures.good in
    let value = c.is_ok.ensures.value in
    subst (λ fault. IsEnd g.row.A.Denot c.args.decoder.now fault c.is_ok.result) (sym c.in-Truncated.is)
    ((λ is. good.0 (sym value ∙ is)), (λ whole. value ∙ good.1 whole))

pub returns-in-NoMemory : goal.returns-in-NoMemory
returns-in-NoMemory g c = rw c.in-NoMemory.is refl

pub returns-in-Read : goal.returns-in-Read
returns-in-Read g c = rw c.in-Read.is refl

pub returns-in-Refused : goal.returns-in-Refused
returns-in-Refused g c = rw c.in-Refused.is refl
