use Rattle.fit_chain.proofs.Common.{arith}
use Rattle.fit_chain.proofs.FirstFile.{other_limit}
use Rattle.fit_chain.proofs.laws.first_files_are_files.Goals as goal

pub returns : goal.returns
returns g c = λ limit progress bytes come are some.
    (other_limit limit 1 progress bytes come are (omega arith), other_limit 1 limit progress bytes come are some)
