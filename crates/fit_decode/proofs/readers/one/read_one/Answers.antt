-- The reading of one file begins with no bytes.
use Rattle.fit_decode.proofs.Common.{[], length, sym, ap, subst, Global, at_header, HasCome, IsViable, chain_limit}
use Rattle.std.proofs.Common.{lit<}
use Rattle.fit_decode.specs.Answers.{Seen}
use Rattle.fit_decode.proofs.FileRead.{no_file_yet, nothing_viable}
use Rattle.fit_decode.proofs.OneRead.{reads_one, gives_file}
use Rattle.fit_decode.proofs.readers.one.read_one.Goals as goal

pub read_file-requires : goal.read_file-requires
read_file-requires g c =
    let none = sym c.new-decoder.ensures in
    let viable = subst (λ (v : Seen). IsViable Global chain_limit v.bytes) none (nothing_viable Global) in
    let come = subst (λ (v : Seen). HasCome {A = Global} [] (at_header []) v.bytes) none (no_file_yet Global) in
    (lit< tt, (ap (λ (v : Seen). v.refusal) c.new-decoder.ensures, (viable, (ap (λ (v : Seen). length v.bytes) none, ([], come)))))

pub returns-clause-file : goal.returns-clause-file
returns-clause-file g c = λ f b x input are file.
    let come = subst (λ (v : Seen). HasCome {A = Global} [] (at_header []) v.bytes) (sym c.new-decoder.ensures) (no_file_yet Global) in
    gives_file f b x c.new-decoder.result.bytes _ _ _ _ _ c.read_file.new.decoder c.read_file.result input are file
    (ap (λ (v : Seen). v.bytes) c.new-decoder.ensures)
    (c.read_file.ensures.read [] come)

pub returns-clause-exact : goal.returns-clause-exact
returns-clause-exact g c =
    let come = subst (λ (v : Seen). HasCome {A = Global} [] (at_header []) v.bytes) (sym c.new-decoder.ensures) (no_file_yet Global) in
    reads_one c.new-decoder.result.bytes _ _ _ _ _ c.read_file.new.decoder c.read_file.result (ap (λ (v : Seen). v.bytes) c.new-decoder.ensures)
    c.read_file.ensures.viable
    (c.read_file.ensures.read [] come)
