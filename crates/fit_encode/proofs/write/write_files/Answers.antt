use Rattle.fit_encode.proofs.Common.{◌<◌, List, length, sym, ap, ◌∙◌, subst, arith, err_from_is_err_and, Record, refl, flat_map}
use Rattle.fit_encode.proofs.Common.{take_all, file_bytes, Appends-nil}
use Rattle.fit_encode.proofs.Common.{empty_environment, AllFit, records_bytes}
use Rattle.fit_encode.proofs.Common.{IsWellFormed}
use Rattle.fit_encode.proofs.OneOfAll.{each_at}
use Rattle.fit_encode.proofs.Sendings.{Appends-as}
use Rattle.fit_encode.proofs.FilesPut.{chain_stops, one_more_put}
use Rattle.fit_encode.proofs.write.write_files.Goals as goal

pub data_length-requires-clause-fit : goal.data_length-requires-clause-fit
data_length-requires-clause-fit g c =
    let good : IsWellFormed {A = g.row.A.Denot} c.file-item.result =
    each_at IsWellFormed c.args.files.now c.loop-file.file-index c.file-item.result c.loop-file-test.true c.file-item.is c.requires.each in
    subst (AllFit {A = g.row.A.Denot} empty_environment) (sym c.as_slice.ensures) good.records

pub data_length-requires-clause-small : goal.data_length-requires-clause-small
data_length-requires-clause-small g c =
    let good : IsWellFormed {A = g.row.A.Denot} c.file-item.result =
    each_at IsWellFormed c.args.files.now c.loop-file.file-index c.file-item.result c.loop-file-test.true c.file-item.is c.requires.each in
    let same = ap (λ (rs : List (Record g.row.A.Denot)). length (records_bytes empty_environment rs)) c.as_slice.ensures in
    omega (arith, same, good.header.data_fits)

pub write_file-requires-clause-size : goal.write_file-requires-clause-size
write_file-requires-clause-size g c =
    c.data_length.ensures ∙ ap (λ (rs : List (Record g.row.A.Denot)). length (records_bytes empty_environment rs)) c.as_slice.ensures

pub returns-in_err-count-clause-err : goal.returns-in_err-count-clause-err
returns-in_err-count-clause-err g c =
    let p = err_from_is_err_and c.from_residual.result c.from_residual.ensures.1 in
    rw (p.1, p.2) (chain_stops _ _ _ c.args.files.now c.loop-file.file-index c.loop-file.count c.file-item.result c.loop-file-test.true c.file-item.is
    c.loop-file.invariant c.requires c.in_err-count.ensures)

pub loop-file-preserved : goal.loop-file-preserved
loop-file-preserved g c =
    one_more_put _ _ _ c.args.files.now c.loop-file.file-index c.loop-file.count c.file-item.result c.loop-file-test.true c.file-item.is c.loop-file.invariant
    c.in_ok-count.count c.in_ok-count.ensures

pub returns-clause-works : goal.returns-clause-works
returns-clause-works g c = c.loop-file.invariant.works (omega (arith, c.requires.some))

pub returns-in_err-count-clause-ok : goal.returns-in_err-count-clause-ok
returns-in_err-count-clause-ok g c = let p = err_from_is_err_and c.from_residual.result c.from_residual.ensures.1 in rw p.1 tt

pub returns-in_err-count-clause-works : goal.returns-in_err-count-clause-works
returns-in_err-count-clause-works g c = let p = err_from_is_err_and c.from_residual.result c.from_residual.ensures.1 in rw p.1 tt

pub loop-file-init : goal.loop-file-init
loop-file-init g c = record {
  appended = Appends-nil (g.K.Sink.contents c.args.sink.now);
  total = λ _. refl;
  works = λ some. absurd (let none : 0 < 0 = some in omega arith);
}

pub write_file-requires-clause-good : goal.write_file-requires-clause-good
write_file-requires-clause-good g c =
    each_at IsWellFormed c.args.files.now c.loop-file.file-index c.file-item.result c.loop-file-test.true c.file-item.is c.requires.each

pub returns-clause-ok : goal.returns-clause-ok
returns-clause-ok g c =
    let all = take_all c.loop-file.file-index c.args.files.now c.loop-file-test.false in
    Appends-as _ _ (ap (flat_map (file_bytes {A = g.row.A.Denot})) all) c.loop-file.invariant.appended

pub returns-clause-err : goal.returns-clause-err
returns-clause-err g c = tt
