use Rattle.fit_encode.proofs.Common.{sym, ap, subst, HeaderFits, header_bytes, empty_environment, AllFit, records_bytes}
use Rattle.fit_encode.proofs.FilesPut.{data_breaks, file_put, head_breaks, sum_breaks}
use Rattle.fit_encode.proofs.Sendings.{PutsAll-err}
use Rattle.fit_encode.proofs.write.write_file.Goals as goal

pub spell_head-requires : goal.spell_head-requires
spell_head-requires g c = subst (HeaderFits c.args.file.now.header) (sym c.requires.size) c.requires.good.header

pub spell_records-requires : goal.spell_records-requires
spell_records-requires g c = subst (AllFit {A = g.row.A.Denot} empty_environment) (sym c.as_slice.ensures) c.requires.good.records

pub returns-in_err-spell_head : goal.returns-in_err-spell_head
returns-in_err-spell_head g c =
    PutsAll-err _ _ _ _ c.from_residual.result c.from_residual.ensures.1
    (head_breaks c.args.file.now c.begin.ensures (ap (header_bytes c.args.file.now.header) c.requires.size) c.in_err-spell_head.ensures)

pub returns-in_err-spell_records : goal.returns-in_err-spell_records
returns-in_err-spell_records g c =
    let f = c.args.file.now in
    PutsAll-err _ _ _ _ c.from_residual-in_err-spell_records.result c.from_residual-in_err-spell_records.ensures.1
    (data_breaks f c.begin.ensures (ap (header_bytes f.header) c.requires.size) c.in_ok-spell_head.ensures
    (ap (records_bytes {A = g.row.A.Denot} empty_environment) c.as_slice.ensures) c.in_err-spell_records.ensures)

pub returns-in_err-end : goal.returns-in_err-end
returns-in_err-end g c =
    let f = c.args.file.now in
    PutsAll-err _ _ _ _ c.from_residual-in_err-end.result c.from_residual-in_err-end.ensures.1
    (sum_breaks f c.begin.ensures (ap (header_bytes f.header) c.requires.size) c.in_ok-spell_head.ensures
    (ap (records_bytes {A = g.row.A.Denot} empty_environment) c.as_slice.ensures) c.in_ok-spell_records.ensures c.in_err-end.ensures.sends)

pub returns : goal.returns
returns g c =
    let f = c.args.file.now in
    file_put f c.begin.ensures (ap (header_bytes f.header) c.requires.size) c.in_ok-spell_head.ensures
    (ap (records_bytes {A = g.row.A.Denot} empty_environment) c.as_slice.ensures) c.in_ok-spell_records.ensures c.count.result c.in_ok-end.ensures.sends
    c.in_ok-end.ensures.empty c.count.ensures
