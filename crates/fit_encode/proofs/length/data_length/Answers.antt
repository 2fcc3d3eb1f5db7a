use Rattle.fit_encode.proofs.Common.{◌≡◌, ◌∙◌, refl, take, take_all, length, sym, ap, subst, arith, Environment, empty_environment, learn, learn_all}
use Rattle.fit_encode.proofs.Common.{records_bytes}
use Rattle.fit_record.specs.Records.{message_size}
use Rattle.fit_record.proofs.SixteenPlaces.{sixteen_places}
use Rattle.fit_encode.proofs.Lengths.{size_within}
use Rattle.fit_encode.proofs.Orders.{AreSizes, none_known, sizes_next, sizes_long}
use Rattle.fit_encode.proofs.RecordSteps.{next_known}
use Rattle.fit_encode.proofs.Spellable.{spellable, fits_at}
use Rattle.fit_encode.proofs.length.data_length.Goals as goal

pub loop-r-init : goal.loop-r-init
loop-r-init g c = record { total = refl; sizes_long = refl; sizes = none_known {A = g.row.A.Denot} message_size 0 }

pub size_in-requires : goal.size_in-requires
size_in-requires g c =
    let i = c.loop-r.r-index in
    spellable (learn_all {A = g.row.A.Denot} empty_environment (take i c.args.records.now)) c.r-item.result
    (fits_at empty_environment c.args.records.now i c.r-item.result c.loop-r-test.true c.r-item.is c.requires.fit)

pub overflow_cast-length : goal.overflow_cast-length
overflow_cast-length g c =
    let inv = c.loop-r.invariant in
    let within = size_within c.args.records.now c.loop-r.r-index c.r-item.result c.loop-r.sizes c.loop-r.length c.size_in.result c.loop-r-test.true c.r-item.is
    c.requires.fit inv.sizes c.requires.small inv.total c.size_in.ensures in
    omega (arith, within.0)

pub overflow_add-length : goal.overflow_add-length
overflow_add-length g c =
    let inv = c.loop-r.invariant in
    let within = size_within c.args.records.now c.loop-r.r-index c.r-item.result c.loop-r.sizes c.loop-r.length c.size_in.result c.loop-r-test.true c.r-item.is
    c.requires.fit inv.sizes c.requires.small inv.total c.size_in.ensures in
    omega (arith, within.0)

pub note_size-requires : goal.note_size-requires
note_size-requires g c =
    let i = c.loop-r.r-index in
    spellable (learn_all {A = g.row.A.Denot} empty_environment (take i c.args.records.now)) c.r-item.result
    (fits_at empty_environment c.args.records.now i c.r-item.result c.loop-r-test.true c.r-item.is c.requires.fit)

pub loop-r-preserved : goal.loop-r-preserved
loop-r-preserved g c =
    let rs = c.args.records.now in
    let i = c.loop-r.r-index in
    let r = c.r-item.result in
    let inv = c.loop-r.invariant in
    let e = learn_all {A = g.row.A.Denot} empty_environment (take i rs) in
    let within = size_within rs i r c.loop-r.sizes c.loop-r.length c.size_in.result c.loop-r-test.true c.r-item.is c.requires.fit inv.sizes
    c.requires.small inv.total
    c.size_in.ensures in
    let sizes = sizes_next e c.loop-r.sizes r (fits_at empty_environment rs i r c.loop-r-test.true c.r-item.is c.requires.fit) (sixteen_places (take i rs))
    inv.sizes_long inv.sizes in
    record {
      total = within.1;
      sizes_long = ap length c.note_size.ensures ∙ sizes_long c.loop-r.sizes r ∙ inv.sizes_long;
      sizes = subst (λ (x : Environment g.row.A.Denot). AreSizes x c.note_size.new.sizes) (next_known empty_environment rs i r c.loop-r-test.true c.r-item.is)
          (subst (AreSizes (learn e r)) (sym c.note_size.ensures) sizes);
    }

pub returns : goal.returns
returns g c =
    let all : take c.loop-r.r-index c.args.records.now ≡ c.args.records.now = take_all c.loop-r.r-index c.args.records.now c.loop-r-test.false in
    c.loop-r.invariant.total ∙ ap (λ x. length (records_bytes {A = g.row.A.Denot} empty_environment x)) all
