use Rattle.fit_encode.proofs.Common.{◌++◌, [], ◌∷◌, ap, flat_map, items_bytes, data_header}
use Rattle.fit_encode.proofs.Sendings.{Breaks-more, Breaks-on, Breaks-as, Spells-on, Spells-as, Sends-on, Sends-err}
use Rattle.fit_encode.proofs.message.spell_values.Goals as goal

pub returns-in_err-bytes : goal.returns-in_err-bytes
returns-in_err-bytes g c =
    let v = c.args.v.now in
    let f = items_bytes {A = g.row.A.Denot} c.args.order in
    let head = Breaks-as (ap (λ n. n ∷ []) c.data_header.ensures) c.in_err-bytes.ensures in
    Sends-err _ _ _ _ _ c.from_residual.result c.from_residual.ensures.1 (Breaks-more (flat_map f v.dev) (Breaks-more (flat_map f v.fields) head))

pub returns-in_err-spell_lists : goal.returns-in_err-spell_lists
returns-in_err-spell_lists g c =
    let v = c.args.v.now in
    let f = items_bytes {A = g.row.A.Denot} c.args.order in
    let head = Spells-as (ap (λ n. n ∷ []) c.data_header.ensures) c.in_ok-bytes.ensures in
    let fields = Breaks-as (ap (flat_map f) c.as_slice.ensures) c.in_err-spell_lists.ensures in
    Sends-err _ _ _ _ _ c.from_residual-in_err-spell_lists.result c.from_residual-in_err-spell_lists.ensures.1
    (Breaks-more (flat_map f v.dev) (Breaks-on head fields))

pub returns : goal.returns
returns g c =
    let f = items_bytes {A = g.row.A.Denot} c.args.order in
    let head = Spells-as (ap (λ n. n ∷ []) c.data_header.ensures) c.in_ok-bytes.ensures in
    let fields = Spells-as (ap (flat_map f) c.as_slice.ensures) c.in_ok-spell_lists.ensures in
    let joined = ap (λ y. (data_header c.args.v.now.local c.args.v.now.offset ∷ flat_map f c.args.v.now.fields) ++ flat_map f y) c.as_slice-2.ensures in
    Sends-on _ _ _ _ _ _ _ (flat_map f c.as_slice-2.result.now) _ c.spell_lists-2.result
    joined (Spells-on head fields) c.spell_lists-2.ensures
