use Rattle.fit_profile.proofs.Common.{sym}
use Rattle.fit_profile.proofs.SliceReads.{read_at, none_at, no_field, no_items, both_found}
use Rattle.fit_profile.proofs.places.at_place.Goals as goal

pub returns-in_err-field : goal.returns-in_err-field
returns-in_err-field g c =
    let none = none_at c.args.fields.now c.args.place c.in_err-field.ensures.lookup.0 in
    rw c.from_residual.ensures (sym (no_field c.args.fields.now c.args.items.now c.args.place none))

pub returns-in_err-items : goal.returns-in_err-items
returns-in_err-items g c =
    let f = read_at c.args.fields.now c.args.place _ c.in_ok-field.ensures.lookup.0 c.in_ok-field.ensures.lookup.1 in
    let none = none_at c.args.items.now c.args.place c.in_err-items.ensures.lookup.0 in
    rw c.from_residual-in_err-items.ensures (sym (no_items c.args.fields.now c.args.items.now c.args.place _ f none))

pub returns : goal.returns
returns g c =
    let f = read_at c.args.fields.now c.args.place _ c.in_ok-field.ensures.lookup.0 c.in_ok-field.ensures.lookup.1 in
    let i = read_at c.args.items.now c.args.place _ c.in_ok-items.ensures.lookup.0 c.in_ok-items.ensures.lookup.1 in
    sym (both_found c.args.fields.now c.args.items.now c.args.place _ _ f i)
