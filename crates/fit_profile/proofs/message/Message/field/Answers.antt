use Rattle.fit_profile.proofs.Common.{sym, shown}
use Rattle.fit_profile.proofs.SliceReads.{read_at, none_at, no_field_shown, no_items_shown, field_shown}
use Rattle.fit_profile.proofs.message.Message.field.Goals as goal

pub returns-in_err-field : goal.returns-in_err-field
returns-in_err-field g c =
    let none = rw c.as_slice.ensures at (none_at c.as_slice.result.now c.args.place c.in_err-field.ensures.lookup.0) in
    rw c.from_residual.ensures (sym (no_field_shown (shown c.args.self.now) c.args.place none))

pub returns-in_err-items : goal.returns-in_err-items
returns-in_err-items g c =
    let f = rw c.as_slice.ensures at (read_at c.as_slice.result.now c.args.place _ c.in_ok-field.ensures.lookup.0 c.in_ok-field.ensures.lookup.1) in
    let none = rw c.as_slice-2.ensures at (none_at c.as_slice-2.result.now c.args.place c.in_err-items.ensures.lookup.0) in
    rw c.from_residual-in_err-items.ensures (sym (no_items_shown (shown c.args.self.now) c.args.place _ f none))

pub returns : goal.returns
returns g c =
    let f = rw c.as_slice.ensures at (read_at c.as_slice.result.now c.args.place _ c.in_ok-field.ensures.lookup.0 c.in_ok-field.ensures.lookup.1) in
    let i = rw c.as_slice-2.ensures at (read_at c.as_slice-2.result.now c.args.place _ c.in_ok-items.ensures.lookup.0 c.in_ok-items.ensures.lookup.1) in
    sym (field_shown (shown c.args.self.now) c.args.place _ _ f i)
