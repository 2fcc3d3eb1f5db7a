use Rattle.fit_profile.proofs.Common.{sym, shown}
use Rattle.fit_profile.proofs.SliceReads.{read_at, none_at, no_dev_fields_shown, no_dev_shown, no_code_shown, no_dev_items_shown, dev_shown}
use Rattle.fit_profile.proofs.message.Message.dev.Goals as goal

pub returns-in_err-fields : goal.returns-in_err-fields
returns-in_err-fields g c = rw c.from_residual.ensures (sym (no_dev_fields_shown (shown c.args.self.now) c.args.place (sym c.in_err-fields.ensures.value)))

pub returns-in_err-field : goal.returns-in_err-field
returns-in_err-field g c =
    let none = rw c.as_slice.ensures at (none_at c.as_slice.result.now c.args.place c.in_err-field.ensures.lookup.0) in
    rw c.from_residual-in_err-field.ensures (sym (no_dev_shown (shown c.args.self.now) c.args.place _ (sym c.in_ok-fields.ensures.value) none))

pub returns-in_err-code : goal.returns-in_err-code
returns-in_err-code g c =
    let f = rw c.as_slice.ensures at (read_at c.as_slice.result.now c.args.place _ c.in_ok-field.ensures.lookup.0 c.in_ok-field.ensures.lookup.1) in
    let none = rw c.as_slice-2.ensures at (none_at c.as_slice-2.result.now c.args.place c.in_err-code.ensures.lookup.0) in
    rw c.from_residual-in_err-code.ensures (sym (no_code_shown (shown c.args.self.now) c.args.place _ _ (sym c.in_ok-fields.ensures.value) f none))

pub returns-in_err-items : goal.returns-in_err-items
returns-in_err-items g c =
    let f = rw c.as_slice.ensures at (read_at c.as_slice.result.now c.args.place _ c.in_ok-field.ensures.lookup.0 c.in_ok-field.ensures.lookup.1) in
    let code = rw c.as_slice-2.ensures at (read_at c.as_slice-2.result.now c.args.place _ c.in_ok-code.ensures.lookup.0 c.in_ok-code.ensures.lookup.1) in
    let none = rw c.as_slice-3.ensures at (none_at c.as_slice-3.result.now c.args.place c.in_err-items.ensures.lookup.0) in
    rw c.from_residual-in_err-items.ensures (sym (no_dev_items_shown (shown c.args.self.now) c.args.place _ _ _ (sym c.in_ok-fields.ensures.value) f code none))

pub returns : goal.returns
returns g c =
    let f = rw c.as_slice.ensures at (read_at c.as_slice.result.now c.args.place _ c.in_ok-field.ensures.lookup.0 c.in_ok-field.ensures.lookup.1) in
    let code = rw c.as_slice-2.ensures at (read_at c.as_slice-2.result.now c.args.place _ c.in_ok-code.ensures.lookup.0 c.in_ok-code.ensures.lookup.1) in
    let i = rw c.as_slice-3.ensures at (read_at c.as_slice-3.result.now c.args.place _ c.in_ok-items.ensures.lookup.0 c.in_ok-items.ensures.lookup.1) in
    sym (dev_shown (shown c.args.self.now) c.args.place _ _ _ _ (sym c.in_ok-fields.ensures.value) f code i)
