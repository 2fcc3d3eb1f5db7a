use Rattle.fit_shown.proofs.Common.{◌≤◌, ◌∙◌, ◌++◌, length, drop, take, sym, ap, subst, and_sheet, default_writer, field_text, cell, Global}
use Rattle.fit_record.specs.ReadMessages.{field_from, fields_from}
use Rattle.std.proofs.Math.Seq.{length-take-le}
use Rattle.std.proofs.lemmas.Result.{IfOk-weaker}
use Rattle.fit_texts.proofs.ItemFacts.{first_in_bytes}
use Rattle.fit_shown.proofs.items.ItemBytes.put_next.Goals as goal

pub split_at-requires : goal.split_at-requires
split_at-requires c =
    subst (λ n. n ≤ length c.args.self.now.rest.now) (sym c.size.ensures)
    (first_in_bytes (c.args.frame.now.code, c.args.frame.now.size) c.requires.fields.0 c.args.self.now.rest.now c.requires.fields.2.0).0

pub put_bytes-requires-clause-length : goal.put_bytes-requires-clause-length
put_bytes-requires-clause-length c =
    let bytes = c.args.self.now.rest.now in
    let size = c.args.frame.now.size in
    ap length c.split_at.ensures.front ∙ ap (λ n. length (take n bytes)) c.size.ensures
    ∙ length-take-le size bytes (first_in_bytes (c.args.frame.now.code, size) c.requires.fields.0 bytes c.requires.fields.2.0).0

pub returns-clause-fields : goal.returns-clause-fields
returns-clause-fields c = IfOk-weaker c.put_bytes.result _ _ (λ end put more items have.
    let bytes = c.args.self.now.rest.now in
    let order = c.args.self.now.order in
    let code = c.args.frame.now.code in
    let size = c.args.frame.now.size in
    let before = and_sheet c.args.text.now.items c.args.sheet.now c.args.at ++ c.args.frame.now.between in
    let beyond = c.split_at.ensures.back ∙ ap (λ n. drop n bytes) c.size.ensures in (
      field_from order (code, size) (take size bytes),
      fields_from order more (drop size bytes),
      have.1,
      (ap length beyond ∙ (first_in_bytes (code, size) more bytes have.0).1, sym (ap (fields_from order more) beyond)),
      put ∙ ap (λ b. before ++ field_text default_writer (cell code c.args.frame.now.info (field_from {A = Global} order (code, size) b)))
          (c.split_at.ensures.front ∙ ap (λ n. take n bytes) c.size.ensures),
    )) c.put_bytes.ensures.text
