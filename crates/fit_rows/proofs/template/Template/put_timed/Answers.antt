use Rattle.fit_rows.proofs.Common.{◌∙◌, ◌++◌, [], ap, and_sheet, message_label, instant_text, optional_number, MessageKey, two_cells}
use Rattle.std.proofs.Common.{codes, decimal}
use Rattle.std.specs.Prelude.{option_map, unwrap_or}
use Rattle.fit_rows.proofs.FramedRows.{data_parts}
use Rattle.fit_texts.proofs.Sheets.{more_written, none_written}
use Rattle.fit_rows.proofs.template.Template.put_timed.Goals as goal

pub returns-clause-rows : goal.returns-clause-rows
returns-clause-rows c =
    let key : MessageKey = c.args.self.now in
    let old = c.args.text.now.items in
    let number = optional_number c.args.offset in
    let time = unwrap_or (option_map instant_text c.args.time) [] in
    let front = c.self.invariant.1 ∙ ap (λ (k : MessageKey). two_cells (codes "data") (decimal k.own.local)) c.self.view_is in
    let label = c.self.invariant.2 ∙ ap (λ (k : MessageKey). two_cells [] (message_label k.own.global)) c.self.view_is in
    let first = c.in_ok-before.ensures.text ∙ ap (λ t. t ++ c.self.inside.front) (none_written old c.args.sheet.now) ∙ ap (λ t. old ++ t) front in
    let second = more_written c.add.new.text.items c.add.new.sheet c.write_optional-numbered.new.sheet number c.in_ok-before.before
    c.write_optional-numbered.result c.write_optional-numbered.ensures.text ∙ ap (λ t. t ++ number) first in
    let third = c.in_ok-labelled.ensures.text
    ∙ ap (λ t. and_sheet c.add.new.text.items c.write_optional-numbered.new.sheet c.write_optional-numbered.result ++ t) label
    ∙ ap (λ t. t ++ two_cells [] (message_label key.own.global)) second in
    let fourth = c.in_ok-timed.ensures.text ∙ ap (λ t. t ++ time) third in
    more_written c.add_cell.new.text.items c.add_cell.new.sheet c.write_text.new.bytes (codes ",,\n") c.in_ok-timed.timed c.write_text.result
    c.write_text.ensures.text
    ∙ ap (λ t. t ++ codes ",,\n") fourth
    ∙ data_parts key.own.local c.args.offset (message_label key.own.global) time old c.add_cell.ensures.plain
