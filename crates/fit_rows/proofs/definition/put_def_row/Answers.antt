use Rattle.fit_rows.proofs.Common.{◌∙◌, ◌++◌, ◌∷◌, [], ap, default_writer, dev_count, fields_text, length, order_word}
use Rattle.std.proofs.Common.{ℕ, List, codes, decimal, refl}
use Rattle.fit_texts.proofs.AddedCells.{last_cells, more_cells}
use Rattle.fit_rows.proofs.definition.put_def_row.Goals as goal

pub returns : goal.returns
returns c =
    let d = c.args.definition.now in
    let front = c.args.text.now.items ++ codes "def" in
    let local = decimal d.local in
    let reserved = decimal d.reserved in
    let order = order_word d.order in
    let global = decimal d.global in
    let fields = decimal (length d.fields) in
    let dev = dev_count d.dev in
    let n1 = c.in_ok-add_byte.ensures ∙ ap (λ (t : List ℕ). t ++ fields_text default_writer (local ∷ [])) c.in_ok-extend_from_slice.ensures.items in
    let n2 = more_cells front c.add_byte.new.text.items c.add_byte-2.new.text.items (local ∷ []) (reserved ∷ []) n1 c.in_ok-add_byte-2.ensures in
    let n3 = more_cells front c.add_byte-2.new.text.items c.add_word.new.text.items (local ∷ reserved ∷ []) (order ∷ []) n2
    (c.in_ok-add_word.ensures ∙ ap (λ w. c.add_byte-2.new.text.items ++ fields_text default_writer (w ∷ [])) c.order_word.ensures) in
    let n4 = more_cells front c.add_word.new.text.items c.add_number.new.text.items (local ∷ reserved ∷ order ∷ []) (global ∷ []) n3
    (c.in_ok-add_number.ensures ∙ ap (λ n. c.add_word.new.text.items ++ fields_text default_writer (decimal n ∷ [])) c.from.ensures) in
    let n5 = more_cells front c.add_number.new.text.items c.add_number-2.new.text.items (local ∷ reserved ∷ order ∷ global ∷ []) (fields ∷ []) n4
    (c.in_ok-add_number-2.ensures ∙ ap (λ n. c.add_number.new.text.items ++ fields_text default_writer (decimal n ∷ [])) c.len.ensures) in
    let n6 = more_cells front c.add_number-2.new.text.items c.add_dev_count.new.text.items (local ∷ reserved ∷ order ∷ global ∷ fields ∷ []) (dev ∷ []) n5
    c.in_ok-add_dev_count.ensures in
    record {
      text = last_cells c.args.text.now.items c.add_dev_count.new.text.items c.push.new.self.items (codes "def") local
          (reserved ∷ order ∷ global ∷ fields ∷ dev ∷ []) refl n6 c.in_ok-push.ensures.items;
    }
