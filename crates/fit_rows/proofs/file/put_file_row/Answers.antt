use Rattle.fit_rows.proofs.Common.{◌∙◌, ◌++◌, ◌∷◌, [], ap, append_assoc, default_writer, fields_text, refl, sym}
use Rattle.std.proofs.Common.{ℕ, List, codes, decimal}
use Rattle.fit_texts.specs.Words.{rest_text, sum_word}
use Rattle.fit_texts.proofs.AddedCells.{last_cells, more_cells}
use Rattle.fit_rows.proofs.file.put_file_row.Goals as goal

pub returns : goal.returns
unfolding fields_text
returns c =
    let h = c.args.header.now in
    let front = c.args.text.now.items ++ codes "file" in
    let size = decimal h.size in
    let protocol = decimal h.protocol in
    let profile = decimal h.profile in
    let word = sum_word h.sum in
    let rest = rest_text h.rest.items in
    let n1 = c.in_ok-add_number.ensures
    ∙ ap (λ n. c.extend_from_slice.new.self.items ++ fields_text default_writer (decimal n ∷ [])) c.from.ensures
    ∙ ap (λ (t : List ℕ). t ++ fields_text default_writer (size ∷ [])) c.in_ok-extend_from_slice.ensures.items in
    let n2 = more_cells front c.add_number.new.text.items c.add_number-2.new.text.items (size ∷ []) (protocol ∷ []) n1
    (c.in_ok-add_number-2.ensures ∙ ap (λ n. c.add_number.new.text.items ++ fields_text default_writer (decimal n ∷ [])) c.from-2.ensures) in
    let n3 = more_cells front c.add_number-2.new.text.items c.add_number-3.new.text.items (size ∷ protocol ∷ []) (profile ∷ []) n2
    (c.in_ok-add_number-3.ensures ∙ ap (λ n. c.add_number-2.new.text.items ++ fields_text default_writer (decimal n ∷ [])) c.from-3.ensures) in
    let n4 = more_cells front c.add_number-3.new.text.items c.add_word.new.text.items (size ∷ protocol ∷ profile ∷ []) (word ∷ []) n3
    (c.in_ok-add_word.ensures ∙ ap (λ w. c.add_number-3.new.text.items ++ fields_text default_writer (w ∷ [])) c.sum_word.ensures) in
    let n5 = more_cells front c.add_word.new.text.items c.add_cell.new.text.items (size ∷ protocol ∷ profile ∷ word ∷ []) (rest ∷ []) n4
    (c.in_ok-add_cell.ensures
    ∙ ap (λ w. c.add_word.new.text.items ++ fields_text default_writer (w ∷ []))
    (c.as_slice-2.ensures.value ∙ c.in_ok-put_rest.ensures ∙ ap rest_text c.as_slice.ensures.value)) in
    let t = c.add_cell.new.text.items in
    let n6 = more_cells front t (t ++ (44 ∷ [])) (size ∷ protocol ∷ profile ∷ word ∷ rest ∷ []) ([] ∷ []) n5 refl in
    record {
      text = last_cells c.args.text.now.items (t ++ (44 ∷ [])) c.extend_from_slice-2.new.self.items (codes "file") size
          (protocol ∷ profile ∷ word ∷ rest ∷ [] ∷ []) refl n6
          (c.in_ok-extend_from_slice-2.ensures.items ∙ sym (append_assoc t (44 ∷ []) (10 ∷ [])));
    }
