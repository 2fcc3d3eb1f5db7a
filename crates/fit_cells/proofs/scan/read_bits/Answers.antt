use Rattle.fit_cells.proofs.Common.{◌≡◌, ◌∙◌, ◌<◌, ◌^◌, ℕ, List, All, length, drop, map, sym, ap, subst, option_map, IfOk-weaker, Bytes, Text}
use Rattle.fit_cells.proofs.Common.{base_type, meaning, barred, class_of, item_text, items_text, read_pairs, string_text}
use Rattle.fit_cells.proofs.ClassFacts.{bytes_width, own_width, side_by_side, text_width}
use Rattle.fit_cells.proofs.ReadFacts.{bytes-shown, length-pairs}
use Rattle.fit_cells.proofs.scan.read_bits.Goals as goal

pub returns-in-Bytes-clause-count : goal.returns-in-Bytes-clause-count
returns-in-Bytes-clause-count c =
    IfOk-weaker c.read_bytes.result (λ bits. bits ≡ read_pairs c.args.count (drop 2 c.as_bytes-in-Bytes.result.now)) _
    (λ bits e. ap length e ∙ length-pairs c.args.count (drop 2 c.as_bytes-in-Bytes.result.now)) c.read_bytes.ensures.value

pub returns-in-Bytes-clause-every : goal.returns-in-Bytes-clause-every
returns-in-Bytes-clause-every c =
    let is : class_of c.args.code.0 c.args.width ≡ Bytes = sym c.class_of.ensures ∙ c.in-Bytes.is in
    let one : c.args.width ≡ 1 = bytes_width c.args.code.0 c.args.width c.requires.width is in
    IfOk-weaker c.read_bytes.result (λ bits. bits ≡ read_pairs c.args.count (drop 2 c.as_bytes-in-Bytes.result.now)) _
    (λ bits e numbers long small shows.
    e ∙ bytes-shown numbers c.as_bytes-in-Bytes.result.now c.args.count
    (c.as_bytes-in-Bytes.ensures.value ∙ shows ∙ ap (λ k. items_text k c.args.code.0 (option_map meaning c.args.info) c.args.width numbers) is) long
    (subst (λ w. All (λ n. n < 256 ^ w) numbers) one small)) c.read_bytes.ensures.value

pub returns-in_default : goal.returns-in_default
returns-in_default c =
    let own : c.args.width ≡ (base_type c.args.code.0).width = own_width c.args.code.0 c.args.width (λ e. c.in_default.not-Bytes (c.class_of.ensures ∙ e)) in
    record {
      count = c.read_items.ensures.count;
      below = IfOk-weaker c.read_items.result (λ bits. All (λ n. n < 256 ^ (base_type c.args.code.0).width) bits) _
          (λ bits h. subst (λ w. All (λ n. n < 256 ^ w) bits) (sym own) h) c.read_items.ensures.below;
      every = IfOk-weaker c.read_items.result
          (λ bits. (numbers : List ℕ) → length numbers ≡ c.args.count → All (λ n. n < 256 ^ (base_type c.args.code.0).width) numbers
          → c.args.text.now ≡ barred (map (item_text c.class_of.result c.args.code.0 (option_map meaning c.args.info) (base_type c.args.code.0).width)
          numbers) → bits ≡ numbers) _
          (λ bits h numbers long small shows. h numbers long (subst (λ w. All (λ n. n < 256 ^ w) numbers) own small)
          (shows ∙ ap (λ k. items_text k c.args.code.0 (option_map meaning c.args.info) c.args.width numbers) (sym c.class_of.ensures)
          ∙ side_by_side c.class_of.result c.args.code.0 (option_map meaning c.args.info) c.args.width numbers c.in_default.not-Text c.in_default.not-Bytes
          ∙ ap (λ w. barred (map (item_text c.class_of.result c.args.code.0 (option_map meaning c.args.info) w) numbers)) own)) c.read_items.ensures.every;
    }

pub returns-in-Text-clause-below : goal.returns-in-Text-clause-below
returns-in-Text-clause-below c =
    let one : c.args.width ≡ 1 = text_width c.args.code.0 c.args.width (sym c.class_of.ensures ∙ c.in-Text.is) in
    IfOk-weaker c.read_string.result (λ bits. All (λ b. b < 256) bits) _ (λ bits h. subst (λ w. All (λ n. n < 256 ^ w) bits) (sym one) h)
    c.read_string.ensures.below

pub returns-in-Text-clause-every : goal.returns-in-Text-clause-every
returns-in-Text-clause-every c =
    let is : class_of c.args.code.0 c.args.width ≡ Text = sym c.class_of.ensures ∙ c.in-Text.is in
    let one : c.args.width ≡ 1 = text_width c.args.code.0 c.args.width is in
    IfOk-weaker c.read_string.result
    (λ bits. (bytes : List ℕ) → length bytes ≡ c.args.count → All (λ b. b < 256) bytes → c.as_bytes.result.now ≡ string_text bytes → bits ≡ bytes) _
    (λ bits h numbers long small shows.
    h numbers long (subst (λ w. All (λ n. n < 256 ^ w) numbers) one small)
    (c.as_bytes.ensures.value ∙ shows ∙ ap (λ k. items_text k c.args.code.0 (option_map meaning c.args.info) c.args.width numbers) is))
    c.read_string.ensures.every

pub returns-in-Bytes-clause-below : goal.returns-in-Bytes-clause-below
returns-in-Bytes-clause-below c =
    let one : c.args.width ≡ 1 = bytes_width c.args.code.0 c.args.width c.requires.width (sym c.class_of.ensures ∙ c.in-Bytes.is) in
    IfOk-weaker c.read_bytes.result (λ bits. All (λ b. b < 256) bits) _ (λ bits h. subst (λ w. All (λ n. n < 256 ^ w) bits) (sym one) h)
    c.read_bytes.ensures.below
