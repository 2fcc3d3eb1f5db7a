use Rattle.fit_cells.proofs.Common.{◌≡◌, ◌∙◌, ◌<◌, ℕ, length, drop, get_or, sym, ap, IfOk-weaker, read_pairs}
use Rattle.fit_cells.proofs.ItemFacts.{both-ok}
use Rattle.fit_cells.proofs.ReadFacts.{length-pairs}
use Rattle.fit_cells.proofs.StringFacts.{string-bytes, string-plain}
use Rattle.fit_cells.proofs.strings.read_string.Goals as goal

pub returns-then-begins_as_bytes-clause-count : goal.returns-then-begins_as_bytes-clause-count
returns-then-begins_as_bytes-clause-count c =
    IfOk-weaker c.read_bytes.result (λ bits. bits ≡ read_pairs c.args.count (drop 2 c.args.text.now)) _
    (λ bits e. ap length e ∙ length-pairs c.args.count (drop 2 c.args.text.now)) c.read_bytes.ensures.value

pub returns-then-begins_as_bytes-clause-every : goal.returns-then-begins_as_bytes-clause-every
returns-then-begins_as_bytes-clause-every c =
    IfOk-weaker c.read_bytes.result (λ bits. bits ≡ read_pairs c.args.count (drop 2 c.args.text.now)) _
    (λ bits e bytes long small shows. e ∙ string-bytes bytes c.args.text.now c.args.count shows (sym c.begins_as_bytes.ensures ∙ c.if-begins_as_bytes.true) long
    small) c.read_bytes.ensures.value

pub returns-else-begins_as_bytes-clause-every : goal.returns-else-begins_as_bytes-clause-every
returns-else-begins_as_bytes-clause-every c =
    IfOk-weaker c.read_text.result (λ bits. (length bits ≡ c.args.count) × ((k : ℕ) → k < c.args.count → get_or bits k 0 ≡ get_or c.args.text.now k 0)) _
    (λ bits both bytes long small shows. string-plain bytes c.args.text.now bits c.args.count shows (sym c.begins_as_bytes.ensures ∙ c.if-begins_as_bytes.false)
    both.0 long both.1)
    (both-ok c.read_text.result _ _ c.read_text.ensures.count c.read_text.ensures.value)
