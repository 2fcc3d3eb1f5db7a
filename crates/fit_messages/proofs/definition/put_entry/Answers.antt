use Rattle.std.proofs.Common.{◌≡◌, ◌∙◌, ◌+◌, ◌++◌, ap, arith, length}
use Rattle.std.proofs.lemmas.List.{length-append}
use Rattle.std.proofs.lemmas.Result.{on_ok_weaker}
use Rattle.fit_messages.specs.Blocks.{kind_bytes, scale_bytes, text}
unfoldable use Rattle.fit_messages.specs.Blocks.{low}
use Rattle.fit_messages.specs.inner.Columns.{said}
use Rattle.fit_messages.proofs.ByteFacts.{after, put_ok}
use Rattle.fit_messages.proofs.definition.put_entry.Goals as goal

pub returns : goal.returns
unfolding low
returns c =
    let name = text c.args.column.name.now in
    let unit = text c.args.column.unit.now in
    let texts = c.in_ok-unit.ensures.texts in
    let old = c.args.bytes.now.items in
    let b1 = c.put_number.new.bytes.items in
    let b2 = c.put_number-2.new.bytes.items in
    let b3 = c.put_kind.new.bytes.items in
    let b4 = c.put_scale.new.bytes.items in
    let new = c.extend_from_slice.new.self.items in
    let size : 32 + c.len.result ≡ 32 + length name + length unit = omega (arith, c.len.ensures, ap length texts, length-append name unit) in
    let first = c.in_ok-put_number.ensures ∙ ap (λ k. old ++ low 2 k) size in
    let second = c.in_ok-put_number-2.ensures ∙ ap (λ k. b1 ++ low 2 (32 + k)) c.in_ok-unit.ensures.unit in
    on_ok_weaker c.extend_from_slice.result (λ put.
    after old (low 2 (32 + length name + length unit)) _ b1 new first
    (after b1 (low 2 (32 + length name)) _ b2 new second
    (after b2 (kind_bytes (said c.args.column)) _ b3 new c.in_ok-put_kind.ensures
    (after b3 (scale_bytes c.args.at (said c.args.column)) (name ++ unit) b4 new c.in_ok-put_scale.ensures put))))
    (put_ok c.extend_from_slice.result b4 new c.as_slice.result.now (name ++ unit) c.extend_from_slice.ensures.items (c.as_slice.ensures.value ∙ texts))
