use Rattle.fit_cells.proofs.Common.{◌≡◌, ◌∙◌, ◌<◌, ◌++◌, length, take, sym, ap, subst, arith, cond}
use Rattle.fit_cells.proofs.Common.{take_rest, before_closing_zeros, bytes_text, is_plain, on_err_always, StillBegins}
use Rattle.fit_cells.proofs.TextParts.{text_before, text_after}
use Rattle.std.proofs.lemmas.List.Elements.{All-take}
use Rattle.std.proofs.lemmas.Result.{on_ok_weaker}
use Rattle.std.specs.Result.{OnErr}
use Rattle.fit_cells.proofs.strings.put_string.Goals as goal

pub put_text-requires : goal.put_text-requires
put_text-requires c = All-take (λ b. b < 256) c.text_len.result c.args.bytes.now c.requires

pub returns-in_err-put_text-clause-kept : goal.returns-in_err-put_text-clause-kept
returns-in_err-put_text-clause-kept c = on_err_always c.from_residual.result _ c.in_err-put_text.ensures.kept

pub returns-then-is_plain-clause-ok : goal.returns-then-is_plain-clause-ok
returns-then-is_plain-clause-ok c =
    let old = c.args.text.now.items in
    let end : c.len-start.result ≡ length old = omega (arith, c.len-start.ensures, c.args.text.now.ok.0) in
    let bytes = c.args.bytes.now in
    let shown = before_closing_zeros bytes in
    let put = c.in_ok-put_text.ensures.ok ∙ ap (λ l. old ++ l) c.text_len.ensures.before in
    let part = take_rest c.as_slice.result.now c.len-start.result
    ∙ text_after old shown c.as_slice.result.now c.len-start.result (c.as_slice.ensures.value ∙ put) end in
    let plain = sym (ap is_plain part) ∙ sym c.is_plain.ensures ∙ c.if-is_plain.true in
    put ∙ ap (λ b. old ++ cond b shown (bytes_text bytes)) (sym plain)

pub returns-clause-ok : goal.returns-clause-ok
returns-clause-ok c =
    let old = c.args.text.now.items in
    let end : c.len-start.result ≡ length old = omega (arith, c.len-start.ensures, c.args.text.now.ok.0) in
    let bytes = c.args.bytes.now in
    let shown = before_closing_zeros bytes in
    let put = c.in_ok-put_text.ensures.ok ∙ ap (λ l. old ++ l) c.text_len.ensures.before in
    let part = take_rest c.as_slice.result.now c.len-start.result
    ∙ text_after old shown c.as_slice.result.now c.len-start.result (c.as_slice.ensures.value ∙ put) end in
    let other = sym (ap is_plain part) ∙ sym c.is_plain.ensures ∙ c.if-is_plain.false in
    let back = c.truncate.ensures.items ∙ text_before old shown c.put_text.new.text.items c.len-start.result put end in
    on_ok_weaker c.put_bytes.result (λ written.
    written ∙ ap (λ t. t ++ bytes_text bytes) back ∙ ap (λ b. old ++ cond b shown (bytes_text bytes)) (sym other)) c.put_bytes.ensures.ok

pub returns-clause-kept : goal.returns-clause-kept
returns-clause-kept c =
    let old = c.args.text.now.items in
    let end : c.len-start.result ≡ length old = omega (arith, c.len-start.ensures, c.args.text.now.ok.0) in
    let bytes = c.args.bytes.now in
    let back = c.truncate.ensures.items
    ∙ text_before old (take c.text_len.result bytes) c.put_text.new.text.items c.len-start.result c.in_ok-put_text.ensures.ok end in
    subst (λ l. OnErr c.put_bytes.result (StillBegins l c.put_bytes.new.text.items)) back c.put_bytes.ensures.kept
