use Rattle.fit_texts.proofs.Common.{◌≡◌, ◌∙◌, ap, sym, arith, subst}
use Rattle.std.specs.Str.{IsUtf8}
use Rattle.std.proofs.lemmas.Fmt.{parse-decimal, IsAscii-decimal}
use Rattle.std.specs.Prelude.{Ok, decimal}
use Rattle.std.specs.Result.{result_unwrap_or}
use Rattle.std.proofs.lemmas.Str.{IsUtf8-from_ascii}
use Rattle.fit_texts.proofs.cells.number_in.Goals as goal

pub returns-in-Ok : goal.returns-in-Ok
returns-in-Ok c n small shows =
    let read : c.parse.result ≡ Ok n = parse-decimal 16 n c.in-Ok.text.now c.parse.result small (omega arith) (c.in-Ok.ensures.cases.0 ∙ sym shows)
    c.parse.ensures.value.0 in
    c.unwrap_or.ensures ∙ ap (λ r. result_unwrap_or r 0) read

pub returns-in-Err : goal.returns-in-Err
returns-in-Err c n small shows =
    absurd (c.in-Err.ensures.cases.0 (subst (λ text. IsUtf8 text) shows (IsUtf8-from_ascii (decimal n) (IsAscii-decimal n (omega arith)))))
