use Rattle.std.proofs.Common.{rules}
use Rattle.fit_texts.proofs.Common.{◌≡◌, ◌∙◌, ◌++◌, ◌∷◌, [], length, false, refl, sym, ap, get_or, take, take_all, take_more, flat_map, hex_digits}
use Rattle.std.proofs.Common.{ℕ, List, codes}
use Rattle.std.proofs.lemmas.List.{append-nil}
use Rattle.std.proofs.lemmas.List.Concat.{flat_map-append}
use Rattle.std.specs.Prelude.{◌==◌}
use Rattle.fit_texts.specs.Words.{rest_text}
use Rattle.fit_texts.proofs.words.put_rest.Goals as goal

some_rest : (rest : List ℕ) → (length rest == 0) ≡ false → rest_text rest ≡ codes "0x" ++ flat_map (λ b. hex_digits 2 b) rest
some_rest [] e = cc
some_rest (b ∷ rest) e = refl

pub loop-byte-preserved : goal.loop-byte-preserved
loop-byte-preserved c =
    let rest = c.args.rest.now in
    let i = c.loop-byte.byte-index in
    let byte = get_or rest i 0 in
    let hex = flat_map (λ b. hex_digits 2 b) in
    c.in_ok-put_digits.ensures.ok ∙ ap (λ l. l ++ hex_digits 2 byte) c.loop-byte.invariant
    ∙ ap (λ l. codes "0x" ++ hex (take i rest) ++ l) (sym (append-nil (hex_digits 2 byte)))
    ∙ ap (λ l. codes "0x" ++ l) (sym (ap hex (take_more rest i 0 c.loop-byte-test.true) ∙ flat_map-append (λ b. hex_digits 2 b) (take i rest) (byte ∷ [])))

pub returns : goal.returns
returns c =
    c.loop-byte.invariant
    ∙ ap (λ l. codes "0x" ++ flat_map (λ b. hex_digits 2 b) l) (take_all c.loop-byte.byte-index c.args.rest.now c.loop-byte-test.false)
    ∙ sym (some_rest c.args.rest.now (sym c.is_empty.ensures ∙ c.if-is_empty.false))

pub returns-then-is_empty : goal.returns-then-is_empty
returns-then-is_empty c = search rules
