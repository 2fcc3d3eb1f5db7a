use Rattle.fit_numbers.proofs.Common.{◌≡◌, ◌∙◌, ◌+◌, ◌∷◌, [], length, ap, arith, append_assoc, length-append, drop, List, ℕ, IsCharBoundary-from_ascii, ne_eqb}
use Rattle.fit_numbers.proofs.Common.{last_digits}
use Rattle.fit_numbers.proofs.DigitFacts.{after-one, length-last_digits}
use Rattle.fit_numbers.proofs.digits.push_fraction.Goals as goal

-- the text of a number after a one has one byte more than the number has decimals
length-after : (text : List ℕ) (d n : ℕ) → text ≡ 49 ∷ last_digits d n → length text ≡ d + 1
length-after text d n e = rw (e, length-last_digits d n) (omega arith)

pub range_from-requires : goal.range_from-requires
range_from-requires c _ =
    let text = after-one c.format-digits.result.now c.args.decimals c.args.part c.power.result c.power.ensures.value c.power.ensures.small c.requires.below
    c.format-digits.ensures.text in
    let len = length-after c.format-digits.result.now c.args.decimals c.args.part text in
    IsCharBoundary-from_ascii c.format-digits.result.now 1 c.format-digits.ensures.ascii (omega (arith, len))

pub push_str-requires : goal.push_str-requires
push_str-requires c =
    let text = after-one c.format-digits.result.now c.args.decimals c.args.part c.power.result c.power.ensures.value c.power.ensures.small c.requires.below
    c.format-digits.ensures.text in
    let len = length-after c.format-digits.result.now c.args.decimals c.args.part text in
    let point : length c.push.new.self.bytes ≡ length c.args.text.now.bytes + 1 =
    rw (c.push.ensures.ascii (omega arith)) (length-append c.args.text.now.bytes (46 ∷ [])) in
    (omega arith, omega (arith, len, point, c.range_from.ensures.len, c.requires.room))

pub returns-then-decimals-gt0 : goal.returns-then-decimals-gt0
returns-then-decimals-gt0 c =
    let text = after-one c.format-digits.result.now c.args.decimals c.args.part c.power.result c.power.ensures.value c.power.ensures.small c.requires.below
    c.format-digits.ensures.text in
    let digits : c.range_from.result.now ≡ last_digits c.args.decimals c.args.part = c.range_from.ensures.value ∙ ap (drop 1) text in
    let some = ne_eqb c.args.decimals 0 (λ none. absurd (omega (arith, none, c.if-decimals-gt0.true))) in
    record {
      bytes = c.push_str.ensures.bytes ∙ rw (c.push.ensures.ascii (omega arith), digits, some)
          (append_assoc c.args.text.now.bytes (46 ∷ []) (last_digits c.args.decimals c.args.part));
    }
