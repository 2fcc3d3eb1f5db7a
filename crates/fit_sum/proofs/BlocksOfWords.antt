-- Blocks of bytes through the register of words: 128 bytes with sixteen words, 256 with thirty-two.
use Rattle.fit_sum.proofs.Common.{◌≡◌, ℕ, zero, suc, ◌+◌, ◌*◌, ◌^◌, ◌<◌, ◌≤◌, ◌-◌, List, [], ◌∷◌, ◌++◌, length, subst, refl, ap, sym, ◌∙◌, arith, length-append}
use Rattle.fit_sum.proofs.Common.{append_assoc, bit_xor, xor_assoc, xor_zero_l, shifts, run, AllBytes, bytes_number, words_from, mix, turns, spelled}
use Rattle.std.proofs.Common.{replicate}
use Rattle.std.proofs.lemmas.List.{length-replicate}
use Rattle.fit_sum.proofs.ShiftsOfSums.{steps-xor, steps-add, steps-shift}
use Rattle.fit_sum.proofs.Division.{run-steps}
use Rattle.fit_sum.proofs.RegisterOfAdded.{IsBytes-append}
use Rattle.fit_sum.proofs.TurnsAreShifts.{IsWords, joined, IsRegister, IsWords-turns, length-turns, turns-steps}
use Rattle.fit_sum.proofs.BytesOfWords.{number-apart, IsWords-words_from, length-words_from, joined-block, joined-mix, IsWords-mix, length-mix}
use Rattle.fit_sum.proofs.SpelledWords.{IsBytes-spelled, length-spelled, number-spelled}

-- The number r carries what the bytes of front leave: with so many bytes or more after them, it goes into those.
pub Carries : ℕ → ℕ → List ℕ → ℕ → Type 0
Carries size register front r = (t : List ℕ) → AllBytes t → size ≤ length t → run register (front ++ t) ≡ shifts (8 * length t) (bit_xor r (bytes_number t))

-- what the loop over blocks keeps of its words
pub record Keeps (count register : ℕ) (front words : List ℕ) : Type 0 where
  pub carried : Carries (8 * count) register front (joined words)
  pub are_words : IsWords words
  pub counted : length words ≡ count

carries-none : (size register : ℕ) → Carries size register [] register
unfolding Carries
carries-none size register t h far = run-steps register t h

carries-block : (near far n bits register : ℕ) (front block words : List ℕ) (r : ℕ) → IsRegister near far n bits
    → AllBytes block → length block ≡ 8 * suc n → Carries (8 * suc n) register front r
    → joined words ≡ bit_xor r (bytes_number block) → length words ≡ suc n → IsWords words
    → Carries (8 * suc n) register (front ++ block) (joined (turns near far (suc n) words))
unfolding Carries
carries-block near far n bits register front block words r is hb nb carries e k q t h enough =
    let m = 8 * length t in
    let rest = 8 * length t - bits in
    let turned = joined (turns near far (suc n) words) in
    let long : 8 * suc n ≤ length (block ++ t) = rw length-append (omega arith) in
    let count : 8 * length (block ++ t) ≡ bits + 8 * length t = rw length-append (omega (arith, nb, is.words)) in
    let tail : 8 * length t ≡ bits + (8 * length t - bits) = omega (arith, enough, is.words) in
    let apart : bytes_number (block ++ t) ≡ bit_xor (bytes_number block) (2 ^ bits * bytes_number t) =
    number-apart block t hb ∙ ap (λ p. bit_xor (bytes_number block) (p * bytes_number t)) (ap (λ j. (2 ^ 8) ^ j) nb ∙ is.bytes) in
    let mixed : bit_xor r (bytes_number (block ++ t)) ≡ bit_xor (joined words) (2 ^ bits * bytes_number t)
    = ap (bit_xor r) apart ∙ sym (xor_assoc r (bytes_number block) (2 ^ bits * bytes_number t)) ∙ ap (λ x. bit_xor x (2 ^ bits * bytes_number t)) (sym e) in
    let front_part : shifts (bits + 8 * length t) (joined words) ≡ shifts (8 * length t) (joined (turns near far (suc n) words))
    = ap (λ j. shifts (bits + j) (joined words)) tail
    ∙ ap (λ j. shifts (j + (bits + rest)) (joined words)) is.words
    ∙ turns-steps near far n bits (suc n) rest words is k q
    ∙ ap (λ j. shifts j turned) (sym tail) in
    let back_part : shifts (bits + 8 * length t) (2 ^ bits * bytes_number t) ≡ shifts (8 * length t) (bytes_number t)
    = steps-add bits m (2 ^ bits * bytes_number t) ∙ ap (shifts m) (steps-shift bits (bytes_number t)) in
    ap (run register) (append_assoc front block t)
    ∙ carries (block ++ t) (IsBytes-append block t hb h) long
    ∙ ap (λ j. shifts j (bit_xor r (bytes_number (block ++ t)))) count
    ∙ ap (shifts (bits + m)) mixed
    ∙ steps-xor (bits + m) (joined words) (2 ^ bits * bytes_number t)
    ∙ ap (λ x. bit_xor x (shifts (bits + m) (2 ^ bits * bytes_number t))) front_part
    ∙ ap (bit_xor (shifts m turned)) back_part
    ∙ sym (steps-xor m turned (bytes_number t))

-- what is carried goes into the last block, and that is summed as bytes
carries-last : (size register : ℕ) (front last mixed : List ℕ) (r : ℕ) → AllBytes last → AllBytes mixed → length last ≡ size → length mixed ≡ size
    → Carries size register front r
    → bytes_number mixed ≡ bit_xor r (bytes_number last) → run register (front ++ last) ≡ run 0 mixed
unfolding Carries
carries-last size register front last mixed r hl hm nl nm carries e =
    carries last hl (omega (arith, nl))
    ∙ ap (shifts (8 * length last)) (sym e ∙ sym (xor_zero_l (bytes_number mixed)))
    ∙ ap (λ k. shifts (8 * k) (bit_xor 0 (bytes_number mixed))) (nl ∙ sym nm)
    ∙ sym (run-steps 0 mixed hm)

-- ---- the loop
joined-zeros : (n : ℕ) → joined (replicate n 0) ≡ 0
unfolding joined
joined-zeros zero = refl
joined-zeros (suc n) = omega (arith, joined-zeros n)

IsWords-zeros : (n : ℕ) → IsWords (replicate n 0)
IsWords-zeros zero = tt
IsWords-zeros (suc n) = (omega arith, IsWords-zeros n)

first-joined : (register n : ℕ) → register ≡ joined (register ∷ replicate n 0)
unfolding joined
first-joined register n = omega (arith, joined-zeros n)

pub keeps-none : (n register : ℕ) → register < 2 ^ 16 → Keeps (suc n) register [] (register ∷ replicate n 0)
keeps-none n register h =
    record {
      carried = subst (Carries (8 * suc n) register []) (first-joined register n) (carries-none (8 * suc n) register);
      are_words = (omega arith, IsWords-zeros n);
      counted = ap suc (length-replicate n 0);
    }

-- the words of a block, with the register's added to them
record Mixed (count : ℕ) (words block : List ℕ) : Type 0 where
  joined_is : joined (mix words (words_from 0 count block)) ≡ bit_xor (joined words) (bytes_number block)
  are_words : IsWords (mix words (words_from 0 count block))
  counted : length (mix words (words_from 0 count block)) ≡ count

mixed-block : (count : ℕ) (words block : List ℕ) → AllBytes block → length block ≡ 8 * count → IsWords words → length words ≡ count
    → Mixed count words block
mixed-block count words block h n q s =
    let others = words_from 0 count block in
    let q' : IsWords (words_from 0 count block) = IsWords-words_from count 0 block (omega (arith, n)) h in
    let same : length words ≡ length (words_from 0 count block) = s ∙ sym (length-words_from count 0 block) in
    record {
      joined_is = joined-mix words others same q q' ∙ ap (bit_xor (joined words)) (joined-block count block n);
      are_words = IsWords-mix words others q q';
      counted = length-mix words others same ∙ s;
    }

pub keeps-block : (near far n bits register : ℕ) (front block words : List ℕ) → IsRegister near far n bits
    → AllBytes block → length block ≡ 8 * suc n → Keeps (suc n) register front words
    → Keeps (suc n) register (front ++ block) (turns near far (suc n) (mix words (words_from 0 (suc n) block)))
keeps-block near far n bits register front block words is h size keeps =
    let mixed = mix words (words_from 0 (suc n) block) in
    let are = mixed-block (suc n) words block h size keeps.are_words keeps.counted in
    record {
      carried = carries-block near far n bits register front block mixed (joined words) is h size keeps.carried are.joined_is are.counted are.are_words;
      are_words = IsWords-turns near far (suc n) mixed are.are_words;
      counted = length-turns near far (suc n) mixed ∙ are.counted;
    }

pub keeps-last : (count register : ℕ) (front last words : List ℕ) → AllBytes last → length last ≡ 8 * count → Keeps count register front words
    → run register (front ++ last) ≡ run 0 (spelled (mix words (words_from 0 count last)))
keeps-last count register front last words h n keeps =
    let mixed = mix words (words_from 0 count last) in
    let are = mixed-block count words last h n keeps.are_words keeps.counted in
    let long : length (spelled (mix words (words_from 0 count last))) ≡ 8 * count = length-spelled mixed ∙ ap (λ k. 8 * k) are.counted in
    carries-last (8 * count) register front last (spelled mixed) (joined words) h (IsBytes-spelled mixed) n long keeps.carried
    (number-spelled mixed are.are_words ∙ are.joined_is)
