-- What is written in a sheet.
use Rattle.std.proofs.Common.{◌≡◌, ◌∙◌, ◌+◌, ◌≤◌, ℕ, List, ◌++◌, length, take, drop, sym, ap, arith, append_assoc}
use Rattle.std.proofs.Math.Seq.{take-append-add}
use lib.Lanes.{put_chunk}
use Rattle.std.proofs.lemmas.Simd.{put_chunk_is}
use Rattle.std.proofs.lemmas.List.{append-nil, drop-take, length-drop, length-take-le, take-take}
use Rattle.fit_base.proofs.Bytes.{length-little_bytes}
use Rattle.fit_base.specs.Numbers.{little_bytes}
use Rattle.fit_messages.proofs.ByteFacts.{low_taken}
unfoldable use Rattle.fit_messages.specs.Blocks.{low}
use Rattle.fit_messages.specs.Blocks.{sized}
use Rattle.fit_messages.specs.inner.Sheets.{with_sheet}

-- a number that was written with more bytes after it
pub number_written : (w n at end : ℕ) (old new eight : List ℕ) → w ≤ 8 → at ≤ length old → eight ≡ little_bytes 8 n → end ≡ at + 8
    → take end new ≡ take at old ++ eight → take (at + w) new ≡ take at old ++ low w n
number_written w n at end old new eight small room is ends written =
    let front : List ℕ = take at old in
    let long : length front ≡ at = length-take-le at old room in
    sym (take-take (at + w) end new (omega (arith, ends, small))) ∙ ap (take (at + w)) written
    ∙ ap (λ (xs : List ℕ). take (at + w) (front ++ xs)) is
    ∙ ap (λ m. take (m + w) (front ++ little_bytes 8 n)) (sym long) ∙ take-append-add front (little_bytes 8 n) w
    ∙ ap (λ (xs : List ℕ). front ++ xs) (low_taken w n small)

-- eight bytes take the place of those from a place on
pub eight_written : (at : ℕ) (sheet tail rest eight : List ℕ) → at ≤ length sheet → length eight ≡ 8 → 8 ≤ length tail
    → take (at + 8) (take at sheet ++ (put_chunk 0 tail eight ++ rest)) ≡ take at sheet ++ eight
eight_written at sheet tail rest eight within wide room =
    let front : List ℕ = take at sheet in
    let others : List ℕ = drop (length eight) tail in
    let long : length front ≡ at = length-take-le at sheet within in
    let whole : 8 ≡ length eight + 0 = omega (arith, wide) in
    ap (λ b. take (at + 8) (front ++ (b ++ rest))) (put_chunk_is 0 tail eight (omega (arith, wide, room)))
    ∙ ap (λ k. take (k + 8) (front ++ ((eight ++ others) ++ rest))) (sym long)
    ∙ take-append-add front ((eight ++ others) ++ rest) 8
    ∙ ap (λ b. front ++ take 8 b) (append_assoc eight others rest)
    ∙ ap (λ k. front ++ take k (eight ++ (others ++ rest))) whole
    ∙ ap (λ b. front ++ b) (take-append-add eight (others ++ rest) 0 ∙ append-nil eight)

-- nothing is written
pub none_written : (bytes sheet : List ℕ) → with_sheet bytes sheet 0 ≡ bytes
none_written bytes sheet = append-nil bytes

-- more is written
pub more_written : (bytes old new more : List ℕ) (at end : ℕ) → take end new ≡ take at old ++ more → with_sheet bytes new end ≡ with_sheet bytes old at ++ more
more_written bytes old new more at end e = ap (λ w. bytes ++ w) e ∙ sym (append_assoc bytes (take at old) more)

length-low : (w n : ℕ) → length (low w n) ≡ w
unfolding low
length-low w n = length-little_bytes w n

-- the length of a block is written where room was left for it
pub alone_put : (at : ℕ) (old new : List ℕ) → 4 ≤ at → at ≤ length old → new ≡ low 4 at ++ drop 4 old → take at new ≡ sized (drop 4 (take at old))
alone_put at old new room within is =
    let rest : List ℕ = drop 4 (take at old) in
    let n : ℕ = length rest in
    let long : 4 + n ≡ at = omega (arith, length-drop 4 (take at old), length-take-le at old within, room) in
    let front : List ℕ = low 4 at in
    ap (take at) is ∙ ap (λ k. take k (front ++ drop 4 old)) (sym long) ∙ ap (λ k. take (k + n) (front ++ drop 4 old)) (sym (length-low 4 at))
    ∙ take-append-add front (drop 4 old) n
    ∙ ap (λ (b : List ℕ). front ++ b) (sym (drop-take 4 n old) ∙ ap (λ k. drop 4 (take k old)) long)
    ∙ ap (λ k. low 4 k ++ rest) (sym long)
