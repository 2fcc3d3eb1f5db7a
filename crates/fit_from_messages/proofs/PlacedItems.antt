-- Items that are written as a file has them.
use Rattle.std.proofs.Common.{◌≡◌, ◌∙◌, ℕ, zero, suc, ◌+◌, ◌*◌, ◌^◌, ◌<◌, ◌≤◌, List, ◌∷◌, ◌++◌, length, take, drop, sym, ap, subst, arith}
use Rattle.std.proofs.Common.{append_assoc, flat_map}
use Rattle.std.proofs.Math.Nat.{mul_comm, suc-mul}
use Rattle.std.proofs.Math.Seq.{take-append-add, take-add}
use Rattle.std.proofs.lemmas.List.{append-nil, length-take-le, length-drop, take-take}
use Rattle.fit_base.proofs.ByteLists.{IsBytes-drop, IsBytes-take}
use Rattle.fit_base.proofs.NumberLaws.{number-below, number_bytes-number}
use Rattle.fit_base.specs.Fields.{items_bytes}
use Rattle.fit_base.specs.Numbers.{IsBytes, number, number_bytes}
use Rattle.fit_base.specs.declared.number.Order.TheVariants.{Big, Little}
use Rattle.fit_record.specs.ReadMessages.{numbers_of}
use Rattle.fit_from_messages.specs.declared.slot.Slot.{Slot}
use Rattle.fit_from_messages.specs.Parts.{items_read}

-- eight bytes were written, of which the first are meant
pub first_of_eight : (size at end : ℕ) (old new eight source : List ℕ) → take end new ≡ take at old ++ eight → end ≡ at + length eight → eight ≡ take 8 source
    → size ≤ 8 → 8 ≤ length source → at ≤ length old → take (at + size) new ≡ take at old ++ take size source
first_of_eight size at end old new eight source written ends first small enough room =
    let front : List ℕ = take at old in
    let long : length front ≡ at = length-take-le at old room in
    let eight_long : length (take 8 source) ≡ 8 = length-take-le 8 source enough in
    sym (take-take (at + size) end new (omega (arith, ends, ap length first, eight_long, small))) ∙ ap (take (at + size)) written
    ∙ ap (λ (xs : List ℕ). take (at + size) (front ++ xs)) first
    ∙ ap (λ m. take (m + size) (front ++ take 8 source)) (sym long) ∙ take-append-add front (take 8 source) size
    ∙ ap (λ (xs : List ℕ). front ++ xs) (take-take size 8 source small)

-- ---- numbers

pub numbers_more : (w n m : ℕ) (rest : List ℕ) → n ≡ suc m → numbers_of Little w n rest ≡ number Little (take w rest) ∷ numbers_of Little w m (drop w rest)
numbers_more w n m rest more = ap (λ k. numbers_of Little w k rest) more

-- one more number is written, and with the others it is what all are
pub turned_more : (w n m bits : ℕ) (rest piece after before now all : List ℕ) → n ≡ suc m → piece ≡ take w rest → after ≡ drop w rest
    → bits ≡ number Little piece → now ≡ before ++ number_bytes Big w bits → before ++ flat_map (number_bytes Big w) (numbers_of Little w n rest) ≡ all
    → now ++ flat_map (number_bytes Big w) (numbers_of Little w m after) ≡ all
turned_more w n m bits rest piece after before now all more first then is written told =
    let others : List ℕ = flat_map (number_bytes Big w) (numbers_of Little w m (drop w rest)) in
    ap (λ xs. now ++ flat_map (number_bytes Big w) (numbers_of Little w m xs)) then
    ∙ ap (λ xs. xs ++ others) (written ∙ ap (λ k. before ++ number_bytes Big w k) (is ∙ ap (number Little) first))
    ∙ append_assoc before (number_bytes Big w (number Little (take w rest))) others
    ∙ sym (ap (λ xs. before ++ flat_map (number_bytes Big w) xs) (numbers_more w n m rest more)) ∙ told

pub none_left : (w n : ℕ) (rest before all : List ℕ) → n ≡ 0 → before ++ flat_map (number_bytes Big w) (numbers_of Little w n rest) ≡ all → before ≡ all
none_left w n rest before all none told =
    sym (ap (λ k. before ++ flat_map (number_bytes Big w) (numbers_of Little w k rest)) none ∙ append-nil before) ∙ told

pub number_in_piece : (w : ℕ) (rest piece : List ℕ) → IsBytes rest → w ≤ length rest → piece ≡ take w rest → number Little piece < 256 ^ w
number_in_piece w rest piece are enough first =
    subst (λ x. number Little x < 256 ^ w) (sym first)
    (subst (λ k. number Little (take w rest) < 256 ^ k) (length-take-le w rest enough) (number-below Little (take w rest) (IsBytes-take w rest are)))

-- Numbers with their lowest byte first spell the bytes that they are read from.
spelled : (w n : ℕ) (bytes : List ℕ) → IsBytes bytes → n * w ≤ length bytes → flat_map (number_bytes Little w) (numbers_of Little w n bytes) ≡ take
    (n * w) bytes
spelled w zero bytes are enough =
    let none : 0 ≡ 0 * w = omega arith in
    ap (λ k. take k bytes) none
spelled w (suc n) bytes are enough =
    let piece : List ℕ = take w bytes in
    let rest : List ℕ = drop w bytes in
    let all : suc n * w ≡ w + n * w = omega (arith, suc-mul n w) in
    let wide : length piece ≡ w = length-take-le w bytes (omega (arith, all, enough)) in
    let here : number_bytes Little w (number Little piece) ≡ piece =
    ap (λ k. number_bytes Little k (number Little piece)) (sym wide) ∙ number_bytes-number Little piece (IsBytes-take w bytes are) in
    let others = spelled w n rest (IsBytes-drop w bytes are) (omega (arith, all, enough, length-drop w bytes)) in
    ap (λ xs. xs ++ flat_map (number_bytes Little w) (numbers_of Little w n rest)) here ∙ ap (λ xs. piece ++ xs) others
    ∙ sym (take-add w (n * w) bytes) ∙ ap (λ k. take k bytes) (sym all)

pub little_items : (block : List ℕ) (s : Slot) (size : ℕ) (source : List ℕ) → IsBytes block → s.place + s.width * s.count ≤ length block
    → size ≡ s.width * s.count
    → source ≡ drop s.place block → take size source ≡ items_bytes Little (items_read block s)
little_items block s size source are enough is from =
    let turned : s.width * s.count ≡ s.count * s.width = mul_comm s.width s.count in
    ap (take size) from ∙ ap (λ k. take k (drop s.place block)) (is ∙ turned)
    ∙ sym (spelled s.width s.count (drop s.place block) (IsBytes-drop s.place block are) (omega (arith, enough, turned, length-drop s.place block)))
