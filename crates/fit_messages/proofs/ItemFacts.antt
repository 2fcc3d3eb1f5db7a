-- The items of fields as a block has them.
use Rattle.std.proofs.Common.{◌≡◌, ◌∙◌, ℕ, zero, suc, ◌+◌, ◌*◌, ◌/◌, ◌%◌, ◌^◌, ◌<◌, ◌≤◌, true, List, [], ◌∷◌, ◌++◌, length, take}
use Rattle.std.proofs.Common.{drop, refl, sym, ap, ap₂, subst, arith, replicate, ltb}
use Rattle.std.proofs.Common.{append_assoc}
use Rattle.std.proofs.lemmas.List.{length-append, take-append-drop, length-take-le, length-drop, take_all, take-take, append-nil}
use Rattle.std.specs.Prelude.{◌==◌, flat_map, if◌then◌else◌}
use Rattle.std.specs.Global.{Global}
use Rattle.fit_base.proofs.Bytes.{length-little_bytes}
use Rattle.fit_base.proofs.NumberLaws.{number-below, number_bytes-number}
use Rattle.fit_base.proofs.Shapes.{item_width_divides}
use Rattle.fit_base.proofs.Bytes.{found_passes}
use Rattle.fit_base.specs.BaseTypes.{base_type, base_types, byte, item_width}
use Rattle.fit_base.proofs.SameItems.{width_positive}
use borrow.Author.Tests.{ltb-true}
use Rattle.std.proofs.Math.Nat.{div_self, mod_self, pow-suc, suc-mul, zero-div}
use Rattle.std.proofs.lemmas.List.Sums.{sum_by-cons}
use Rattle.fit_record.specs.Records.{sizes}
use Rattle.fit_base.specs.Numbers.{IsBytes, little_bytes, number}
use Rattle.fit_base.proofs.ByteLists.{IsBytes-take, IsBytes-drop}
use Rattle.fit_base.specs.declared.items.Items.{Items}
use Rattle.fit_base.specs.declared.number.Order.{Order}
use Rattle.fit_base.specs.declared.number.Order.TheVariants.{Little}
use Rattle.fit_record.specs.ReadMessages.{field_from, fields_from, numbers_of}
use Rattle.fit_messages.specs.Blocks.{gap, rounded, slot}
unfoldable use Rattle.fit_messages.specs.Blocks.{low}

length-lows : (w : ℕ) (numbers : List ℕ) → length (flat_map (low w) numbers) ≡ length numbers * w
unfolding low
length-lows w [] = omega arith
length-lows w (n ∷ numbers) =
    omega (
      arith,
      length-append (little_bytes w n) (flat_map (low w) numbers),
      length-little_bytes w n,
      length-lows w numbers,
      suc-mul (length numbers) w,
    )

-- the items of a field are put, and what they lack to a multiple of 8
pub slot_put : {A : Type 0} (items : Items A) (old : List ℕ)
    → (old ++ flat_map (low items.width) items.bits) ++ replicate (gap (length items.bits * items.width)) 0 ≡ old ++ slot items
unfolding low
slot_put items old =
    append_assoc old (flat_map (low items.width) items.bits) (replicate (gap (length items.bits * items.width)) 0)
    ∙ ap (λ k. old ++ (flat_map (low items.width) items.bits ++ replicate (gap k) 0)) (sym (length-lows items.width items.bits))

no_elements : {X : Type 0} (xs : List X) → length xs ≡ 0 → xs ≡ []
no_elements [] none = refl
no_elements (x ∷ xs) none = absurd (omega (arith, none))

-- numbers in little endian spell the bytes that they are read from
numbers_spell : (w n : ℕ) (bytes : List ℕ) → IsBytes bytes → length bytes ≡ n * w → flat_map (little_bytes w) (numbers_of Little w n bytes) ≡ bytes
numbers_spell w zero bytes are long = sym (no_elements bytes (omega (arith, long)))
numbers_spell w (suc n) bytes are long =
    let piece = take w bytes in
    let rest = drop w bytes in
    let all : length bytes ≡ w + n * w = omega (arith, long, suc-mul n w) in
    let wide : length piece ≡ w = length-take-le w bytes (omega (arith, all)) in
    let spelled : little_bytes w (number Little piece) ≡ piece =
    ap (λ k. little_bytes k (number Little piece)) (sym wide) ∙ number_bytes-number Little piece (IsBytes-take w bytes are) in
    let others = numbers_spell w n rest (IsBytes-drop w bytes are) (length-drop w bytes ∙ omega (arith, all)) in
    ap (λ x. x ++ flat_map (little_bytes w) (numbers_of Little w n rest)) spelled ∙ ap (λ x. piece ++ x) others ∙ take-append-drop w bytes

-- the items of a field in little endian are its bytes
pub slot_little : (f : ℕ × ℕ) (bytes : List ℕ) → IsBytes bytes → length bytes ≡ f.1 → rounded bytes ≡ slot (field_from {A = Global} Little f bytes)
slot_little f bytes are long =
    let w = item_width f.0 f.1 in
    ap rounded (sym (numbers_spell w (f.1 / w) bytes are (long ∙ sym (item_width_divides f.0 f.1))))

length-numbers_of : (o : Order) (w n : ℕ) (bytes : List ℕ) → length (numbers_of o w n bytes) ≡ n
length-numbers_of o w zero bytes = refl
length-numbers_of o w (suc n) bytes = ap suc (length-numbers_of o w n (drop w bytes))

-- the same in any order, number by number
pub slot_turned : (o : Order) (f : ℕ × ℕ) (w : ℕ) (bytes old : List ℕ) → w ≡ item_width f.0 f.1 → length bytes ≡ f.1
    → (old ++ flat_map (low w) (numbers_of o w (length bytes / w) bytes)) ++ replicate (gap (length bytes)) 0 ≡ old ++ slot (field_from {A = Global} o f bytes)
slot_turned o f w bytes old wide long =
    let v = item_width f.0 f.1 in
    let items : Items Global = field_from o f bytes in
    let many : length items.bits * v ≡ length bytes =
    ap (λ n. n * v) (length-numbers_of o v (f.1 / v) bytes) ∙ item_width_divides f.0 f.1 ∙ sym long in
    ap (λ k. (old ++ flat_map (low k) (numbers_of o k (length bytes / k) bytes)) ++ replicate (gap (length bytes)) 0) wide
    ∙ ap (λ n. (old ++ flat_map (low v) (numbers_of o v (n / v) bytes)) ++ replicate (gap (length bytes)) 0) long
    ∙ ap (λ n. (old ++ flat_map (low v) items.bits) ++ replicate (gap n) 0) (sym many)
    ∙ slot_put items old

-- a field without bytes has no items
pub slot_empty : (o : Order) (code size : ℕ) (bytes : List ℕ) → size ≡ 0 → slot (field_from {A = Global} o (code, size) bytes) ≡ []
unfolding low
slot_empty o code size bytes none =
    let w = item_width code size in
    let no_items : size / w ≡ 0 = ap (λ n. n / w) none ∙ zero-div w in
    ap (λ n. slot {A = Global} (record { width = w; bits = numbers_of o w n bytes })) no_items

-- nor have fields without bytes
pub slots_empty : (o : Order) (slots : List (ℕ × ℕ)) (bytes : List ℕ) → sizes slots ≡ 0 → flat_map slot (fields_from {A = Global} o slots bytes) ≡ []
slots_empty o [] bytes none = refl
slots_empty o (f ∷ slots) bytes none =
    let all : sizes (f ∷ slots) ≡ f.1 + sizes slots = sum_by-cons (λ (s : ℕ × ℕ). s.1) f slots in
    let first = slot_empty o f.0 f.1 (take f.1 bytes) (omega (arith, none, all)) in
    ap (λ b. b ++ flat_map slot (fields_from {A = Global} o slots (drop f.1 bytes))) first
    ∙ slots_empty o slots (drop f.1 bytes) (omega (arith, none, all))

-- ---- one number and one field more

pub numbers_more : (o : Order) (w n m : ℕ) (rest old now all : List ℕ) (number_ : ℕ) → n ≡ suc m → number_ ≡ number o (take w rest)
    → now ≡ old ++ low w number_
    → old ++ flat_map (low w) (numbers_of o w n rest) ≡ all
    → now ++ flat_map (low w) (numbers_of o w m (drop w rest)) ≡ all
numbers_more o w n m rest old now all number_ more is put told =
    ap (λ b. b ++ flat_map (low w) (numbers_of o w m (drop w rest))) (put ∙ ap (λ k. old ++ low w k) is)
    ∙ append_assoc old (low w (number o (take w rest))) (flat_map (low w) (numbers_of o w m (drop w rest)))
    ∙ ap (λ k. old ++ flat_map (low w) (numbers_of o w k rest)) (sym more) ∙ told

pub fields_more : (o : Order) (f : ℕ × ℕ) (here next : List (ℕ × ℕ)) (rest old now all : List ℕ) → here ≡ f ∷ next
    → now ≡ old ++ slot (field_from {A = Global} o f (take f.1 rest))
    → old ++ flat_map slot (fields_from {A = Global} o here rest) ≡ all
    → now ++ flat_map slot (fields_from {A = Global} o next (drop f.1 rest)) ≡ all
fields_more o f here next rest old now all more put told =
    ap (λ b. b ++ flat_map slot (fields_from {A = Global} o next (drop f.1 rest))) put
    ∙ append_assoc old (slot (field_from {A = Global} o f (take f.1 rest))) (flat_map slot (fields_from {A = Global} o next (drop f.1 rest)))
    ∙ ap (λ l. old ++ flat_map slot (fields_from {A = Global} o l rest)) (sym more) ∙ told

-- ---- one number

no_bytes : (k : ℕ) → little_bytes k 0 ≡ replicate k 0
no_bytes zero = refl
no_bytes (suc k) = ap (λ bytes. 0 ∷ bytes) (no_bytes k)

-- a number of few bytes has zeros after them
wide : (w k v n : ℕ) → v ≡ w + k → n < 256 ^ w → little_bytes v n ≡ little_bytes w n ++ replicate k 0
wide zero k v n all few =
    let none : n ≡ 0 = omega (arith, few) in
    let same : v ≡ k = omega (arith, all) in
    ap₂ little_bytes same none ∙ no_bytes k
wide (suc w) k zero n all few = absurd (omega (arith, all))
wide (suc w) k (suc v) n all few =
    let below : n < 256 ^ w * 256 = rw pow-suc at few in
    ap (λ bytes. n % 256 ∷ bytes) (wide w k v (n / 256) (omega (arith, all)) (omega (arith, below)))

pub width_small : (code : ℕ) → (base_type code).width < 9
width_small code = ltb-true (base_type code).width 9 (found_passes (λ t. t.code == code) (λ t. ltb t.width 9) byte base_types refl refl)

-- a field as long as its base type is wide holds one number
one_number : (o : Order) (code size : ℕ) (bytes : List ℕ) → length bytes ≡ size → (base_type code).width ≡ size
    → field_from {A = Global} o (code, size) bytes ≡ record { width = size; bits = number o bytes ∷ [] }
one_number o code size bytes long same =
    let test : (size % (base_type code).width == 0) ≡ true = ap (λ w. size % w == 0) same ∙ ap (λ r. r == 0) (mod_self size) in
    let wide : item_width code size ≡ size = ap (λ b. if b then (base_type code).width else 1) test ∙ same in
    let positive : 0 < size = subst (λ w. 0 < w) same (width_positive code) in
    let first : field_from {A = Global} o (code, size) bytes ≡ record { width = size; bits = numbers_of o size (size / size) bytes } =
    λ i. record { width = wide i; bits = numbers_of o (wide i) (size / wide i) bytes } in
    let second : record { width = size; bits = numbers_of o size (size / size) bytes } ≡ record { width = size; bits = number o bytes ∷ [] } =
    ap (λ n. record { width = size; bits = numbers_of o size n bytes }) (div_self positive)
    ∙ ap (λ b. record { width = size; bits = number o b ∷ [] }) (take_all size bytes (omega (arith, long))) in
    first ∙ second

-- the number stands in eight bytes
pub slot_lone : (o : Order) (code size : ℕ) (bytes : List ℕ) → IsBytes bytes → length bytes ≡ size → (base_type code).width ≡ size
    → low 8 (number o bytes) ≡ slot (field_from {A = Global} o (code, size) bytes)
unfolding low
slot_lone o code size bytes are long same =
    let n = number o bytes in
    let positive : 0 < size = subst (λ w. 0 < w) same (width_positive code) in
    let small : size < 9 = subst (λ w. w < 9) same (width_small code) in
    let all : 8 ≡ size + gap size = omega (arith, positive, small) in
    let few : n < 256 ^ size = subst (λ w. n < 256 ^ w) long (number-below o bytes are) in
    let here : slot {A = Global} (record { width = size; bits = n ∷ [] }) ≡ little_bytes size n ++ replicate (gap size) 0 =
    ap rounded (append-nil (little_bytes size n)) ∙ ap (λ k. little_bytes size n ++ replicate (gap k) 0) (length-little_bytes size n) in
    wide size (gap size) 8 n all few ∙ sym here ∙ ap (slot {A = Global}) (sym (one_number o code size bytes long same))

-- by the eight bytes that begin with it
pub slot_first : (o : Order) (code width : ℕ) (bytes eight : List ℕ) (n : ℕ) → IsBytes bytes → 8 ≤ length bytes → (base_type code).width ≡ width
    → eight ≡ take 8 bytes → n ≡ number o (take width eight) → low 8 n ≡ slot (field_from {A = Global} o (code, width) (take width bytes))
slot_first o code width bytes eight n are enough same first read =
    let small : width < 9 = subst (λ w. w < 9) same (width_small code) in
    ap (low 8) read ∙ ap (λ b. low 8 (number o (take width b))) first
    ∙ ap (λ b. low 8 (number o b)) (take-take width 8 bytes (omega (arith, small)))
    ∙ slot_lone o code width (take width bytes) (IsBytes-take width bytes are) (length-take-le width bytes (omega (arith, small, enough))) same
