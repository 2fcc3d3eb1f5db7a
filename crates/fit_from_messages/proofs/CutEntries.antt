-- Bytes cut into entries, one after another.
use Rattle.std.proofs.Common.{◌≡◌, ℕ, zero, suc, ◌+◌, ◌<◌, ◌≤◌, Bool, true, false, List, [], ◌∷◌, ◌++◌, length, take, drop, refl, sym, ap, ◌∙◌, subst}
use Rattle.std.proofs.Common.{arith, append_assoc, length-take, length-drop, ◌⊎◌, inl, inr, ◌≢◌}
use Rattle.std.proofs.lemmas.Bool.{and_parts}
use Rattle.std.proofs.lemmas.Bool.Decides.{eqb_tells}
use Rattle.std.proofs.Math.Dec.{eqb}
use Rattle.std.proofs.lemmas.List.Sums.{sum_by-cons}
use Rattle.std.proofs.lemmas.List.{take-append-drop, length-append}
use Rattle.std.specs.Prelude.{◌&&◌, ◌==◌, map, sum_by, nat_le}
use Rattle.std.specs.List.{list_all}
use Rattle.fit_from_messages.specs.Parts.{byte_at, counts_stand, dev_field_count, dev_entries, block_entries, entries_begin, entries_of}
use Rattle.fit_from_messages.specs.Parts.{entries_stand, entry_stands, field_count, field_entries, number_read}
use Rattle.fit_from_messages.specs.inner.Cutting.{left_of}

-- two tests of numbers that hold together
same_test : (a b m n : ℕ) → (a ≡ b → m ≡ n) → (m ≡ n → a ≡ b) → (a == b) ≡ (m == n)
same_test a b m n to from = go (eqb_tells a b) (eqb_tells m n)
  where
    go : ((eqb a b ≡ true) × (a ≡ b)) ⊎ ((eqb a b ≡ false) × (a ≢ b)) → ((eqb m n ≡ true) × (m ≡ n)) ⊎ ((eqb m n ≡ false) × (m ≢ n)) → (a == b) ≡ (m == n)
    go (inl x) (inl y) = x.0 ∙ sym y.0
    go (inl x) (inr y) = absurd (y.1 (to x.1))
    go (inr x) (inl y) = absurd (x.1 (from y.1))
    go (inr x) (inr y) = x.0 ∙ sym y.0

-- ---- one more entry

pub stand_more : (d n m : ℕ) (bytes entry after : List ℕ) → n ≡ suc m → entry ≡ take (number_read 2 0 bytes) bytes → after ≡ drop (number_read 2 0 bytes) bytes
    → entry_stands d entry ≡ true → list_all (entry_stands d) (entries_of n bytes) ≡ list_all (entry_stands d) (entries_of m after)
stand_more d n m bytes entry after more first rest stands =
    subst (λ k. list_all (entry_stands d) (entries_of k bytes) ≡ list_all (entry_stands d) (entries_of m after)) (sym more)
    (subst (λ x. list_all (entry_stands d) (entries_of (suc m) bytes) ≡ list_all (entry_stands d) (entries_of m x)) (sym rest)
    (ap (λ b. b && list_all (entry_stands d) (entries_of m (drop (number_read 2 0 bytes) bytes))) (ap (entry_stands d) (sym first) ∙ stands)))

pub stand_not : (d n m : ℕ) (bytes entry : List ℕ) → n ≡ suc m → entry ≡ take (number_read 2 0 bytes) bytes → entry_stands d entry ≡ false
    → list_all (entry_stands d) (entries_of n bytes) ≡ false
stand_not d n m bytes entry more first stands =
    subst (λ k. list_all (entry_stands d) (entries_of k bytes) ≡ false) (sym more)
    (ap (λ b. b && list_all (entry_stands d) (entries_of m (drop (number_read 2 0 bytes) bytes))) (ap (entry_stands d) (sym first) ∙ stands))

short_entry : (d k : ℕ) (bytes : List ℕ) → length bytes < 32 → entry_stands d (take k bytes) ≡ false
short_entry d k bytes short =
    let small : length (take k bytes) < 32 = omega (arith, short, length-take k bytes) in
    let no : nat_le 32 (length (take k bytes)) ≡ false = grind (arith, small) in
    ap (λ b. b && (length (take k bytes) == number_read 2 0 (take k bytes)) && (byte_at 5 (take k bytes) == d)) no

pub too_short : (d n m : ℕ) (bytes : List ℕ) → n ≡ suc m → length bytes < 32 → list_all (entry_stands d) (entries_of n bytes) ≡ false
too_short d n m bytes more short = stand_not d n m bytes (take (number_read 2 0 bytes) bytes) more refl (short_entry d (number_read 2 0 bytes) bytes short)

pub left_more : (n m : ℕ) (bytes after : List ℕ) → n ≡ suc m → after ≡ drop (number_read 2 0 bytes) bytes → left_of n bytes ≡ left_of m after
left_more n m bytes after more rest = ap (λ k. left_of k bytes) more ∙ ap (left_of m) (sym rest)

-- ---- all of them

-- the entries and what is left are all the bytes
pub sum_left : (n : ℕ) (bytes : List ℕ) → sum_by length (entries_of n bytes) + length (left_of n bytes) ≡ length bytes
sum_left zero bytes = omega arith
sum_left (suc n) bytes =
    let size : ℕ = number_read 2 0 bytes in
    let rest : List ℕ = drop size bytes in
    let here : length (take size bytes) + length rest ≡ length bytes = sym (length-append (take size bytes) rest) ∙ ap length (take-append-drop size bytes) in
    omega (arith, here, sum_left n rest, sum_by-cons length (take size bytes) (entries_of n rest))

-- some entries, and then others
pub first_entries : (n m : ℕ) (bytes : List ℕ) → take n (entries_of (n + m) bytes) ≡ entries_of n bytes
first_entries zero m bytes = refl
first_entries (suc n) m bytes =
    let rest : List ℕ = drop (number_read 2 0 bytes) bytes in
    let more : suc n + m ≡ suc (n + m) = omega arith in
    ap (λ k. take (suc n) (entries_of k bytes)) more ∙ ap (λ es. take (number_read 2 0 bytes) bytes ∷ es) (first_entries n m rest)

pub later_entries : (n m : ℕ) (bytes : List ℕ) → drop n (entries_of (n + m) bytes) ≡ entries_of m (left_of n bytes)
later_entries zero m bytes =
    let none : 0 + m ≡ m = omega arith in
    ap (λ k. entries_of k bytes) none
later_entries (suc n) m bytes =
    let more : suc n + m ≡ suc (n + m) = omega arith in
    ap (λ k. drop (suc n) (entries_of k bytes)) more ∙ later_entries n m (drop (number_read 2 0 bytes) bytes)

pub left_after : (n m : ℕ) (bytes : List ℕ) → left_of (n + m) bytes ≡ left_of m (left_of n bytes)
left_after zero m bytes =
    let none : 0 + m ≡ m = omega arith in
    ap (λ k. left_of k bytes) none
left_after (suc n) m bytes =
    let more : suc n + m ≡ suc (n + m) = omega arith in
    ap (λ k. left_of k bytes) more ∙ left_after n m (drop (number_read 2 0 bytes) bytes)

-- ---- of a definition's block

pub field_entries_are : (block : List ℕ) → field_entries block ≡ entries_of (field_count block) (drop (entries_begin block) block)
field_entries_are block = first_entries (field_count block) (dev_field_count block) (drop (entries_begin block) block)

pub dev_entries_are : (block : List ℕ)
    → dev_entries block ≡ entries_of (dev_field_count block) (left_of (field_count block) (drop (entries_begin block) block))
dev_entries_are block = later_entries (field_count block) (dev_field_count block) (drop (entries_begin block) block)

-- Nothing is left just where the entries go to the end of the block.
nothing_left : (block : List ℕ) → entries_begin block ≤ length block → (entries_begin block + sum_by length (block_entries block) == length block)
    ≡ (length (left_of (dev_field_count block) (left_of (field_count block) (drop (entries_begin block) block))) == 0)
nothing_left block within =
    let bytes : List ℕ = drop (entries_begin block) block in
    let all : sum_by length (block_entries block) + length (left_of (field_count block + dev_field_count block) bytes) ≡ length bytes =
    sum_left (field_count block + dev_field_count block) bytes in
    let left : length (left_of (field_count block + dev_field_count block) bytes) ≡ length (left_of (dev_field_count block) (left_of
    (field_count block) bytes)) =
    ap length (left_after (field_count block) (dev_field_count block) bytes) in
    let long : entries_begin block + length bytes ≡ length block = omega (arith, within, length-drop (entries_begin block) block) in
    same_test (entries_begin block + sum_by length (block_entries block)) (length block)
    (length (left_of (dev_field_count block) (left_of (field_count block) bytes))) 0
    (λ e. omega (arith, e, all, left, long)) (λ e. omega (arith, e, all, left, long))

-- The entries of a block that begin in it stand where those of its fields do, those of its developer fields, and nothing is left.
pub entries_stand_is : (block : List ℕ) → entries_begin block ≤ length block → counts_stand block ≡ true → entries_stand block
    ≡ (list_all (entry_stands 0) (entries_of (field_count block) (drop (entries_begin block) block))
    && list_all (entry_stands 1) (entries_of (dev_field_count block) (left_of (field_count block) (drop (entries_begin block) block)))
    && (length (left_of (dev_field_count block) (left_of (field_count block) (drop (entries_begin block) block))) == 0))
entries_stand_is block within counts =
    let begins : nat_le (entries_begin block) (length block) ≡ true = grind (arith, within) in
    let fields = ap (list_all (entry_stands 0)) (field_entries_are block) in
    let dev = ap (list_all (entry_stands 1)) (dev_entries_are block) in
    ap (λ a. a && counts_stand block && list_all (entry_stands 0) (field_entries block) && list_all (entry_stands 1) (dev_entries block)
    && (entries_begin block + sum_by length (block_entries block) == length block)) begins
    ∙ ap (λ a. a && list_all (entry_stands 0) (field_entries block) && list_all (entry_stands 1) (dev_entries block)
    && (entries_begin block + sum_by length (block_entries block) == length block)) counts
    ∙ ap (λ a. a && list_all (entry_stands 1) (dev_entries block) && (entries_begin block + sum_by length (block_entries block) == length block)) fields
    ∙ ap (λ a. list_all (entry_stands 0) (entries_of (field_count block) (drop (entries_begin block) block))
    && a && (entries_begin block + sum_by length (block_entries block) == length block)) dev
    ∙ ap (λ a. list_all (entry_stands 0) (entries_of (field_count block) (drop (entries_begin block) block))
    && list_all (entry_stands 1) (entries_of (dev_field_count block) (left_of (field_count block) (drop (entries_begin block) block))) && a)
    (nothing_left block within)

-- where the entries of a block begin, how many there are, and the bytes from there on
pub record Begins (block : List ℕ) (begin fields dev : ℕ) (bytes : List ℕ) : Type 0 where
  pub place : begin ≡ entries_begin block
  pub within : begin ≤ length block
  pub counts : counts_stand block ≡ true
  pub few : fields ≡ field_count block
  pub few_dev : dev ≡ dev_field_count block
  pub from : bytes ≡ drop begin block

-- as `entries_stand_is`
pub stand_as : (block : List ℕ) (begin fields dev : ℕ) (bytes : List ℕ) → Begins block begin fields dev bytes
    → entries_stand block ≡ (list_all (entry_stands 0) (entries_of fields bytes)
    && list_all (entry_stands 1) (entries_of dev (left_of fields bytes)) && (length (left_of dev (left_of fields bytes)) == 0))
stand_as block begin fields dev bytes s =
    let here : bytes ≡ drop (entries_begin block) block = s.from ∙ ap (λ k. drop k block) s.place in
    subst (λ n. entries_stand block ≡ (list_all (entry_stands 0) (entries_of n bytes)
    && list_all (entry_stands 1) (entries_of dev (left_of n bytes)) && (length (left_of dev (left_of n bytes)) == 0))) (sym s.few)
    (subst (λ n. entries_stand block ≡ (list_all (entry_stands 0) (entries_of (field_count block) bytes)
    && list_all (entry_stands 1) (entries_of n (left_of (field_count block) bytes)) && (length (left_of n (left_of (field_count block) bytes)) == 0)))
    (sym s.few_dev)
    (subst (λ x. entries_stand block ≡ (list_all (entry_stands 0) (entries_of (field_count block) x)
    && list_all (entry_stands 1) (entries_of (dev_field_count block) (left_of (field_count block) x))
    && (length (left_of (dev_field_count block) (left_of (field_count block) x)) == 0))) (sym here)
    (entries_stand_is block (subst (λ k. k ≤ length block) s.place s.within) s.counts)))

pub fields_as : (block : List ℕ) (begin fields dev : ℕ) (bytes : List ℕ) → Begins block begin fields dev bytes → entries_of fields bytes ≡ field_entries block
fields_as block begin fields dev bytes s =
    ap (entries_of fields) (s.from ∙ ap (λ k. drop k block) s.place) ∙ ap (λ n. entries_of n (drop (entries_begin block) block)) s.few
    ∙ sym (field_entries_are block)

pub dev_as : (block : List ℕ) (begin fields dev : ℕ) (bytes after : List ℕ) → Begins block begin fields dev bytes → after ≡ left_of fields bytes
    → entries_of dev after ≡ dev_entries block
dev_as block begin fields dev bytes after s rest =
    ap (entries_of dev) (rest ∙ ap (left_of fields) (s.from ∙ ap (λ k. drop k block) s.place) ∙ ap (λ n. left_of n (drop (entries_begin block) block)) s.few)
    ∙ ap (λ n. entries_of n (left_of (field_count block) (drop (entries_begin block) block))) s.few_dev ∙ sym (dev_entries_are block)

-- ---- the same as a test goes on

-- the entries of the fields don't stand
pub no_fields : (block : List ℕ) (begin fields dev : ℕ) (bytes : List ℕ) → Begins block begin fields dev bytes
    → list_all (entry_stands 0) (entries_of fields bytes) ≡ false → entries_stand block ≡ false
no_fields block begin fields dev bytes s fails =
    stand_as block begin fields dev bytes s
    ∙ ap (λ a. a && list_all (entry_stands 1) (entries_of dev (left_of fields bytes)) && (length (left_of dev (left_of fields bytes)) == 0)) fails

-- those of the fields do, and those of the developer fields after them don't
pub no_dev : (block : List ℕ) (begin fields dev : ℕ) (bytes after : List ℕ) → Begins block begin fields dev bytes
    → list_all (entry_stands 0) (entries_of fields bytes) ≡ true → after ≡ left_of fields bytes
    → list_all (entry_stands 1) (entries_of dev after) ≡ false → entries_stand block ≡ false
no_dev block begin fields dev bytes after s all rest fails =
    stand_as block begin fields dev bytes s
    ∙ ap (λ a. a && list_all (entry_stands 1) (entries_of dev (left_of fields bytes)) && (length (left_of dev (left_of fields bytes)) == 0)) all
    ∙ ap (λ a. a && (length (left_of dev (left_of fields bytes)) == 0)) (ap (λ x. list_all (entry_stands 1) (entries_of dev x)) (sym rest) ∙ fails)

-- all do, and something is left or nothing
pub all_stand : (block : List ℕ) (begin fields dev : ℕ) (bytes after left : List ℕ) (empty : Bool) → Begins block begin fields dev bytes
    → list_all (entry_stands 0) (entries_of fields bytes) ≡ true → after ≡ left_of fields bytes
    → list_all (entry_stands 1) (entries_of dev after) ≡ true → left ≡ left_of dev after → (length left == 0) ≡ empty → entries_stand block ≡ empty
all_stand block begin fields dev bytes after left empty s all rest all_dev end is =
    stand_as block begin fields dev bytes s
    ∙ ap (λ a. a && list_all (entry_stands 1) (entries_of dev (left_of fields bytes)) && (length (left_of dev (left_of fields bytes)) == 0)) all
    ∙ ap (λ a. a && (length (left_of dev (left_of fields bytes)) == 0)) (ap (λ x. list_all (entry_stands 1) (entries_of dev x)) (sym rest) ∙ all_dev)
    ∙ ap (λ x. length (left_of dev x) == 0) (sym rest) ∙ ap (λ x. length x == 0) (sym end) ∙ is

-- ---- a walk over entries

pub one_more : (n m : ℕ) (bytes entry after : List ℕ) → n ≡ suc m → entry ≡ take (number_read 2 0 bytes) bytes → after ≡ drop (number_read 2 0 bytes) bytes
    → entries_of n bytes ≡ entry ∷ entries_of m after
one_more n m bytes entry after more first rest =
    ap (λ k. entries_of k bytes) more ∙ ap (λ x. x ∷ entries_of m (drop (number_read 2 0 bytes) bytes)) (sym first)
    ∙ ap (λ x. entry ∷ entries_of m x) (sym rest)

-- a list that is made of what entries say has one more
pub pushed : {X : Type 0} (f : List ℕ → X) (all xs ys : List X) (x : X) (es others : List (List ℕ)) (e : List ℕ) → all ≡ xs ++ map f es → es ≡ e ∷ others
    → ys ≡ xs ++ x ∷ [] → x ≡ f e → all ≡ ys ++ map f others
pushed f all xs ys x es others e told more new is =
    told ∙ ap (λ k. xs ++ map f k) more ∙ ap (λ y. xs ++ y ∷ map f others) (sym is) ∙ sym (append_assoc xs (x ∷ []) (map f others))
    ∙ ap (λ k. k ++ map f others) (sym new)

-- a test of each
pub tested : (p : List ℕ → Bool) (all : Bool) (es others : List (List ℕ)) (e : List ℕ) → all ≡ list_all p es → es ≡ e ∷ others → p e ≡ true
    → all ≡ list_all p others
tested p all es others e told more is = told ∙ ap (list_all p) more ∙ ap (λ b. b && list_all p others) is

pub fails_at : (p : List ℕ → Bool) (all : Bool) (es others : List (List ℕ)) (e : List ℕ) → all ≡ list_all p es → es ≡ e ∷ others → p e ≡ false → all ≡ false
fails_at p all es others e told more is = told ∙ ap (list_all p) more ∙ ap (λ b. b && list_all p others) is

-- the first of entries that stand does
pub first_stands : (d : ℕ) (es others : List (List ℕ)) (e : List ℕ) → list_all (entry_stands d) es ≡ true → es ≡ e ∷ others → entry_stands d e ≡ true
first_stands d es others e all more = (and_parts (entry_stands d e) (list_all (entry_stands d) others) (sym (ap (list_all (entry_stands d)) more) ∙ all)).0

pub others_stand : (d : ℕ) (es others : List (List ℕ)) (e : List ℕ) → list_all (entry_stands d) es ≡ true → es ≡ e ∷ others
    → list_all (entry_stands d) others ≡ true
others_stand d es others e all more = (and_parts (entry_stands d e) (list_all (entry_stands d) others) (sym (ap (list_all (entry_stands d)) more) ∙ all)).1

-- an entry that stands has 32 bytes
pub long_entry : (d : ℕ) (e : List ℕ) → entry_stands d e ≡ true → 32 ≤ length e
long_entry d e stands = grind (arith, stands)

pub long_bytes : (d k : ℕ) (bytes : List ℕ) → entry_stands d (take k bytes) ≡ true → 32 ≤ length bytes
long_bytes d k bytes stands = omega (arith, long_entry d (take k bytes) stands, length-take k bytes)
