-- What the kinds of bytes say of a text.
use Rattle.std.proofs.Common.{◌≡◌, ◌∙◌, ◌<◌, ◌≤◌, ◌+◌, ℕ, zero, suc, Bool, true, false, List, [], ◌∷◌, length, take, get_or, max}
use Rattle.std.proofs.Common.{refl, sym, ap, ap₂, arith, subst, lit<, ◌==◌, ◌*◌, ◌^◌, inl, inr, Result, Ok, Err}
use Rattle.std.specs.Prelude.{not, ◌||◌, ◌&&◌, nat_lt, bit_or, bit_and}
use Rattle.std.specs.List.{list_any, list_all}
use Rattle.std.specs.Int.{bit_at}
use Rattle.std.proofs.Math.Bool.{not-not}
use Rattle.std.proofs.lemmas.Bool.{agree_below_at, and_parts, cases_Bool, eq-eqb, ne_eqb}
use Rattle.std.proofs.lemmas.Bool.Decides.{nat_tests}
use Rattle.std.proofs.lemmas.Nat.Bits.{bit_at-lt, bit_at_or, and_pow}
use Rattle.std.proofs.lemmas.List.{take_all}
use Rattle.std.proofs.lemmas.List.Folds.{list_any_more}
use Rattle.std.proofs.lemmas.Str.{is_utf8-from_IsUtf8, IsUtf8-from_ascii, IsUtf8-from_is_utf8}
use Rattle.std.proofs.lemmas.Str.Ascii.{IsAscii-nil, IsAscii-cons}
use Rattle.std.specs.Result.{MatchResult, is_ok}
use Rattle.std.specs.Str.{IsAscii, IsUtf8, is_utf8}
use Rattle.csv.specs.Writing.{default_writer, needs_byte, needs_quotes}
use Rattle.fit_base.specs.Numbers.{IsBytes}
use Rattle.fit_cells.specs.Cells.{begins_as_bytes, is_plain}
use Rattle.fit_cells.specs.declared.shown.TheConstants.{KINDS}

-- whether a byte's kind has a bit
abbrev has : ℕ → ℕ → Bool
has i b = bit_at (get_or KINDS b 0) i == 1

-- what is seen of bytes together
abbrev pub Seen : ℕ → List ℕ → Type 0
Seen kinds bytes = (i : ℕ) → (bit_at kinds i == 1) ≡ list_any (has i) bytes

either : (a b : ℕ) → a < 2 → b < 2 → (max a b == 1) ≡ ((a == 1) || (b == 1))
either zero zero h k = refl
either zero (suc zero) h k = refl
either (suc zero) zero h k = refl
either (suc zero) (suc zero) h k = refl
either (suc (suc a)) b h k = absurd (omega (arith, h))
either a (suc (suc b)) h k = absurd (omega (arith, k))

-- one byte more
pub seen_more : (bytes : List ℕ) (kinds k : ℕ) → k < length bytes → Seen kinds (take k bytes)
    → Seen (bit_or kinds (get_or KINDS (get_or bytes k 0) 0)) (take (k + 1) bytes)
seen_more bytes kinds k within seen i =
    let kind = get_or KINDS (get_or bytes k 0) 0 in
    ap (λ n. n == 1) (bit_at_or kinds kind i) ∙ either (bit_at kinds i) (bit_at kind i) (bit_at-lt kinds i) (bit_at-lt kind i)
    ∙ ap (λ b. b || has i (get_or bytes k 0)) (seen i) ∙ sym (list_any_more (has i) bytes k 0 within)

pub seen_all : (bytes : List ℕ) (kinds k : ℕ) → Seen kinds (take k bytes) → length bytes ≤ k → Seen kinds bytes
seen_all bytes kinds k seen end = subst (Seen kinds) (take_all k bytes end) seen

-- a bit is seen or not
bit : (a m : ℕ) → a < 2 → 0 < m → (a * m == 0) ≡ not (a == 1)
bit zero m h some = eq-eqb (0 * m) 0 (omega arith)
bit (suc zero) m h some = ne_eqb (1 * m) 0 (λ e. omega (arith, e, some))
bit (suc (suc a)) m h some = absurd (omega (arith, h))

none-seen : (kinds k m : ℕ) → 2 ^ k ≡ m → 0 < m → (bit_and kinds m == 0) ≡ not (bit_at kinds k == 1)
none-seen kinds k m is some =
    ap (λ n. bit_and kinds n == 0) (sym is) ∙ ap (λ n. n == 0) (and_pow kinds k ∙ ap (λ n. bit_at kinds k * n) is)
    ∙ bit (bit_at kinds k) m (bit_at-lt kinds k) some

-- ---- what the kinds are

any-same : (f g : ℕ → Bool) (bytes : List ℕ) → IsBytes bytes → ((b : ℕ) → b < 256 → f b ≡ g b) → list_any f bytes ≡ list_any g bytes
any-same f g [] are same = refl
any-same f g (b ∷ bytes) are same = ap₂ (λ x y. x || y) (same b (are 0)) (any-same f g bytes (λ k. are (suc k)) same)

none-all : (f g : ℕ → Bool) (bytes : List ℕ) → IsBytes bytes → ((b : ℕ) → b < 256 → not (f b) ≡ g b) → not (list_any f bytes) ≡ list_all g bytes
none-all f g [] are same = refl
none-all f g (b ∷ bytes) are same =
    neither (f b) (list_any f bytes) ∙ ap₂ (λ x y. x && y) (same b (are 0)) (none-all f g bytes (λ k. are (suc k)) same)
  where
    neither : (x y : Bool) → not (x || y) ≡ (not x && not y)
    neither true y = refl
    neither false y = refl

pub quotes_seen : (bytes : List ℕ) (kinds : ℕ) → IsBytes bytes → Seen kinds bytes → not (bit_and kinds 1 == 0) ≡ needs_quotes default_writer bytes
quotes_seen bytes kinds are seen =
    ap not (none-seen kinds 0 1 refl (lit< tt)) ∙ not-not (bit_at kinds 0 == 1) ∙ seen 0
    ∙ any-same (has 0) (needs_byte default_writer) bytes are (λ b. agree_below_at (has 0) (needs_byte default_writer) 256 b refl)

pub ascii_seen : (bytes : List ℕ) (kinds : ℕ) → IsBytes bytes → Seen kinds bytes → (bit_and kinds 2 == 0) ≡ list_all (λ b. nat_lt b 128) bytes
ascii_seen bytes kinds are seen =
    none-seen kinds 1 2 refl (lit< tt) ∙ ap not (seen 1)
    ∙ none-all (has 1) (λ b. nat_lt b 128) bytes are (λ b. agree_below_at (λ c. not (has 1 c)) (λ c. nat_lt c 128) 256 b refl)

pub zero_seen : (bytes : List ℕ) (kinds : ℕ) → IsBytes bytes → Seen kinds bytes → (bit_and kinds 4 == 0) ≡ list_all (λ b. not (b == 0)) bytes
zero_seen bytes kinds are seen =
    none-seen kinds 2 4 refl (lit< tt) ∙ ap not (seen 2)
    ∙ none-all (has 2) (λ b. not (b == 0)) bytes are (λ b. agree_below_at (λ c. not (has 2 c)) (λ c. not (c == 0)) 256 b refl)

-- ---- texts that can stand as they are

ascii : (text : List ℕ) → list_all (λ b. nat_lt b 128) text ≡ true → IsAscii text
ascii [] h = IsAscii-nil
ascii (b ∷ text) h =
    let parts = and_parts (nat_lt b 128) (list_all (λ b. nat_lt b 128) text) h in IsAscii-cons b text (grind (arith, nat_tests, parts.0)) (ascii text parts.1)

pub plain_ascii : (text : List ℕ) → list_all (λ b. nat_lt b 128) text ≡ true → list_all (λ b. not (b == 0)) text ≡ true → begins_as_bytes text ≡ false
    → is_plain text ≡ true
plain_ascii text low some other = rw (is_utf8-from_IsUtf8 text (IsUtf8-from_ascii text (ascii text low)), some, other) refl

pub plain_utf8 : {X Y : Type 0} (P : X → Type 0) (Q : Y → Type 0) (text : List ℕ) (read : Result X Y)
    → MatchResult read (λ x. P x × IsUtf8 text) (λ y. (IsUtf8 text → ⊥) × Q y) → list_all (λ b. not (b == 0)) text ≡ true → begins_as_bytes text ≡ false
    → is_ok read ≡ is_plain text
plain_utf8 P Q text (Ok x) h some other = sym (rw (is_utf8-from_IsUtf8 text h.1, some, other) refl)
plain_utf8 P Q text (Err y) h some other = elim (cases_Bool (is_utf8 text)) [
  | inl utf8 ↦ absurd (h.0 (IsUtf8-from_is_utf8 text utf8))
  | inr none ↦ sym (rw none refl)
]
