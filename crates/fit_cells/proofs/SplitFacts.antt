-- The items of a cell, cut at its bars.
use Rattle.fit_cells.proofs.Common.{All-head, All, ◌≡◌, ◌∙◌, ℕ, suc, ◌+◌, ◌<◌, false, List, [], ◌∷◌, ◌++◌, length, map, drop, get_or, refl, sym, ap, arith}
use Rattle.fit_cells.proofs.Common.{add-one, drop-cons, position_or_len, before_first, after_first, ne_eqb, barred, is_bar}
use Rattle.std.proofs.Common.{append-nil}
use Rattle.std.proofs.Math.Numerals.{one-add}
use Rattle.fit_cells.proofs.TextFacts.{Low}

plain-byte : (b : ℕ) → b < 124 → is_bar b ≡ false
plain-byte b h = ne_eqb b 124 (λ e. absurd (omega (arith, e, h)))

before-bar : (text rest : List ℕ) → Low text → before_first is_bar (text ++ (124 ∷ rest)) ≡ text
before-bar [] rest h = refl
before-bar (b ∷ text) rest h = rw (plain-byte b h.0, one-add) (ap (λ t. b ∷ t) (before-bar text rest h.1))

before-end : (text : List ℕ) → Low text → before_first is_bar text ≡ text
before-end [] h = refl
before-end (b ∷ text) h = rw (plain-byte b h.0, one-add) (ap (λ t. b ∷ t) (before-end text h.1))

place-bar : (text rest : List ℕ) → Low text → position_or_len is_bar (text ++ (124 ∷ rest)) ≡ length text
place-bar [] rest h = refl
place-bar (b ∷ text) rest h = rw (plain-byte b h.0, one-add) (ap suc (place-bar text rest h.1))

place-end : (text : List ℕ) → Low text → position_or_len is_bar text ≡ length text
place-end [] h = refl
place-end (b ∷ text) h = rw (plain-byte b h.0, one-add) (ap suc (place-end text h.1))

drop-text : (text rest : List ℕ) (c : ℕ) → drop (suc (length text)) (text ++ (c ∷ rest)) ≡ rest
drop-text [] rest c = refl
drop-text (b ∷ text) rest c = drop-text text rest c

drop-past : (text : List ℕ) → drop (suc (length text)) text ≡ []
drop-past [] = refl
drop-past (b ∷ text) = drop-past text

after-bar : (text rest : List ℕ) → Low text → after_first is_bar (text ++ (124 ∷ rest)) ≡ rest
after-bar text rest h = ap (λ n. drop (n + 1) (text ++ (124 ∷ rest))) (place-bar text rest h) ∙ ap (λ n. drop n (text ++ (124 ∷ rest))) (add-one (length text))
    ∙ drop-text text rest 124

after-end : (text : List ℕ) → Low text → after_first is_bar text ≡ []
after-end text h = ap (λ n. drop (n + 1) text) (place-end text h) ∙ ap (λ n. drop n text) (add-one (length text)) ∙ drop-past text

-- the first of texts with a bar between one and the next, and the others
pub first-text : (x : List ℕ) (xs : List (List ℕ)) → Low x → before_first is_bar (barred (x ∷ xs)) ≡ x
first-text x [] h = ap (before_first is_bar) (append-nil x) ∙ before-end x h
first-text x (y ∷ ys) h = before-bar x (barred (y ∷ ys)) h

pub other-texts : (x : List ℕ) (xs : List (List ℕ)) → Low x → after_first is_bar (barred (x ∷ xs)) ≡ barred xs
other-texts x [] h = ap (after_first is_bar) (append-nil x) ∙ after-end x h
other-texts x (y ∷ ys) h = after-bar x (barred (y ∷ ys)) h

from-here : (f : ℕ → List ℕ) (bits : List ℕ) (k : ℕ) → k < length bits → barred (map f (drop k bits)) ≡ barred (f (get_or bits k 0) ∷ map f (drop (k + 1) bits))
from-here f bits k h = ap (λ xs. barred (map f xs)) (drop-cons bits k 0 h ∙ ap (λ n. get_or bits k 0 ∷ drop n bits) (sym (add-one k)))

pub piece : (f : ℕ → List ℕ) (bits rest : List ℕ) (k : ℕ) → ((n : ℕ) → Low (f n)) → k < length bits → rest ≡ barred (map f (drop k bits))
    → before_first is_bar rest ≡ f (get_or bits k 0)
piece f bits rest k low h e = ap (before_first is_bar) (e ∙ from-here f bits k h)
    ∙ first-text (f (get_or bits k 0)) (map f (drop (k + 1) bits)) (low (get_or bits k 0))

pub after-piece : (f : ℕ → List ℕ) (bits rest : List ℕ) (k : ℕ) → ((n : ℕ) → Low (f n)) → k < length bits → rest ≡ barred (map f (drop k bits))
    → after_first is_bar rest ≡ barred (map f (drop (k + 1) bits))
after-piece f bits rest k low h e = ap (after_first is_bar) (e ∙ from-here f bits k h)
    ∙ other-texts (f (get_or bits k 0)) (map f (drop (k + 1) bits)) (low (get_or bits k 0))

-- an item that stands alone
pub lone_list : (f : ℕ → List ℕ) (limit count : ℕ) (text bits : List ℕ) → count ≡ 1 → ((n : ℕ) → n < limit → text ≡ f n → bits ≡ n ∷ [])
    → (numbers : List ℕ) → length numbers ≡ count → All (λ n. n < limit) numbers → text ≡ barred (map f numbers) → bits ≡ numbers
lone_list f limit count text bits one every [] len all e = absurd (omega (arith, one, len))
lone_list f limit count text bits one every (n ∷ []) len all e = every n (All-head (λ m. m < limit) n [] all) (e ∙ append-nil (f n))
lone_list f limit count text bits one every (n ∷ m ∷ rest) len all e = absurd (omega (arith, one, len))
