-- Bytes that are spelled one after another.
use Rattle.fit_encode.proofs.Common.{◌≡◌, ℕ, ◌<◌, add-zero, Bool, true, false, List, [], ◌∷◌, ◌++◌, length, take, drop, get_or, sym, ap, ◌∙◌, subst, refl}
use Rattle.fit_encode.proofs.Common.{append_assoc, append-nil, length-append, length-take, arith, flat_map, IsErrAnd, Appends, Appends-trans, Appends-nil}
use Rattle.fit_encode.proofs.Common.{take_more, drop_more, take-append-drop, take-append_seam, Written, Sending, Spells, Breaks, Sends, PutsAll, IsCounted}
use Rattle.fit_encode.proofs.Common.{fresh, StopsAt}
use Rattle.std.proofs.Common.{◌+◌, ◌^◌, Option, Result, Ok, Err, length-drop}
use Rattle.std.proofs.lemmas.List.Concat.{flat_map-append}

pub IsCounted-more : (n m k : ℕ) (p q : List ℕ) → IsCounted n (length p) m → IsCounted m (length q) k → IsCounted n (length (p ++ q)) k
IsCounted-more n m k p q first second fits =
    let both = length-append p q in
    let here : m ≡ n + length p = first (omega arith) in
    let there : k ≡ m + length q = second (omega arith) in
    omega arith

-- ---- one after another

-- a sink that took some of the second bytes, or else of the first ones
works-on : (p q : List ℕ) {x y : Bool} → (0 < length p → x ≡ false) → (0 < length q → y ≡ false) → (x ≡ false → y ≡ false) → 0 < length (p ++ q) → y ≡ false
works-on p [] first second kept some = kept (first (subst (λ (z : List ℕ). 0 < length z) (append-nil p) some))
works-on p (b ∷ q) first second kept some = second (omega arith)

-- nothing is spelled, and nothing went out
pub Spells-none : (a : Written) (s : Sending) → Spells a a s s []
Spells-none a s = record {
  went = [];
  appended = Appends-nil a.held;
  sent = sym (append-nil s.sent);
  joined = sym (append-nil s.held);
  total = λ _. sym (add-zero s.count);
  works = λ some. absurd (let none : 0 < 0 = some in omega arith);
  keeps = λ good. good;
}

-- what went out, went out first
pub Spells-on : {a b c : Written} {s t u : Sending} {p q : List ℕ} → Spells a b s t p → Spells b c t u q → Spells a c s u (p ++ q)
Spells-on {a} {b} {c} {s} {t} {u} {p} {q} first second = record {
  went = first.went ++ second.went;
  appended = Appends-trans a.held b.held c.held first.went second.went first.appended second.appended;
  sent = second.sent ∙ ap (λ (x : List ℕ). x ++ second.went) first.sent ∙ append_assoc s.sent first.went second.went;
  joined = append_assoc first.went second.went u.held ∙ ap (λ (x : List ℕ). first.went ++ x) second.joined
      ∙ sym (append_assoc first.went t.held q) ∙ ap (λ (x : List ℕ). x ++ q) first.joined ∙ append_assoc s.held p q;
  total = IsCounted-more _ _ _ first.went second.went first.total second.total;
  works = works-on first.went second.went first.works second.works second.keeps;
  keeps = λ good. second.keeps (first.keeps good);
}

pub Breaks-on : {a b c : Written} {s t : Sending} {p q : List ℕ} {w : ℕ} → Spells a b s t p → Breaks b c t q w → Breaks a c s (p ++ q) w
Breaks-on {a} {b} {c} {s} {t} {p} {q} {w} first second = record {
  went = first.went ++ second.went;
  rest = second.rest;
  appended = Appends-trans a.held b.held c.held first.went second.went first.appended second.appended;
  joined = append_assoc first.went second.went second.rest ∙ ap (λ (x : List ℕ). first.went ++ x) second.joined
      ∙ sym (append_assoc first.went t.held q) ∙ ap (λ (x : List ℕ). x ++ q) first.joined ∙ append_assoc s.held p q;
  some = second.some;
  total = IsCounted-more _ _ _ first.went second.went first.total second.total;
  stopped = second.stopped;
}

pub Breaks-more : {a b : Written} {s : Sending} {p : List ℕ} {w : ℕ} (q : List ℕ) → Breaks a b s p w → Breaks a b s (p ++ q) w
Breaks-more {a} {b} {s} {p} {w} q h = record {
  went = h.went;
  rest = h.rest ++ q;
  appended = h.appended;
  joined = sym (append_assoc h.went h.rest q) ∙ ap (λ (x : List ℕ). x ++ q) h.joined ∙ append_assoc s.held p q;
  some = (let more = length-append h.rest q in let some = h.some in omega arith);
  total = h.total;
  stopped = h.stopped;
}

-- ---- a put

-- a part of what was held went out
pub Breaks-flush : (a b : Written) (s : Sending) (held : List ℕ) (k w : ℕ) → held ≡ s.held → Appends a.held b.held (take k held) → k < length held
    → IsCounted s.count k w → b.failed ≡ true → Breaks a b s [] w
Breaks-flush a b s held k w e went less total stopped = record {
  went = take k held;
  rest = drop k held;
  appended = went;
  joined = take-append-drop k held ∙ e ∙ sym (append-nil s.held);
  some = omega (arith, length-drop k held);
  total = subst (λ (n : ℕ). IsCounted s.count n w) (omega (arith, length-take k held)) total;
  stopped = stopped;
}

-- bytes that are held back
pub Spells-held : {a b : Written} {s t : Sending} (u : Sending) (p : List ℕ) → Spells a b s t [] → u.sent ≡ t.sent → u.held ≡ t.held ++ p → u.count ≡ t.count
    → Spells a b s u p
Spells-held {a} {b} {s} {t} u p h sent held count = record {
  went = h.went;
  appended = h.appended;
  sent = sent ∙ h.sent;
  joined = ap (λ (x : List ℕ). h.went ++ x) held ∙ sym (append_assoc h.went t.held p) ∙ ap (λ (x : List ℕ). x ++ p) (h.joined ∙ append-nil s.held);
  total = λ fits. count ∙ h.total fits;
  works = h.works;
  keeps = h.keeps;
}

-- ---- the same bytes in other words

pub Spells-as : {a b : Written} {s t : Sending} {p q : List ℕ} → p ≡ q → Spells a b s t p → Spells a b s t q
Spells-as {a} {b} {s} {t} e h = subst (Spells a b s t) e h

pub Breaks-as : {a b : Written} {s : Sending} {p q : List ℕ} {w : ℕ} → p ≡ q → Breaks a b s p w → Breaks a b s q w
Breaks-as {a} {b} {s} {p} {q} {w} e h = subst (λ (y : List ℕ). Breaks a b s y w) e h

-- a call that failed, and whose error the `?` after it passes on
pub Sends-err : {T : Type 0} (a b : Written) (s t : Sending) (p : List ℕ) (r : Result T ℕ) {w : ℕ} → IsErrAnd r (λ y. y ≡ w)
    → Breaks a b s p w → Sends a b s t p r
Sends-err a b s t p (Ok x) h broken = absurd h
Sends-err a b s t p (Err y) h broken = subst (λ v. Breaks a b s p v) (sym h) broken

pub PutsAll-err : (a b : Written) (count : ℕ) (p : List ℕ) (r : Result ℕ ℕ) {w : ℕ} → IsErrAnd r (λ y. y ≡ w) → Breaks a b (fresh count) p w
    → PutsAll a b count p r
PutsAll-err a b count p (Ok x) h broken = absurd h
PutsAll-err a b count p (Err y) h broken = subst (λ v. Breaks a b (fresh count) p v) (sym h) broken

-- a call after another, which is the last one
pub Sends-on : {T : Type 0} (a b c : Written) (s t u : Sending) (p q bytes : List ℕ) (r : Result T ℕ) → p ++ q ≡ bytes → Spells a b s t p
    → Sends b c t u q r → Sends a c s u bytes r
Sends-on a b c s t u p q bytes (Ok x) e first second = Spells-as e (Spells-on first second)
Sends-on a b c s t u p q bytes (Err w) e first second = Breaks-as e (Breaks-on first second)

-- ---- from a state to another

-- what is sent and held is what was, and the bytes that were spelled
pub all_spelled : {a b : Written} {s t : Sending} {p : List ℕ} → Spells a b s t p → t.sent ++ t.held ≡ s.sent ++ (s.held ++ p)
all_spelled {a} {b} {s} {t} {p} h = ap (λ (x : List ℕ). x ++ t.held) h.sent ∙ append_assoc s.sent h.went t.held ∙ ap (λ (x : List ℕ). s.sent ++ x) h.joined

-- all that was held went out
pub all_sent : {a b : Written} {s t : Sending} → Spells a b s t [] → t.held ≡ [] → t.sent ≡ s.sent ++ s.held
all_sent {a} {b} {s} {t} h none =
    sym (ap (λ (x : List ℕ). t.sent ++ x) none ∙ append-nil t.sent) ∙ all_spelled h ∙ ap (λ (x : List ℕ). s.sent ++ x) (append-nil s.held)

-- where nothing is held before and after, just these bytes went out
pub went_out : {a b : Written} {s t : Sending} {p : List ℕ} → Spells a b s t p → s.held ≡ [] → t.held ≡ []
    → Appends a.held b.held p × (t.sent ≡ s.sent ++ p) × IsCounted s.count (length p) t.count × (0 < length p → b.failed ≡ false)
went_out {a} {b} {s} {t} {p} h before after =
    let is : h.went ≡ p = sym (ap (λ (x : List ℕ). h.went ++ x) after ∙ append-nil h.went) ∙ h.joined ∙ ap (λ (x : List ℕ). x ++ p) before in (
      subst (Appends a.held b.held) is h.appended,
      h.sent ∙ ap (λ (x : List ℕ). s.sent ++ x) is,
      subst (λ (x : List ℕ). IsCounted s.count (length x) t.count) is h.total,
      subst (λ (x : List ℕ). 0 < length x → b.failed ≡ false) is h.works,
    )

pub Spells-from : {a b : Written} {s r t : Sending} {p : List ℕ} → s ≡ r → Spells a b s t p → Spells a b r t p
Spells-from {a} {b} {s} {r} {t} {p} e h = subst (λ x. Spells a b x t p) e h

pub Breaks-from : {a b : Written} {s r : Sending} {p : List ℕ} {w : ℕ} → s ≡ r → Breaks a b s p w → Breaks a b r p w
Breaks-from {a} {b} {s} {r} {p} {w} e h = subst (λ x. Breaks a b x p w) e h

pub Appends-as : (a c : Option (List ℕ)) {p q : List ℕ} → p ≡ q → Appends a c p → Appends a c q
Appends-as a c e h = subst (Appends a c) e h

pub IsCounted-as : (n m : ℕ) {p q : List ℕ} → p ≡ q → IsCounted n (length p) m → IsCounted n (length q) m
IsCounted-as n m e h = subst (λ (x : List ℕ). IsCounted n (length x) m) e h

pub StopsAt-as : {a c : Option (List ℕ)} {f : Bool} {p q : List ℕ} {w : ℕ} → p ≡ q → StopsAt a c f p w → StopsAt a c f q w
StopsAt-as {a} {c} {f} {p} {q} {w} e h = subst (λ (x : List ℕ). StopsAt a c f x w) e h

-- The sink failed in the middle of some bytes, after all that came before and ahead of what was to follow.
pub stops_at : {a : Option (List ℕ)} {b c : Written} {w : ℕ} (front bytes back : List ℕ) (count : ℕ) → length ((front ++ bytes) ++ back) < 2 ^ 64
    → Appends a b.held front
    → IsCounted 0 (length front) count → Breaks b c (fresh count) bytes w → StopsAt a c.held c.failed ((front ++ bytes) ++ back) w
stops_at {a} {b} {c} {w} front bytes back count short first counted broken =
    let whole = length-append (front ++ bytes) back in
    let halves = length-append front bytes in
    let joined = ap length broken.joined in
    let parts = length-append broken.went broken.rest in
    let before_is = counted (omega arith) in
    let before : count ≡ length front = omega arith in
    let there : w ≡ count + length broken.went = broken.total (omega arith) in
    let is : w ≡ length (front ++ broken.went) = omega (arith, length-append front broken.went) in
    let all : (front ++ broken.went) ++ (broken.rest ++ back) ≡ (front ++ bytes) ++ back =
    append_assoc front broken.went (broken.rest ++ back)
    ∙ ap (λ (x : List ℕ). front ++ x) (sym (append_assoc broken.went broken.rest back) ∙ ap (λ (x : List ℕ). x ++ back) broken.joined)
    ∙ sym (append_assoc front bytes back) in
    record {
      part = omega arith;
      first = subst (Appends a c.held) (sym (ap (λ (x : List ℕ). take w x) (sym all) ∙ ap (λ n. take n ((front ++ broken.went) ++ (broken.rest ++ back))) is
          ∙ take-append_seam (front ++ broken.went) (broken.rest ++ back))) (Appends-trans a b.held c.held front broken.went first broken.appended);
      stopped = broken.stopped;
    }

-- The same of bytes that nothing went before.
pub stops_in : {a b : Written} {w : ℕ} (bytes : List ℕ) → length bytes < 2 ^ 64 → Breaks a b (fresh 0) bytes w → StopsAt a.held b.held b.failed bytes w
stops_in {a} {b} {w} bytes short broken =
    let same : bytes ++ [] ≡ bytes = append-nil bytes in
    StopsAt-as same (stops_at [] bytes [] 0 (subst (λ (x : List ℕ). length x < 2 ^ 64) (sym same) short) (Appends-nil a.held) (λ _. refl) broken)

-- ---- lists

-- a list, with one element of it by its place
pub split_here : {X : Type 0} (xs : List X) (i : ℕ) (d x : X) → i < length xs → x ≡ get_or xs i d → xs ≡ take i xs ++ x ∷ drop (i + 1) xs
split_here xs i d x less is =
    sym (take-append-drop i xs) ∙ ap (λ y. take i xs ++ y) (drop_more xs i d less ∙ ap (λ y. y ∷ drop (i + 1) xs) (sym is))

pub one_more : {X : Type 0} (xs : List X) (i : ℕ) (d x : X) → i < length xs → x ≡ get_or xs i d → take (i + 1) xs ≡ take i xs ++ x ∷ []
one_more xs i d x less is = take_more xs i d less ∙ ap (λ y. take i xs ++ y ∷ []) (sym is)

-- a part for each element, of which some are spelled
pub parts_of : {X : Type 0} (f : X → List ℕ) (xs : List X) (i : ℕ) (d x : X) → i < length xs → x ≡ get_or xs i d
    → (flat_map f (take i xs) ++ f x) ++ flat_map f (drop (i + 1) xs) ≡ flat_map f xs
parts_of f xs i d x less is =
    append_assoc (flat_map f (take i xs)) (f x) (flat_map f (drop (i + 1) xs))
    ∙ sym (ap (flat_map f) (split_here xs i d x less is) ∙ flat_map-append f (take i xs) (x ∷ drop (i + 1) xs))

pub next_part_of : {X : Type 0} (f : X → List ℕ) (xs : List X) (i : ℕ) (d x : X) → i < length xs → x ≡ get_or xs i d
    → flat_map f (take i xs) ++ f x ≡ flat_map f (take (i + 1) xs)
next_part_of f xs i d x less is =
    sym (ap (flat_map f) (one_more xs i d x less is) ∙ flat_map-append f (take i xs) (x ∷ [])
    ∙ ap (λ (y : List ℕ). flat_map f (take i xs) ++ y) (append-nil (f x)))

pub Spells-next : {X : Type 0} {a b c : Written} {s t u : Sending} (f : X → List ℕ) (xs : List X) (i : ℕ) (d x : X) → i < length xs → x ≡ get_or xs i d
    → Spells a b s t (flat_map f (take i xs)) → Spells b c t u (f x) → Spells a c s u (flat_map f (take (i + 1) xs))
Spells-next f xs i d x less is first second = Spells-as (next_part_of f xs i d x less is) (Spells-on first second)

pub Breaks-next : {X : Type 0} {a b c : Written} {s t : Sending} {w : ℕ} (f : X → List ℕ) (xs : List X) (i : ℕ) (d x : X) → i < length xs → x ≡ get_or xs i d
    → Spells a b s t (flat_map f (take i xs)) → Breaks b c t (f x) w → Breaks a c s (flat_map f xs) w
Breaks-next f xs i d x less is first second =
    Breaks-as (parts_of f xs i d x less is) (Breaks-more (flat_map f (drop (i + 1) xs)) (Breaks-on first second))
