-- A text that is spelled anew piece by piece stands for what was read of the other one.
use Rattle.std.proofs.Common.{◌≡◌, ◌&&◌, ◌+◌, ◌-◌, ◌<◌, ◌≤◌, Option, MatchOption, Bor, suc, zero, take, drop, length, get_or, slice_get, ◌∙◌, ◌++◌}
use Rattle.std.proofs.Common.{not, ◌∷◌, ◌==◌, [], ℕ, List, Bool, Some, None, refl, sym, ap, subst, arith, true, false, append_assoc}
use Rattle.std.proofs.lemmas.List.{append-nil}
use Rattle.std.proofs.lemmas.Bool.{ne_eqb}
use Rattle.std.proofs.lemmas.Grind.{take_at_read}
use Rattle.std.proofs.lemmas.Option.{same_Some}
use Rattle.csv.specs.Machine.{step}
use Rattle.std.specs.Cmp.Lexicographic.{pointwise}
use Rattle.csv.specs.Reading.{strip_bom}
use Rattle.csv.specs.declared.parser.State.{State}
use Rattle.csv.specs.declared.parser.State.TheVariants as st
use Rattle.fit_csv_text.specs.declared.loose.Spot.{Spot}
use Rattle.fit_csv_text.specs.declared.loose.Spot.TheVariants.{RowStart}
use Rattle.fit_csv_text.specs.inner.Loose.{Closes, EndsCell, HasRowsOf, NoneOf, Opens, StandsFor, WritesOn, is_mark}
use Rattle.fit_csv_text.specs.inner.Loose.{is_special}
use Rattle.fit_csv_text.specs.inner.Loose.{may_open, spot_after, spot_from, spot_state}
use Rattle.fit_csv_text.proofs.LooseReads.{run-copied, return-dropped, cell-end, dropped, kept}

-- ---- what was written goes on

pub spot-append : (spot : Spot) (a b : List ℕ) → spot_from spot (a ++ b) ≡ spot_from (spot_from spot a) b
unfolding spot_from
spot-append spot [] b = refl
spot-append spot (c ∷ a) b = spot-append (spot_after c) a b

abbrev At : Spot → List ℕ → List ℕ → Type 0
At spot left plain = HasRowsOf (spot_state spot) left (spot_state spot) plain

-- where a text leads after rows that have an end
spot-after-rows : (rows text : List ℕ) → spot_from RowStart rows ≡ RowStart → spot_from RowStart (rows ++ text) ≡ spot_from RowStart text
spot-after-rows rows text ends = spot-append RowStart rows text ∙ ap (λ (spot : Spot). spot_from spot text) ends

written-more : (from left written x : List ℕ)
    → ((p : List ℕ) → At (spot_from (spot_from RowStart written) x) left p → At (spot_from RowStart written) from (x ++ p))
    → WritesOn from left written (written ++ x)
written-more from left written x more text rows ends stands =
    let all : (p : List ℕ) → (rows ++ written) ++ (x ++ p) ≡ (rows ++ (written ++ x)) ++ p =
    λ p. sym (append_assoc (rows ++ written) x p) ∙ ap (λ (q : List ℕ). q ++ p) (append_assoc rows written x) in
    let after : spot_from RowStart (rows ++ (written ++ x)) ≡ spot_from (spot_from RowStart written) x =
    spot-after-rows rows (written ++ x) ends ∙ spot-append RowStart written x in record {
      goes_on = λ p h. subst (λ (q : List ℕ). HasRowsOf st.StartRecord text st.StartRecord q) (all p)
          (stands.goes_on (x ++ p) (subst (λ (spot : Spot). At spot from (x ++ p)) (sym (spot-after-rows rows written ends))
          (more p (subst (λ (spot : Spot). At spot left p) after h))));
    }

pub run-goes-on : (written x left : List ℕ) → NoneOf is_mark x → WritesOn (x ++ left) left written (written ++ x)
run-goes-on written x left plain = written-more (x ++ left) left written x (λ p h. run-copied (spot_from RowStart written) x left p plain h)

pub line-goes-on : (written left : List ℕ) → WritesOn (13 ∷ 10 ∷ left) left written (written ++ (10 ∷ []))
unfolding spot_from
line-goes-on written left = written-more (13 ∷ 10 ∷ left) left written (10 ∷ []) (λ p h. return-dropped (spot_from RowStart written) left p h)

pub bare-goes-on : (written bare after left spelled : List ℕ) → Opens (spot_from RowStart written) bare → NoneOf is_special bare
    → EndsCell after left spelled → WritesOn (34 ∷ (bare ++ (34 ∷ after))) left written (written ++ (bare ++ spelled))
bare-goes-on written bare after left spelled opens plain ends =
    let spot = spot_from RowStart written in
    written-more (34 ∷ (bare ++ (34 ∷ after))) left written (bare ++ spelled) (λ p h.
    subst (λ (q : List ℕ). At spot (34 ∷ (bare ++ (34 ∷ after))) q) (sym (append_assoc bare spelled p))
    (dropped spot bare after (spelled ++ p) opens plain (λ s2 comma line. cell-end (spot_from spot bare) s2 after left spelled p comma line ends
    (subst (λ (s : Spot). At s left p) (spot-append spot bare spelled) h))))

pub kept-goes-on : (written kept_cell after left spelled : List ℕ) → may_open (spot_from RowStart written) ≡ true → Closes true kept_cell
    → EndsCell after left spelled → WritesOn (34 ∷ (kept_cell ++ after)) left written (written ++ ((34 ∷ kept_cell) ++ spelled))
kept-goes-on written kept_cell after left spelled may closes ends =
    let spot = spot_from RowStart written in
    written-more (34 ∷ (kept_cell ++ after)) left written ((34 ∷ kept_cell) ++ spelled) (λ p h.
    subst (λ (q : List ℕ). At spot (34 ∷ (kept_cell ++ after)) (34 ∷ q)) (sym (append_assoc kept_cell spelled p))
    (kept spot kept_cell after (spelled ++ p) may closes (cell-end (spot_from spot (34 ∷ kept_cell)) st.AfterQuote after left spelled p refl refl ends
    (subst (λ (s : Spot). At s left p) (spot-append spot (34 ∷ kept_cell) spelled) h))))

pub stands-first : (text : List ℕ) → StandsFor text text []
unfolding spot_from
stands-first text = record { goes_on = λ p h. h }

pub same-text : (s : State) (t : List ℕ) → HasRowsOf s t s t
same-text s t = record { rows_of = λ fields field rows is. is }

-- ---- what the code tests

three : (a b c : Bool) → ((a && b) && c) ≡ (a && (b && (c && true)))
three true true true = refl
three true true false = refl
three true false c = refl
three false b c = refl

no-mark : (text : List ℕ) → pointwise ◌==◌ (take 3 text) (0xEF ∷ 0xBB ∷ 0xBF ∷ []) ≡ false → strip_bom text ≡ text
unfolding strip_bom
no-mark [] h = refl
no-mark (a ∷ []) h = refl
no-mark (a ∷ b ∷ []) h = refl
no-mark (a ∷ b ∷ c ∷ rest) h = rw (three (a == 0xEF) (b == 0xBB) (c == 0xBF) ∙ h) refl

never : (a : Bool) → (a && false) ≡ true → ⊥
never true h = cc h
never false h = cc h

never-two : (a b : Bool) → (a && (b && false)) ≡ true → ⊥
never-two true b h = never b h
never-two false b h = cc h

is-mark : (text : List ℕ) → pointwise ◌==◌ (take 3 text) (0xEF ∷ 0xBB ∷ 0xBF ∷ []) ≡ true → strip_bom text ≡ drop 3 text
unfolding strip_bom
is-mark [] h = cc
is-mark (a ∷ []) h = absurd (never (a == 0xEF) h)
is-mark (a ∷ b ∷ []) h = absurd (never-two (a == 0xEF) (b == 0xBB) h)
is-mark (a ∷ b ∷ c ∷ rest) h = rw (three (a == 0xEF) (b == 0xBB) (c == 0xBF) ∙ h) refl

pub mark-stripped : (text : List ℕ) (o : Option (Bor (List ℕ)))
    → MatchOption o (pointwise ◌==◌ (take 3 text) (0xEF ∷ 0xBB ∷ 0xBF ∷ []) ≡ false)
    (λ x. (pointwise ◌==◌ (take 3 text) (0xEF ∷ 0xBB ∷ 0xBF ∷ []) ≡ true) × (x.now ≡ drop 3 text) × (length x.now + 3 ≡ length text))
    → MatchOption o (strip_bom text ≡ text) (λ rest. strip_bom text ≡ rest.now)
mark-stripped text None h = no-mark text h
mark-stripped text (Some rest) h = is-mark text h.0 ∙ sym h.1

pub last-spot : (spot : Spot) (x : List ℕ) (c : ℕ) → slice_get x (length x - 1) ≡ Some c → spot_from spot x ≡ spot_after c
unfolding spot_from
last-spot spot [] c is = cc is
last-spot spot (b ∷ []) c is = ap spot_after (same_Some b c is)
last-spot spot (b ∷ d ∷ x) c is =
    let at : length (b ∷ d ∷ x) - 1 ≡ suc (length (d ∷ x) - 1) = omega arith in
    let further : slice_get (b ∷ d ∷ x) (suc (length (d ∷ x) - 1)) ≡ Some c = subst (λ k. slice_get (b ∷ d ∷ x) k ≡ Some c) at is in
    last-spot (spot_after b) (d ∷ x) c further

some-last : (b : ℕ) (x : List ℕ) → slice_get (b ∷ x) (length (b ∷ x) - 1) ≡ None → ⊥
some-last b [] is = cc is
some-last b (d ∷ x) is =
    let at : length (b ∷ d ∷ x) - 1 ≡ suc (length (d ∷ x) - 1) = omega arith in
    let further : slice_get (b ∷ d ∷ x) (suc (length (d ∷ x) - 1)) ≡ None = subst (λ k. slice_get (b ∷ d ∷ x) k ≡ None) at is in
    some-last d x further

pub no-last : (x : List ℕ) → slice_get x (length x - 1) ≡ None → RowStart ≡ spot_from RowStart x
unfolding spot_from
no-last [] is = refl
no-last (b ∷ x) is = absurd (some-last b x is)

no-equal : (b n : ℕ) → n < b → (b == n) ≡ false
no-equal b n high = ne_eqb b n (λ e. absurd (omega (arith, e)))

pub high-not-special : (b : ℕ) → 44 < b → false ≡ is_special b
high-not-special b high =
    rw (no-equal b 44 high, no-equal b 34 (omega arith), no-equal b 13 (omega arith), no-equal b 10 (omega arith)) refl

pub high-no-mark : (b : ℕ) → 34 < b → false ≡ is_mark b
high-no-mark b high = rw (no-equal b 34 high, no-equal b 13 (omega arith)) refl

-- bytes of which none passes a test
pub none-of : (test : ℕ → Bool) (n : ℕ) (text : List ℕ) → n ≤ length text → ((k : ℕ) → k < n → test (get_or text k 0) ≡ false) → NoneOf test (take n text)
unfolding NoneOf
none-of test zero text short none = tt
none-of test (suc n) [] short none = tt
none-of test (suc n) (c ∷ text) short none = (none 0 (omega arith), none-of test n text (omega arith) (λ k low. none (suc k) (omega arith)))

-- a cell that goes on between its quotes
pub closed : (is_open : Bool) (x : List ℕ) → is_open ≡ false → ((more : List ℕ) → Closes is_open more → Closes true (x ++ more)) → Closes true x
unfolding Closes
closed true x is goes = cc is
closed false x is goes = subst (λ (y : List ℕ). Closes true y) (append-nil x) (goes [] tt)

pub closes-more : (text : List ℕ) (i : ℕ) (is_open next : Bool) → i < length text
    → ((more : List ℕ) → Closes next more → Closes is_open (get_or text i 0 ∷ more))
    → ((more : List ℕ) → Closes is_open more → Closes true (take i text ++ more)) → (more : List ℕ) → Closes next more
    → Closes true (take (i + 1) text ++ more)
closes-more text i is_open next within step goes more closes =
    let b = get_or text i 0 in
    let front : take (i + 1) text ≡ take i text ++ (b ∷ []) = (take_at_read text i 0 within).1 in
    subst (λ (y : List ℕ). Closes true y) (sym (ap (λ (y : List ℕ). y ++ more) front ∙ append_assoc (take i text) (b ∷ []) more))
    (goes (b ∷ more) (step more closes))

pub quote-turns : (is_open : Bool) (b : ℕ) → b ≡ 34 → (more : List ℕ) → Closes (not is_open) more → Closes is_open (b ∷ more)
unfolding Closes
quote-turns true b is more closes = rw is closes
quote-turns false b is more closes = (is, closes)

pub plain-stays : (is_open : Bool) (b : ℕ) → is_open ≡ true → (b ≡ 34 → ⊥) → (more : List ℕ) → Closes is_open more → Closes is_open (b ∷ more)
unfolding Closes
plain-stays true b is other more closes = subst (λ quote. Closes (not quote) more) (sym (ne_eqb b 34 other)) closes
plain-stays false b is other more closes = cc is

-- what is written in two steps
pub both-go-on : (from middle left old some more : List ℕ) → WritesOn from middle old some → WritesOn middle left some more → WritesOn from left old more
both-go-on from middle left old some more first second text rows ends stands = second text rows ends (first text rows ends stands)

pub spot-of-last : (spot : Spot) (x : List ℕ) (c : ℕ) → spot_from spot (x ++ (c ∷ [])) ≡ spot_after c
unfolding spot_from
spot-of-last spot x c = spot-append spot x (c ∷ [])
