-- Records one after another, and the one that is next.
use Rattle.fit_encode.proofs.Common.{◌≡◌, ℕ, ◌<◌, List, [], ◌∷◌, ◌++◌, length, take, drop, get_or, sym, ap, ◌∙◌, subst, append-nil, length-take, arith, Record}
use Rattle.fit_encode.proofs.Common.{Environment, empty_environment, learn, learn_all, Fits, AllFit, record_bytes, records_bytes, all_fit-append}
use Rattle.fit_encode.proofs.Common.{learn_all-append, records_bytes-append, AtRecord}
use Rattle.std.proofs.Common.{◌+◌, ◌^◌}
use Rattle.fit_encode.proofs.Sendings.{split_here, one_more}

pub records_bytes-last : {A : Type 0} (e : Environment A) (xs : List (Record A)) (r : Record A)
    → records_bytes e (xs ++ r ∷ []) ≡ records_bytes e xs ++ record_bytes (learn_all e xs) r
records_bytes-last e xs r = records_bytes-append e xs (r ∷ []) ∙ ap (λ (y : List ℕ). records_bytes e xs ++ y) (append-nil (record_bytes (learn_all e xs) r))

-- ---- with one more record of a list

pub next_known : {A : Type 0} (e : Environment A) (rs : List (Record A)) (i : ℕ) (r : Record A) → i < length rs → r ≡ get_or rs i r
    → learn (learn_all e (take i rs)) r ≡ learn_all e (take (i + 1) rs)
next_known e rs i r less is = sym (ap (learn_all e) (one_more rs i r r less is) ∙ learn_all-append e (take i rs) (r ∷ []))

pub next_fit : {A : Type 0} (e : Environment A) (rs : List (Record A)) (i : ℕ) (r : Record A) → i < length rs → r ≡ get_or rs i r
    → AllFit e (take i rs) → Fits (learn_all e (take i rs)) r → AllFit e (take (i + 1) rs)
next_fit e rs i r less is all one = subst (AllFit e) (sym (one_more rs i r r less is)) (all_fit-append e (take i rs) (r ∷ []) all (one, tt))

pub next_bytes : {A : Type 0} (e : Environment A) (rs : List (Record A)) (i : ℕ) (r : Record A) → i < length rs → r ≡ get_or rs i r
    → records_bytes e (take (i + 1) rs) ≡ records_bytes e (take i rs) ++ record_bytes (learn_all e (take i rs)) r
next_bytes e rs i r less is = ap (records_bytes e) (one_more rs i r r less is) ∙ records_bytes-last e (take i rs) r

-- the record at a place, after those before it
pub at_record : {A : Type 0} (P : Environment A → ℕ → Record A → Type 0) (rs : List (Record A)) (i : ℕ) (r : Record A) → i < length rs → r ≡ get_or rs i r
    → AllFit empty_environment (take i rs) → length (records_bytes empty_environment (take i rs)) < 2 ^ 32
    → P (learn_all empty_environment (take i rs)) (length (records_bytes empty_environment (take i rs))) r → AtRecord rs i P
at_record P rs i r less is all short here = record {
  front = take i rs;
  this = r;
  back = drop (i + 1) rs;
  joined = split_here rs i r r less is;
  place = omega (arith, length-take i rs);
  fit = all;
  short = short;
  holds = here;
}

-- the record at a place of records that fit
pub fits_between : {A : Type 0} (e : Environment A) (front : List (Record A)) (r : Record A) (back : List (Record A)) → AllFit e (front ++ r ∷ back)
    → Fits (learn_all e front) r
fits_between e [] r back h = h.0
fits_between e (x ∷ front) r back h = fits_between (learn e x) front r back h.1
